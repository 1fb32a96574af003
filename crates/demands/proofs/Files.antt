-- The bytes of a sound list, as the write's theory has them, are its plain file. Assumes nothing.
use mathlib.Core.Path.{◌≡◌, sym, ◌∙◌}
use mathlib.Core.List.{List}
use Prim.Native.Nat.{ℕ, ◌<◌}
use lib.Seq.{ext_get_or}
use Rattle.layout.specs.inner.Served.{block_list}
use Rattle.card.specs.inner.Cards.{card_with}
use Rattle.ctz.specs.Lists.{SoundList, block_at}
use Rattle.plain.specs.Bytes as plain
use Rattle.plain.specs.inner.Forms.{GoodList}
use Rattle.plain.proofs.Files as files
use Rattle.writes.proofs.Holds.{bytes_length, bytes_at_lem}
use Rattle.writes.proofs.Cells.{cell, byte_by, bytes_by}

-- both are the same list of bytes
pub bytes_is : {B N : ℕ} {img : List ℕ} {head s : ℕ} → GoodList B N img s → SoundList (card_with B N img) (block_list head s)
    → bytes_by B img (block_at B img (block_list head s)) s ≡ plain.bytes B img (block_list head s)
unfolding byte_by cell
bytes_is {B} {N} {img} {head} {s} g l =
    let lb = bytes_length B img (block_at B img (block_list head s)) s in
    ext_get_or 0 (bytes_by B img (block_at B img (block_list head s)) s) (plain.bytes B img (block_list head s)) (lb ∙ sym (files.bytes_length g l))
    (λ p u.
    let v : p < s = rw lb at u in
    bytes_at_lem B img (block_at B img (block_list head s)) s p v ∙ sym (files.byte_image g l p v))
