-- What the functions that copy bytes ask of their callers, and what they leave.
use Rattle.std.specs.Prelude.{◌≡◌, Result, Ok, List, ℕ, ◌+◌, ◌*◌, ◌≤◌, ◌<◌}
use Rattle.std.proofs.lemmas.List.Edits.{sets}
use Rattle.layout.specs.declared.Refusal.{Refusal}
use Rattle.layout.specs.inner.Served.{block_list}
use Rattle.card.specs.inner.Cards.{card_with}
use Rattle.plain.specs.Reading.{gather, Gathered}
use Rattle.plain.specs.inner.Forms.{range}
use Rattle.finding.specs.inner.Bounds.{Ranged}
use Rattle.finding.specs.inner.Runs.{clean, got_bytes, Noted}

-- whether a run was copied, or why not, and the buffer behind it
pub record Copied : Type 0 where
  pub whole : Result (Unit {0}) Refusal
  pub after : List ℕ

unfoldable pub copied_of : List ℕ → Gathered → Copied
copied_of buffer g = record { whole = clean g; after = sets buffer 0 (got_bytes g) }

-- n bytes from position p on, at least one, with room for all.
pub record Roomy (size p n room : ℕ) : Type 0 where
  pub run : Ranged size p n
  pub some : 0 < n
  pub fits : n ≤ room

-- A part of a block that lies in the image, with room for it from place `to` on.
pub record Parted (B k off m to len room : ℕ) : Type 0 where
  pub block : k * B + B ≤ len
  pub inside : off + m ≤ B
  pub fits : to + m ≤ room

-- The lookups of all their blocks find them, the first are noted, and there is room for the bytes from place `to` on.
pub record Cleared (image : List ℕ) (B N head size p n to room : ℕ) (blocks : List ℕ) : Type 0 where
  pub run : Ranged size p n
  pub some : 0 < n
  pub found : clean (gather n (card_with B N image) (block_list head size) (range p n)) ≡ Ok tt
  pub noted : Noted image B N head size p n blocks
  pub fits : to + n ≤ room
