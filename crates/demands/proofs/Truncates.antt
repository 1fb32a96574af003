-- Truncate: growing is a write of zeros at the old size, shrinking takes the block of the last kept byte as head. Assumes nothing.
use mathlib.Core.Path.{◌≡◌, sym, ap, ◌∙◌, subst}
use mathlib.Core.Bool.{true, false}
use mathlib.Core.List.{List, [], ◌++◌}
use Prim.Native.Nat.{ℕ, ◌-◌, ◌≤◌, ◌<◌}
use native.Mathlib.Omega.{arith}
use lib.ListN.{get_or, set, take}
use Rattle.span.specs.Members.{has}
use Rattle.layout.specs.Layout.{index_at}
use Rattle.layout.specs.inner.Served.{block_list}
use Rattle.layout.proofs.Places.{index_mono}
use Rattle.card.specs.Card.{pointer}
use Rattle.card.specs.inner.Cards.{card_with}
use Rattle.ctz.specs.Lists.{SoundList, block_at}
use Rattle.ctz.specs.Lookup.{found_at, lookup_of}
use Rattle.ctz.specs.Visits.{visit_of}
use Rattle.ctz.proofs.Sounds.{at}
use Rattle.plain.specs.Bytes.{bytes}
use Rattle.plain.specs.inner.Forms.{GoodList}
use Rattle.plain.proofs.Walks.{at_cut}
use Rattle.plain.proofs.Spans.{length_span}
use Rattle.plain.proofs.Indexes.{used_index}
use Rattle.plain.proofs.Finding.{lookup_block}
use Rattle.plain.proofs.Files.{shrink_found}
use Rattle.files.specs.declared.Entry.{Entry}
use Rattle.files.proofs.Replaced.{altered}
use Rattle.window.specs.declared.Lookahead.{Lookahead}
use Rattle.window.specs.Scan.{Seen, listed_of}
use Rattle.window.proofs.Cases.{no_both}
use Rattle.windows.proofs.Views.{Became, CleanWindow}
use Rattle.windows.proofs.Has.{else_false}
use Rattle.windows.proofs.Came.{fewer_clean}
use Rattle.windows.proofs.Listed.{became_set, unseen}
use Rattle.alloc.specs.Visits.{seen_of, visits_of}
use Rattle.old_list.specs.Write.{zeros}
use Rattle.store.specs.inner.Calls.{ask_write}
use Rattle.demands.specs.Plain.{overwrite}
use Rattle.demands.proofs.Tables.{listed_by, visit_told, of_sounds}
use Rattle.demands.proofs.Store.{Before}
use Rattle.demands.proofs.Again.{AtPlace, among_at, sounds_set, visits_set, visits_at}
use Rattle.demands.proofs.Overwrites.{plain_zeros}

-- What a write of n zeros at the old size leaves is the file with n zeros behind it.
pub grow_plain : (img : List ℕ) (B head size n : ℕ) → overwrite (ask_write 0 size (zeros n)) (bytes B img (block_list head size)) ≡ bytes B img (block_list head size) ++ zeros n
unfolding bytes
grow_plain img B head size n =
    ap (λ (z : ℕ). overwrite (ask_write 0 z (zeros n)) (bytes B img (block_list head size))) (sym (length_span _ 0 size)) ∙ plain_zeros (bytes B img (block_list head size)) n

-- A shrunk file: the list (k, q) is the front of the old one, and the table with it is again one of sound lists, the window and the card as they were.
pub record Shrunk (B N l : ℕ) (files : List Entry) (e : Entry) (m k q : ℕ) (w : Lookahead) (img : List ℕ) : Type 0 where
  pub plain : bytes B img (block_list k q) ≡ take q (bytes B img (block_list e.head e.size))
  pub again : Before B N l (set files m (altered e q k)) w img

-- A shrinking truncate that finds the block of the last kept byte leaves such a file.
pub shrink_keeps : (B N l : ℕ) (files : List Entry) (w : Lookahead) (img : List ℕ) → Before B N l files w img
    → (e : Entry) (m : ℕ) → AtPlace e m files → (q k o h : ℕ) → 0 < q → q ≤ e.size → lookup_of (card_with B N img) (block_list e.head e.size) (q - 1) ≡ found_at k o h
    → Shrunk B N l files e m k q w img
shrink_keeps B N l files w img bf e m place q k o h p le lk = record {
  plain = front.1;
  again = record {
    good = bf.good;
    sounds = sounds_set B N img m e' fits front.0 bf.sounds;
    valid = bf.valid;
    clean = subst (λ (vs : List Seen). CleanWindow N (listed_of vs) w) (sym (visits_set B N img files m e'))
        (fewer_clean N (listed_by B N files img) (listed_of (set (visits_of (card_with B N img) files) m v)) w (became_set (visits_of (card_with B N img) files) m v [] mine) bf.clean);
  };
}
  where
    e' : Entry
    e' = altered e q k

    v : Seen
    v = seen_of (card_with B N img) (altered e q k)

    good : GoodList B N img e.size
    good = (of_sounds bf.sounds (among_at place)).0

    sl : SoundList (card_with B N img) (block_list e.head e.size)
    sl = (of_sounds bf.sounds (among_at place)).1

    fits : GoodList B N img q
    fits = record { good = good.good; fits = omega (arith, good.fits) }

    front : SoundList (card_with B N img) (block_list k q) × (bytes B img (block_list k q) ≡ take q (bytes B img (block_list e.head e.size)))
    front = shrink_found good sl q p le k o h lk

    head_is : block_at B img (block_list e.head e.size) (index_at B (q - 1)) ≡ k
    head_is = lookup_block good sl (q - 1) k o h (omega arith) lk

    cut : (i : ℕ) → i ≤ index_at B (q - 1) → block_at B img (block_list k q) i ≡ block_at B img (block_list e.head e.size) i
    cut i u =
        ap (λ (z : ℕ). at (pointer B img) z (index_at B (q - 1)) i) (sym head_is)
        ∙ at_cut (pointer B img) e.head (index_at B (e.size - 1)) i (index_at B (q - 1)) u (index_mono B (q - 1) (e.size - 1) (omega arith))

    mine : Became (get_or (visits_of (card_with B N img) files) m unseen).blocks [] v.blocks
    mine b y n = else_false (has v.blocks b) (λ t.
        (let r = (visit_told B N img k q fits front.0).only b t in
        let y' : has (visit_of (card_with B N img) (block_list e.head e.size)).handed b ≡ false = subst (λ (s : Seen). has s.blocks b ≡ false) (visits_at B N img place) y in
        no_both (has (visit_of (card_with B N img) (block_list e.head e.size)).handed b)
        (subst (λ (z : ℕ). has (visit_of (card_with B N img) (block_list e.head e.size)).handed z ≡ true) (sym (cut r.0 (used_index fits r.0 r.1)) ∙ r.2)
        ((visit_told B N img e.head e.size good sl).all r.0 (omega (arith, r.1)))) y'))
