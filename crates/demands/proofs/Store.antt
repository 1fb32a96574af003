-- A write to a file of a table of sound lists, with the window as its allocator: nothing abstract is left. Assumes nothing.
use mathlib.Core.Path.{◌≡◌, refl, sym, ap, ◌∙◌}
use mathlib.Core.Bool.{true}
use mathlib.Core.List.{List, []}
use Prim.Native.Nat.{ℕ, ◌+◌, ◌-◌, ◌≤◌, ◌<◌, max}
use native.Mathlib.Omega.{arith}
use lib.ListN.{length}
use Rattle.span.specs.Members.{has}
use Rattle.layout.specs.Layout.{start, index_at, offset_at}
use Rattle.layout.specs.inner.Served.{geometry, block_list}
use Rattle.hops.specs.Walk.{hops}
use Rattle.hops.specs.inner.Ways.{way}
use Rattle.card.specs.Card.{good_card}
use Rattle.card.specs.inner.Cards.{CardFacts, card_with}
use Rattle.ctz.specs.Lists.{SoundList, block_at}
use Rattle.ctz.specs.Lookup.{found_at}
use Rattle.plain.specs.Bytes.{bytes}
use Rattle.plain.specs.inner.Forms.{GoodList}
use Rattle.plain.proofs.Indexes.{card_of_lem}
use Rattle.plain.proofs.Finding.{walk_sound}
use Rattle.plain.proofs.Frames as frames
use Rattle.plain.proofs.Same.{SameBlocks}
use Rattle.files.specs.declared.Entry.{Entry}
use Rattle.files.specs.declared.Table.{Table}
use Rattle.files.specs.Table.{held}
use Rattle.window.specs.declared.Lookahead.{Lookahead}
use Rattle.window.specs.Scan.{seen_all}
use Rattle.window.specs.Value.{checkpoint_of}
use Rattle.window.specs.inner.Facts.{ValidWindow, GoodScope}
use Rattle.windows.proofs.Views.{During, Became, Lists, CleanWindow}
use Rattle.windows.proofs.InCall.{begins, clean_after}
use Rattle.alloc.specs.Visits.{seen_in, visits_of}
use Rattle.trials.specs.Loop.{Written, NoRoom, WriteOut}
use Rattle.grow.specs.inner.Extend.{window_alloc}
use Rattle.old_list.specs.Write.{kept, Found, look_of, job_of}
use Rattle.old_list.specs.inner.Lookups.{look_in}
use Rattle.new_list.specs.inner.Put.{puts}
use Rattle.store.specs.inner.Calls.{ask_write}
use Rattle.writes.proofs.Writes as writes
use Rattle.writes.proofs.Allocators.{Stays}
use Rattle.demands.specs.Came.{Among}
use Rattle.demands.specs.Plain.{overwrite}
use Rattle.demands.proofs.Files.{bytes_is}
use Rattle.demands.proofs.Windows.{Listed, InCall, windowed, in_has}
use Rattle.demands.proofs.Tables.{listed_by, SoundFiles, of_sounds, listed_at, same_file, told_anew}
use Rattle.demands.proofs.Overwrites.{overwritten_is}

-- What a call is given: a card of sound lists, and a window that is valid and clean for them.
pub record Before (B N l : ℕ) (files : List Entry) (w : Lookahead) (img : List ℕ) : Type 0 where
  pub good : good_card (geometry B N) (length img) ≡ true
  pub sounds : SoundFiles B N img files
  pub valid : ValidWindow w N l
  pub clean : CleanWindow N (listed_by B N files img) w

-- A file as it was: its blocks stand, its list is sound, and it reads as before.
pub record Same (B N : ℕ) (img img' : List ℕ) (x : Entry) : Type 0 where
  pub blocks : SameBlocks img img' B x.head x.size
  pub list : SoundList (card_with B N img') (block_list x.head x.size)
  pub plain : bytes B img' (block_list x.head x.size) ≡ bytes B img (block_list x.head x.size)

-- The window afterwards: valid, and clean for whatever is listed that was listed before or handed out in this call.
pub record After (B N l : ℕ) (files : List Entry) (img out : List ℕ) (w : Lookahead) : Type 0 where
  pub valid : ValidWindow w N l
  pub clean : (now : List ℕ) → Became (listed_by B N files img) out now → CleanWindow N now w

-- Written: the new list (h, size) is sound, and its plain file is the old one after the write; every file of the table is as it was, the written one under
-- its old head too; the new list's blocks are the old ones below the index of the first changed byte, and blocks handed out in this call.
pub record Stored (B N l : ℕ) (files : List Entry) (e : Entry) (pos : ℕ) (src img : List ℕ) (o : WriteOut Lookahead) (size h : ℕ) (out : List ℕ) : Type 0 where
  pub answer : o.answer ≡ Written h size
  pub list : SoundList (card_with B N o.image) (block_list h size)
  pub plain : bytes B o.image (block_list h size) ≡ overwrite (ask_write 0 pos src) (bytes B img (block_list e.head e.size))
  pub long : length img ≡ length o.image
  pub others : (x : Entry) → Among x files → Same B N img o.image x
  pub window : After B N l files img out o.rest
  pub kept_blocks : (i : ℕ) → i < index_at B (kept (job_of e pos src)) → block_at B o.image (block_list h size) i ≡ block_at B img (block_list e.head e.size) i
  pub new_blocks : (i : ℕ) → index_at B (kept (job_of e pos src)) ≤ i → start B i < size → has out (block_at B o.image (block_list h size) i) ≡ true

-- Refused for want of blocks: every file of the table is as it was.
pub record Unstored (B N l : ℕ) (files : List Entry) (img : List ℕ) (o : WriteOut Lookahead) (out : List ℕ) : Type 0 where
  pub answer : o.answer ≡ NoRoom
  pub long : length img ≡ length o.image
  pub others : (x : Entry) → Among x files → Same B N img o.image x
  pub window : After B N l files img out o.rest

-- the new size of a file
abbrev pub new_size : Entry → ℕ → List ℕ → ℕ
new_size e pos src = max e.size (pos + length src)

-- How a write ends: written, or refused for want of blocks.
pub data Outcome (B N l : ℕ) (files : List Entry) (e : Entry) (pos : ℕ) (src img : List ℕ) (o : WriteOut Lookahead) : Type 0 where
  written : (h : ℕ) (out : List ℕ) → Stored B N l files e pos src img o (new_size e pos src) h out → Outcome B N l files e pos src img o
  refused : (out : List ℕ) → Unstored B N l files img o out → Outcome B N l files e pos src img o

module _ (B N l : ℕ) (health : List ℕ) (t : Table) (w : Lookahead) (img : List ℕ) (bf : Before B N l (held t) w img)
    (sizes : GoodScope N l) (e : Entry) (a : Among e (held t)) (pos : ℕ) (src : List ℕ) (some : 0 < length src) (fits : pos + length src ≤ 2147483647) where
  abbrev listed : List ℕ
  listed = listed_by B N (held t) img

  good : GoodList B N img e.size
  good = (of_sounds bf.sounds a).0

  sl : SoundList (card_with B N img) (block_list e.head e.size)
  sl = (of_sounds bf.sounds a).1

  card : CardFacts B N (length img)
  card = card_of_lem good

  start_call : During N l listed (checkpoint_of N w) []
  start_call = begins N l listed w bf.valid bf.clean

  -- what holds within the call
  abbrev Ok : Lookahead → List ℕ → List ℕ → Type 0
  Ok = InCall B N l listed img start_call.base

  long : (img' : List ℕ) → CardFacts B N (length img') → length img ≡ length img'
  long img' c = card.long ∙ sym c.long

  abbrev o : WriteOut Lookahead
  o = puts B N l health t e pos src w img

  -- lookups find the old list's blocks on every image on which the listed blocks stand
  looks : (img' : List ℕ) → CardFacts B N (length img') → Stays B (Listed listed) img img' → (p : ℕ) → p < e.size
      → look_in B N e img' p ≡ Found (block_at B img (block_list e.head e.size) (index_at B p))
  looks img' c st p h =
      let s = same_file B N img img' (long img' c) bf.sounds st a in
      ap look_of (walk_sound (frames.frame_good s good) (frames.frame_sound s sl) p h
      ∙ ap (λ (k : ℕ). found_at k (offset_at B p) (hops (way (index_at B (e.size - 1)) (index_at B p)))) (frames.frame_at s (omega arith) (index_at B p)))

  given : writes.Given (look_in B N e) B N (job_of e pos src) (Listed listed) Ok (checkpoint_of N w) img
  given = record {
    card = card;
    ok = record { during = start_call; on = start_call.on; card = card; stays = λ k q u h. refl };
    list = sl;
    clear = listed_at B N img bf.sounds a;
    looks = looks;
    some = some;
    fits = omega (arith, good.fits);
  }

  same : (img' : List ℕ) → CardFacts B N (length img') → Stays B (Listed listed) img img' → (x : Entry) → Among x (held t) → Same B N img img' x
  same img' c st x ax =
      let s = same_file B N img img' (long img' c) bf.sounds st ax in
      record { blocks = s; list = frames.frame_sound s (of_sounds bf.sounds ax).1; plain = frames.frame_bytes s }

  after : (out img' : List ℕ) (v : Lookahead) → Ok v out img' → After B N l (held t) img out v
  after out img' v k = record { valid = k.during.valid; clean = λ now b. clean_after now k.during b }

  stored : (h : ℕ) (out : List ℕ) → writes.Accepted B N (job_of e pos src) (Listed listed) Ok img o h out
      → Stored B N l (held t) e pos src img o (new_size e pos src) h out
  stored h out ac =
      let g' : GoodList B N o.image (new_size e pos src) = record {
        good = ap (good_card (geometry B N)) (sym (long o.image ac.card)) ∙ good.good;
        fits = omega (arith, good.fits);
      } in
      record {
        answer = ac.answer;
        list = ac.list;
        plain = sym (bytes_is g' ac.list) ∙ overwritten_is ac.plain ∙ ap (λ (xs : List ℕ). overwrite (ask_write 0 pos src) xs) (bytes_is good sl);
        long = long o.image ac.card;
        others = same o.image ac.card ac.stays;
        window = after out o.image o.rest ac.ok;
        kept_blocks = ac.kept_blocks;
        new_blocks = λ i u v. in_has _ out (ac.new_blocks i u v);
      }

  unstored : (out : List ℕ) → writes.Refused B N (Listed listed) Ok img o out → Unstored B N l (held t) img o out
  unstored out r = record {
    answer = r.answer;
    long = long o.image r.card;
    others = same o.image r.card r.stays;
    window = after out o.image o.rest r.ok;
  }

  told_here : (img' : List ℕ) → Lists N listed (seen_all (visits_of (card_with B N img') (held t))) → Lists N listed (seen_in (card_with B N img') t)
  unfolding seen_in
  told_here img' x = x

  -- A write of at least one byte to a file of the table ends in one of these two ways, and in no other.
  pub store_plain : Outcome B N l (held t) e pos src img (puts B N l health t e pos src w img)
  unfolding puts
  store_plain =
      go (writes.write_plain (look_in B N e) B N health (λ (v : Lookahead). v.ckpoint) (window_alloc B N l t) (Listed listed) Ok
      (windowed B N l listed t sizes img start_call.base
      (λ img' c st. told_here img' (told_anew B N img img' (long img' c) bf.sounds st)))
      (job_of e pos src) (checkpoint_of N w) img given)
    where
      go : writes.Outcome B N (job_of e pos src) (Listed listed) Ok img o
          → Outcome B N l (held t) e pos src img o
      go (writes.written h out ac) = written h out (stored h out ac)
      go (writes.refused out r) = refused out (unstored out r)
