-- -28 exactly, from any window and on any table, its lists sound or not, where no step answers -84. Assumes nothing.
use mathlib.Core.Path.{◌≡◌, refl, sym, ap, ◌∙◌, subst}
use mathlib.Core.Bool.{Bool, true, ◌||◌}
use mathlib.Core.List.{List}
use Prim.Native.Nat.{ℕ, suc, ◌+◌, ◌-◌, ◌%◌, ◌^◌, ◌≤◌, ◌<◌}
use native.Mathlib.Nat.{mod-lt}
use native.Mathlib.Omega.{arith}
use lib.ListN.{length, length-replicate}
use Rattle.span.specs.Members.{has}
use Rattle.layout.specs.Numbers.{size_max, no_space, damaged_card}
use Rattle.layout.specs.inner.Served.{BlockSized, geometry}
use Rattle.card.specs.Card.{good_card}
use Rattle.card.specs.inner.Cards.{CardFacts, card_with}
use Rattle.card.proofs.Cards.{card}
use Rattle.files.specs.declared.Entry.{Entry}
use Rattle.files.specs.declared.Table.{Table}
use Rattle.std.specs.Prelude.{Ok}
use Rattle.files.specs.Table.{held, file, find_of}
use Rattle.window.specs.declared.Lookahead.{Lookahead}
use Rattle.window.specs.Value.{fresh_of, checkpoint_of}
use Rattle.window.specs.inner.Facts.{ValidWindow, GoodScope, scope}
use Rattle.window.proofs.Valid.{looks, tested_valid, valid_tested}
use Rattle.windows.specs.Space.{marked_in}
use Rattle.windows.proofs.Views.{Shows, CleanWindow}
use Rattle.windows.proofs.Came.{empty_clean}
use Rattle.windows.proofs.Rotate.{whole_circle}
use Rattle.windows.proofs.Space.{knows, same_used, none_left, clean_used, listed_used}
use Rattle.alloc.specs.Visits.{seen_in, listed_in, visits_of}
use Rattle.trials.specs.Loop.{Writing, Written, NoRoom, Corrupt, WriteOut}
use Rattle.grow.specs.Setting.{Setting, State, tested_of, tested}
use Rattle.grow.specs.inner.Extend.{window_alloc}
use Rattle.grow.specs.inner.Setting.{setting}
use Rattle.old_list.specs.Write.{zeros, new, kept, job_of}
use Rattle.old_list.specs.inner.Lookups.{look_in}
use Rattle.new_list.specs.inner.Put.{puts}
use Rattle.store.specs.Store.{written, written_of}
use Rattle.store.specs.Asked.{WriteAsked, TruncateAsked}
use Rattle.store.specs.inner.Calls.{ask_write}
use Rattle.store.proofs.Tested.{tests, file_most}
use Rattle.store.proofs.Calls as calls
use Rattle.writes.proofs.Counting.{some_need, Counted, corrupt, done, counted, full as no_room}
use Rattle.writes.proofs.Allocators.{Stays}
use Rattle.writes.proofs.Widths.{need}
use Rattle.demands.specs.Calls.{write, truncate, stored_in, after, Left}
use Rattle.demands.specs.Came.{Came}
use Rattle.demands.specs.Space.{good_block, blocks_for, grown_by, listed_blocks, good_free, used_in, good_usable, good_unmarked, read_by, Apart, Free, Exactly, Spent, Settled}
use Rattle.demands.proofs.Windows.{Used, Knowing, UsedUp, goods_left, counter}
use Rattle.demands.proofs.AnyVisits.{all_below, seen_again, read_listed, shows, listed_below}
use Rattle.demands.proofs.Came.{came_clean}
use Rattle.demands.proofs.Records.{shape}

-- what a write of at least one byte to an entry answers where it is not -84
pub record Decided (B N l needed free : ℕ) (o : WriteOut Lookahead) : Type 0 where
  pub full : free < needed → o.answer ≡ NoRoom
  pub enough : needed ≤ free → (h : ℕ) × (n : ℕ) × (o.answer ≡ Written h n)
  pub spent : o.answer ≡ NoRoom → UsedUp B N l o.rest o.image

shows_here : (g : Setting) (s : State) → Shows g.N (listed_blocks g s) (seen_in (card_with g.B g.N s.image) s.table)
unfolding listed_in seen_in
shows_here g s = shows g.N (visits_of (card_with g.B g.N s.image) (held s.table)) (all_below g s.image (held s.table))

seen_same : (g : Setting) (s : State) (img : List ℕ) → BlockSized g.B → Stays g.B (λ k. has (read_by g s.image (held s.table)) k ≡ true) s.image img
    → seen_in (card_with g.B g.N img) s.table ≡ seen_in (card_with g.B g.N s.image) s.table
unfolding seen_in
seen_same g s img z st = seen_again g s.image img (held s.table) z st

module _ (B N l : ℕ) (health : List ℕ) (s : State) (valid : ValidWindow s.window N l) (sizes : GoodScope N l) (c : CardFacts B N (length s.image)) (apart : Apart (setting B N l health) s)
    (e : Entry) (p : ℕ) (src : List ℕ) (some : 0 < length src) (fits : p + length src ≤ size_max) (most : e.size ≤ size_max) where
  abbrev listed : List ℕ
  listed = listed_in (card_with B N s.image) s.table

  abbrev used : ℕ → Bool
  used = used_in (setting B N l health) s

  abbrev base : ℕ
  base = (s.window.start + s.window.next) % N

  abbrev o : WriteOut Lookahead
  o = puts B N l health s.table e p src s.window s.image

  told : (img : List ℕ) → CardFacts B N (length img) → Stays B (Used used) s.image img → Shows N listed (seen_in (card_with B N img) s.table)
  told img c' st = rw (seen_same (setting B N l health) s img c.sized (λ k o u h. st k o (apart k u) h)) (shows_here (setting B N l health) s)

  short : new (job_of e p src) < 2 ^ 32
  short = omega arith

  -- the count decides
  pub decided : (o.answer ≡ Corrupt → ⊥) → Decided B N l (blocks_for B e (ask_write 0 p src)) (good_usable (setting B N l health) s) o
  unfolding puts
  decided n =
      go (counted (look_in B N e) B N health (λ (v : Lookahead). v.ckpoint) (window_alloc B N l s.table) (Used used) (Knowing B N l listed used s.image base)
      (goods_left health N used base) (UsedUp B N l) (counter B N l health listed used s.table sizes s.image base told)
      (job_of e p src) short (checkpoint_of N s.window) s.image c
      (record { knows = knows N l listed s.window valid; card = c; stays = λ k q u h. refl }))
    where
      all : goods_left health N used base (checkpoint_of N s.window) ≡ good_usable (setting B N l health) s
      all = whole_circle (good_block health) base N used (mod-lt _ c.some)

      nd : need B (job_of e p src) (kept (job_of e p src)) ≡ blocks_for B e (ask_write 0 p src)
      nd = some_need B (job_of e p src) (kept (job_of e p src)) (omega arith)

      go : Counted (look_in B N e) B N health (λ (v : Lookahead). v.ckpoint) (window_alloc B N l s.table) (Used used) (Knowing B N l listed used s.image base)
          (goods_left health N used base) (UsedUp B N l) (counter B N l health listed used s.table sizes s.image base told)
          (job_of e p src) short (suc N) (checkpoint_of N s.window) (kept (job_of e p src)) o
          → Decided B N l (blocks_for B e (ask_write 0 p src)) (good_usable (setting B N l health) s) o
      go (corrupt a) = absurd (n a)
      go (done h k a x) = record {
        full = λ u. absurd (omega (arith, all, nd));
        enough = λ u. (h, k, a);
        spent = λ q. let y : Written h k ≡ NoRoom = sym a ∙ q in let z : ◌≡◌ {A = ℕ} 0 1 = cc in absurd (omega arith);
      }
      go (no_room a x) =
          let y = x (omega arith) in
          record { full = λ u. a; enough = λ u. absurd (omega (arith, all, nd)); spent = λ q. y.1 }

-- ---- the calls

module _ (g : Setting) (s : State) (passed : tested g s ≡ true) where
  abbrev B : ℕ
  B = g.B

  abbrev N : ℕ
  N = g.N

  abbrev l : ℕ
  l = g.L

  abbrev health : List ℕ
  health = g.health

  a_card : CardFacts B N (length s.image)
  a_card = card B N (length s.image) (tests B N l s.image health s.window passed).card

  a_size : GoodScope N l
  a_size = looks N l a_card.some a_card.few (tests B N l s.image health s.window passed).lookahead

  a_valid : ValidWindow s.window N l
  a_valid = tested_valid s.window N l (tests B N l s.image health s.window passed).window

  -- a window and an image that are left are not refused either
  tested_again : (w : Lookahead) (img : List ℕ) → ValidWindow w N l → CardFacts B N (length img) → tested_of (setting B N l health) w (length img) ≡ true
  unfolding tested_of
  tested_again w img v c =
      let ts = tests B N l s.image health s.window passed in
      rw (tested_of, ap (good_card (geometry B N)) (c.long ∙ sym a_card.long) ∙ ts.card, ts.healths, ts.lookahead, valid_tested w N l v)

  -- ---- which windows

  -- where the window is clean, each listed block is used
  clean_apart : CleanWindow N (listed_blocks g s) s.window → Apart g s
  unfolding listed_in
  clean_apart c b e =
      let u = read_listed g s.image (held s.table) b e in
      listed_used N l (listed_blocks g s) s.window a_valid c b
      (listed_below N (visits_of (card_with B N s.image) (held s.table)) (all_below g s.image (held s.table)) b u) u

  -- Each block that is left of the window and not marked is not listed: the usable ones are the good unlisted ones that are not marked there.
  pub clean_free : CleanWindow g.N (listed_blocks g s) s.window → Free g s (good_unmarked g s)
  clean_free c = record {
    apart = clean_apart c;
    count = same_used (good_block health) (used_in g s) (λ b. has (listed_blocks g s) b || marked_in N s.window b) N
        (clean_used N l (listed_blocks g s) s.window a_valid c);
  }

  -- A window that came from store calls, under any lookahead.
  pub came_free : {l' : ℕ} → Came (shape g.B g.N l') s → Free g s (good_unmarked g s)
  came_free c = clean_free (came_clean c).1

  -- Nothing is left of the window, whatever its map: the usable ones are the good unlisted ones.
  pub none_left_free : s.window.size ≤ s.window.next → Free g s (good_free g s)
  none_left_free h = record {
    apart = clean_apart (empty_clean N (listed_blocks g s) s.window h);
    count = same_used (good_block health) (used_in g s) (has (listed_blocks g s)) N (λ b _. none_left N (listed_blocks g s) s.window h b);
  }

  module _ (number i : ℕ) (here : find_of s.table number ≡ Ok i) where
    most : (file s.table i).size ≤ size_max
    most = file_most B N l s.image health s.window s.table number i passed here

    -- what the answer decides is what the code says
    told_code : (needed free : ℕ) (o : WriteOut Lookahead) → ((stored_in (written_of s.table i o)).code ≡ damaged_card → ⊥)
        → ((o.answer ≡ Corrupt → ⊥) → Decided B N l needed (good_usable g s) o) → good_usable g s ≡ free
        → Settled g (record { needed = needed; free = free }) s (stored_in (written_of s.table i o))
    told_code needed free o n f q =
        record {
          exactly = record {
            full = λ u. ap (λ (x : Writing). (stored_in (written s.table i x o.rest o.image)).code) (d.full (omega arith));
            enough = λ u. let z = d.enough (omega arith) in ap (λ (x : Writing). (stored_in (written s.table i x o.rest o.image)).code) z.2;
          };
          spent = by o.answer refl;
        }
      where
        fine : o.answer ≡ Corrupt → ⊥
        fine z = n (ap (λ (x : Writing). (stored_in (written s.table i x o.rest o.image)).code) z)

        d : Decided B N l needed (good_usable g s) o
        d = f fine

        by : (a : Writing) → o.answer ≡ a → (stored_in (written s.table i a o.rest o.image)).code ≡ no_space
            → Spent g s (stored_in (written s.table i a o.rest o.image))
        by (Written h k) e z = let y : ◌≡◌ {A = ℕ} 0 1 = cc in absurd (omega arith)
        by NoRoom e z = let u = d.spent e in record { table = refl; tested = tested_again o.rest o.image u.valid u.card; none_left = u.none_left }
        by Corrupt e z = absurd (fine e)

  -- -28 EXACTLY. A write of at least one byte, whatever the lists are.
  pub any_write : {free : ℕ} → Free g s free → (w : WriteAsked) (i : ℕ) → find_of s.table w.number ≡ Ok i → 0 < length w.bytes
      → w.position + length w.bytes ≤ size_max → ((after g (write w) s).code ≡ damaged_card → ⊥)
      → Settled g (record { needed = blocks_for g.B (file s.table i) w; free = free }) s (after g (write w) s)
  unfolding after
  any_write {free} f w i here some fits =
      let p = w.position in
      let src = w.bytes in
      rw (calls.write_some B N l s.image health s.window s.table w.number p src passed i here (omega arith) fits (λ z. omega arith))
      (λ n. told_code w.number i here _ free (puts B N l health s.table (file s.table i) p src s.window s.image) n
      (decided B N l health s a_valid a_size a_card f.apart (file s.table i) p src some fits (most w.number i here)) f.count)

  -- A growing truncate.
  pub any_truncate : {free : ℕ} → Free g s free → (t : TruncateAsked) (i : ℕ) → find_of s.table t.number ≡ Ok i
      → (file s.table i).size < t.size → t.size ≤ size_max → ((after g (truncate t) s).code ≡ damaged_card → ⊥)
      → Settled g (record { needed = blocks_for g.B (file s.table i) (grown_by (file s.table i) t); free = free }) s (after g (truncate t) s)
  unfolding after
  any_truncate {free} f t i here more fits =
      let e = file s.table i in
      let src = zeros (t.size - e.size) in
      let z = length-replicate {A = ℕ} (t.size - e.size) 0 in
      rw (calls.truncate_more B N l s.image health s.window s.table t.number t.size passed i here fits (omega arith) (λ z. omega arith))
      (λ n. told_code t.number i here _ free (puts B N l health s.table e e.size src s.window s.image) n
      (decided B N l health s a_valid a_size a_card f.apart e e.size src (omega arith) (omega arith) (most t.number i here)) f.count)

-- ---- from a fresh window

module _ (g : Setting) (start : ℕ) (t : Table) (image : List ℕ) where
  -- the state with a fresh window
  abbrev pub freshly : State
  freshly = record { window = fresh_of (scope g.N g.L) start; table = t; image = image }

  module _ (passed : tested g freshly ≡ true) where
    fresh_free : Free g freshly (good_free g freshly)
    fresh_free = none_left_free g freshly passed (omega arith)

    pub write_exactly : (w : WriteAsked) (i : ℕ) → find_of t w.number ≡ Ok i → 0 < length w.bytes → w.position + length w.bytes ≤ size_max
        → ((after g (write w) freshly).code ≡ damaged_card → ⊥)
        → Exactly (record { needed = blocks_for g.B (file t i) w; free = good_free g freshly }) (after g (write w) freshly).code
    write_exactly w i here some fits n = (any_write g freshly passed fresh_free w i here some fits n).exactly

    pub truncate_exactly : (a : TruncateAsked) (i : ℕ) → find_of t a.number ≡ Ok i → (file t i).size < a.size → a.size ≤ size_max
        → ((after g (truncate a) freshly).code ≡ damaged_card → ⊥)
        → Exactly (record { needed = blocks_for g.B (file t i) (grown_by (file t i) a); free = good_free g freshly }) (after g (truncate a) freshly).code
    truncate_exactly a i here more fits n = (any_truncate g freshly passed fresh_free a i here more fits n).exactly

-- ---- after -28

module _ (g : Setting) (s : State) (o : Left) (sp : Spent g s o) where
  there : (number i : ℕ) → find_of s.table number ≡ Ok i → find_of o.state.table number ≡ Ok i
  there number i here = ap (λ (t : Table). find_of t number) sp.table ∙ here

  -- From what -28 left, the same write or another, of that file: nothing is left of the window.
  pub write_again : (w : WriteAsked) (i : ℕ) → find_of s.table w.number ≡ Ok i → 0 < length w.bytes → w.position + length w.bytes ≤ size_max
      → ((after g (write w) o.state).code ≡ damaged_card → ⊥)
      → Settled g (record { needed = blocks_for g.B (file s.table i) w; free = good_free g o.state }) o.state (after g (write w) o.state)
  write_again w i here some fits n =
      subst (λ (t : Table). Settled g (record { needed = blocks_for g.B (file t i) w; free = good_free g o.state }) o.state (after g (write w) o.state)) sp.table
      (any_write g o.state sp.tested (none_left_free g o.state sp.tested sp.none_left) w i (there w.number i here) some fits n)

  pub truncate_again : (a : TruncateAsked) (i : ℕ) → find_of s.table a.number ≡ Ok i → (file s.table i).size < a.size → a.size ≤ size_max
      → ((after g (truncate a) o.state).code ≡ damaged_card → ⊥)
      → Settled g (record { needed = blocks_for g.B (file s.table i) (grown_by (file s.table i) a); free = good_free g o.state }) o.state
      (after g (truncate a) o.state)
  truncate_again a i here more fits n =
      subst (λ (t : Table). Settled g (record { needed = blocks_for g.B (file t i) (grown_by (file t i) a); free = good_free g o.state }) o.state
      (after g (truncate a) o.state)) sp.table
      (any_truncate g o.state sp.tested (none_left_free g o.state sp.tested sp.none_left) a i (there a.number i here)
      (rw sp.table more) fits n)
