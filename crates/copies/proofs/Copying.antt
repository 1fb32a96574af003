-- The pass that copies a clean run, turn by turn. Assumes nothing.
use mathlib.Core.Path.{◌≡◌, refl, sym, ap, ◌∙◌, subst}
use mathlib.Core.List.{List}
use Prim.Native.Nat.{ℕ, suc, ◌+◌, ◌-◌, ◌*◌, ◌^◌, ◌≤◌, ◌<◌, min}
use native.Mathlib.Omega.{arith}
use lib.ListN.{length, get_or, take, drop}
use lib.Seq.{sets}
use Rattle.std.specs.Prelude.{Ok}
use Rattle.layout.specs.Layout.{index_at, offset_at, pointers}
use Rattle.layout.specs.inner.Served.{block_list}
use Rattle.layout.proofs.Bits.{trailing_lt}
use Rattle.layout.proofs.Laws.{pointers_pos}
use Rattle.layout.proofs.Places.{index_mono}
use Rattle.card.specs.Card.{pointer}
use Rattle.card.specs.inner.Cards.{CardFacts, card_with}
use Rattle.ctz.specs.Lookup.{found_at, walk_to}
use Rattle.ctz.specs.inner.Runs.{Finds}
use Rattle.plain.specs.Reading.{gather, Gathered}
use Rattle.plain.specs.inner.Forms.{range}
use Rattle.finding.specs.inner.Runs.{Reached, Indexed, Held, Turning, Turned, clean, got_bytes}
use Rattle.finding.proofs.Gathers.{OnCard, on_card, Step, step, offset_below, clean_turn, copy_keeps, copy_turn, all_none}
use Rattle.finding.proofs.Positions.{indexed, walk_found, part_next, part_whole, clean_reached}
use Rattle.copies.specs.inner.Copies.{Parted, Cleared}

-- what every turn has: the list, and the buffer that came
pub record Copying (image came : List ℕ) (B N head size pos count at top last : ℕ) (buffer blocks : List ℕ) (base i off p left to : ℕ) : Type 0 where
  pub any : 0 < count
  pub top_is : top ≡ index_at B (size - 1)
  pub last_is : last ≡ index_at B (pos + (count - 1))
  pub list : Indexed B top last
  pub run : OnCard B N size p left (length image)
  pub found : clean (gather left (card_with B N image) (block_list head size) (range p left)) ≡ Ok tt
  pub end : p + left ≡ pos + count
  pub fits : to + left ≤ length buffer
  pub long : length buffer ≡ length came
  pub from : base ≤ i
  pub near : i ≤ suc last
  pub reached : Reached (pointer B image) N head top i last
  pub held : Held (pointer B image) N head top base last blocks
  pub more : i ≤ last → 0 < left
  pub here : 0 < left → (i ≡ index_at B p) × (off ≡ offset_at B p)
  pub whole : sets came at (got_bytes (gather count (card_with B N image) (block_list head size) (range pos count))) ≡ sets buffer to (got_bytes (gather left (card_with B N image) (block_list head size) (range p left)))

-- how the pass begins
pub begins : {image buffer blocks : List ℕ} {B N head size p n to top first last off : ℕ} → CardFacts B N (length image) → Cleared image B N head size p n to (length buffer) blocks
    → top ≡ index_at B (size - 1) → first ≡ index_at B p → last ≡ index_at B (p + (n - 1)) → off ≡ offset_at B p
    → Copying image buffer B N head size p n to top last buffer blocks first first off p n to
begins {image} {blocks = blocks} {B = B} {N} {head} {size} {p} {n} {top = top} {first} {last} c r e f g o =
    let m = clean_reached image head B N size p n r.some (on_card c r.run) r.found in
    record {
      any = r.some;
      top_is = e;
      last_is = g;
      list = indexed (on_card c r.run) r.some e g;
      run = on_card c r.run;
      found = r.found;
      end = refl;
      fits = r.fits;
      long = refl;
      from = omega arith;
      near = omega (arith, f, g, index_mono B p (p + (n - 1)) (omega arith));
      reached = λ x l u. subst (λ (y : ℕ). (k : ℕ) × Finds (pointer B image) N head y x k) (sym e) (m x (omega arith) (omega arith));
      held = rw (e, f, g) r.noted;
      more = λ l. r.some;
      here = λ more. (f, o);
      whole = refl;
    }

-- four bytes for each pointer of an index of a list fit a word
pub pointers_few : (i : ℕ) → i < 2 ^ 26 → 4 * pointers (suc i) < 2 ^ 32
pointers_few i h =
    let e = pointers_pos (suc i) (λ z. omega arith) in
    omega (arith, e, trailing_lt 32 27 (suc i) (omega arith) (omega arith))

module _ {image came : List ℕ} {B N head size pos count at top last : ℕ} {buffer blocks : List ℕ} {base i off p left to : ℕ}
    (c : Copying image came B N head size pos count at top last buffer blocks base i off p left to) (some : 0 < left) where
  pub inside : i ≤ last
  inside = omega (arith, (c.here some).0, c.last_is, index_mono B p (pos + (count - 1)) (omega (arith, c.end)))

  pub turning : Turning image B N head top base i last blocks
  turning = record { list = c.list; from = c.from; inside = inside; reached = c.reached; held = c.held }

  module _ {base' : ℕ} {blocks' : List ℕ} (t : Turned (pointer B image) N head top base' i last blocks') where
    -- the block that holds the position
    abbrev pub block : ℕ
    block = get_or blocks' (i - base') 0

    pub at_block : (h : ℕ) × (walk_to (card_with B N image) (block_list head size) p ≡ found_at block off h)
    at_block =
        let e : base' + (i - base') ≡ index_at B p = omega (arith, t.from, (c.here some).0) in
        let f = t.held.block (i - base') (omega (arith, t.among, t.from)) (omega (arith, t.from, inside)) in
        let f' = subst (λ (y : ℕ). Finds (pointer B image) N head y (base' + (i - base')) block) c.top_is f in
        let g = walk_found image head c.run some (subst (λ (y : ℕ). Finds (pointer B image) N head (index_at B (size - 1)) y block) e f') in
        (g.0, g.1 ∙ ap (λ (o : ℕ). found_at block o g.0) (sym (c.here some).1))

    pub offset_less : off < B
    offset_less = offset_below image head c.run some at_block.1

    module _ (m : ℕ) (q : m ≡ min (B - off) left) where
      pub turn : Step B N size p left (length image) block off m
      turn = step image head c.run some m at_block.1 q

      pub parted : Parted B block off m to (length image) (length buffer)
      parted =
          record {
            block = turn.inside;
            inside = turn.in_block;
            fits = omega (arith, turn.most_left, c.fits);
          }

      pub copying_on : (after : List ℕ) (off' p' : ℕ) → after ≡ sets buffer to (take m (drop (block * B + off) image)) → off' ≡ 4 * pointers (suc i) → p' ≡ p + m
          → Copying image came B N head size pos count at top last after blocks' base' (i + 1) off' p' (left - m) (to + m)
      copying_on after off' p' a o e =
          let long = copy_keeps image head c.run some m at_block.1 q buffer after to a in
          let w : m ≡ min (B - offset_at B p) left = q ∙ ap (λ (y : ℕ). min (B - y) left) (c.here some).1 in
          let z : p + (left - 1) ≡ pos + (count - 1) = omega (arith, c.end, c.any) in
          rw e
          record {
            any = c.any;
            top_is = c.top_is;
            last_is = c.last_is;
            list = c.list;
            run = turn.rest;
            found = sym (clean_turn image head c.run some m at_block.1 q) ∙ c.found;
            end = omega (arith, turn.most_left, c.end);
            fits = omega (arith, long, turn.most_left, c.fits);
            long = long ∙ c.long;
            from = omega (arith, t.from);
            near = omega (arith, inside);
            reached = λ x l u. c.reached x (omega arith) u;
            held = t.held;
            more =
                λ l.
                let whole = part_whole image head c.run some m w in grind (arith, whole, ap (index_at B) z, c.last_is, (c.here some).0);
            here =
                λ more.
                let n = part_next image head c.run some m w (omega arith) in
                let e : i + 1 ≡ suc (index_at B p) = omega (arith, (c.here some).0) in
                (e ∙ sym n.0, o ∙ ap (λ (y : ℕ). 4 * pointers (suc y)) (c.here some).0 ∙ sym n.1);
            whole = c.whole ∙ copy_turn image head c.run some m at_block.1 q buffer after to c.found a;
          }

-- behind the last block nothing is left
pub finished : {image came : List ℕ} {B N head size pos count at top last : ℕ} {buffer blocks : List ℕ} {base i off p left to : ℕ}
    → Copying image came B N head size pos count at top last buffer blocks base i off p left to → suc last ≤ i
    → buffer ≡ sets came at (got_bytes (gather count (card_with B N image) (block_list head size) (range pos count)))
finished {image} {B = B} {N} {head} {size} {buffer = buffer} {p = p} {left} {to} c l =
    let none : left ≤ 0 = grind (arith, inside c) in
    sym (c.whole ∙ ap (λ (g : Gathered). sets buffer to (got_bytes g)) (all_none image B N head size p left none))
