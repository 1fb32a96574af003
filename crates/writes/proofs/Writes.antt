-- The write, over any allocator and any lookup that keep their laws: on a sound list it gives the plain file, or is refused for want of blocks. Assumes nothing.
use mathlib.Core.Path.{◌≡◌, refl, sym, ap, ◌∙◌, subst}
use mathlib.Core.Logic.{◌≢◌, inl, inr}
use mathlib.Core.Bool.{true}
use mathlib.Core.List.{List, []}
use Prim.Native.Nat.{ℕ, zero, suc, ◌-◌, ◌^◌, ◌≤◌, ◌<◌, max}
use native.Mathlib.Omega.{arith}
use lib.ListN.{length, get_or}
use Rattle.layout.specs.Layout.{start, index_at}
use Rattle.layout.specs.inner.Served.{BlockSized, block_list}
use Rattle.card.specs.inner.Cards.{CardFacts, card_with}
use Rattle.ctz.specs.Lists.{SoundList, block_at}
use Rattle.trials.specs.Loop.{Took, Written, NoRoom, WriteOut}
use Rattle.old_list.specs.Write.{Job, new, kept, over, Look, Found, first_head, found_or, looked, wanted}
use Rattle.new_list.specs.inner.Write.{write_of, put_of}
use Rattle.writes.proofs.Index.{in_block, start_lt}
use Rattle.writes.proofs.Holds.{shrinks, at_is, sound_bytes, bytes_length, bytes_at_lem, Holds}
use Rattle.writes.proofs.Lists.{list_holds, holds_list}
use Rattle.writes.proofs.Plain.{Overwritten, over_low, over_mid, over_high}
use Rattle.writes.proofs.Looks.{wanted_looked}
use Rattle.writes.proofs.States.{want, Begin, Between}
use Rattle.writes.proofs.Loops.{Ended, done, short, writing}
use Rattle.writes.proofs.Cells.{bytes_by}
use Rattle.writes.proofs.Allocators.{In, Stays, Allocator, MustStand}

first_head_lem : (look : List ℕ → ℕ → Look) (img : List ℕ) (old : ℕ) (f : ℕ → ℕ) (B : ℕ) → ((p : ℕ) → p < old → look img p ≡ Found (f (index_at B p)))
    → (q : ℕ) → 0 < q → q ≤ old → f (index_at B (q - 1)) ≡ first_head (look img) q
unfolding first_head
first_head_lem look img old f B h zero p l = absurd (omega arith)
first_head_lem look img old f B h (suc q) p l = let e : suc q - 1 ≡ q = omega arith in rw e (sym (ap found_or (h q (omega arith))))

-- What a write is given: a card, a sound list whose blocks are listed, an allocator in order that has handed out nothing in this call, lookups that find
-- the list's blocks as long as the listed blocks stand, one byte at least, and a size that fits.
pub record Given {W : Type 0} (look : List ℕ → ℕ → Look) (B N : ℕ) (j : Job) (L : ℕ → Type 0) (Ok : W → List ℕ → List ℕ → Type 0)
    (w : W) (img : List ℕ) : Type 0 where
  pub card : CardFacts B N (length img)
  pub ok : Ok w [] img
  pub list : SoundList (card_with B N img) (block_list j.head j.old)
  pub clear : (i : ℕ) → start B i < j.old → L (block_at B img (block_list j.head j.old) i)
  pub looks : (img' : List ℕ) → CardFacts B N (length img') → Stays B L img img' → (p : ℕ) → p < j.old
      → look img' p ≡ Found (block_at B img (block_list j.head j.old) (index_at B p))
  pub some : 0 < length j.src
  pub fits : new j < 2 ^ 32

-- Accepted: the new list is sound and is the plain file after the write; its blocks below the index of the first changed byte are the old list's, all
-- others were handed out in this call (out) and were not listed; every listed block stands.
pub record Accepted {W : Type 0} (B N : ℕ) (j : Job) (L : ℕ → Type 0) (Ok : W → List ℕ → List ℕ → Type 0) (img : List ℕ) (o : WriteOut W)
    (h : ℕ) (out : List ℕ) : Type 0 where
  pub answer : o.answer ≡ Written h (new j)
  pub card : CardFacts B N (length o.image)
  pub ok : Ok o.rest out o.image
  pub list : SoundList (card_with B N o.image) (block_list h (new j))
  pub plain : Overwritten (bytes_by B img (block_at B img (block_list j.head j.old)) j.old) j.pos j.src
      (bytes_by B o.image (block_at B o.image (block_list h (new j))) (new j))
  pub kept_blocks : (i : ℕ) → i < index_at B (kept j) → block_at B o.image (block_list h (new j)) i ≡ block_at B img (block_list j.head j.old) i
  pub new_blocks : (i : ℕ) → index_at B (kept j) ≤ i → start B i < new j → In (block_at B o.image (block_list h (new j)) i) out
  pub unlisted : (i : ℕ) → index_at B (kept j) ≤ i → start B i < new j → (k : ℕ) → L k → block_at B o.image (block_list h (new j)) i ≢ k
  pub stays : Stays B L img o.image

-- Refused for want of blocks: every listed block stands, so every file reads as before (`others_stand`).
pub record Refused {W : Type 0} (B N : ℕ) (L : ℕ → Type 0) (Ok : W → List ℕ → List ℕ → Type 0) (img : List ℕ) (o : WriteOut W)
    (out : List ℕ) : Type 0 where
  pub answer : o.answer ≡ NoRoom
  pub card : CardFacts B N (length o.image)
  pub ok : Ok o.rest out o.image
  pub stays : Stays B L img o.image

-- How a write ends: written, or refused for want of blocks.
pub data Outcome {W : Type 0} (B N : ℕ) (j : Job) (L : ℕ → Type 0) (Ok : W → List ℕ → List ℕ → Type 0) (img : List ℕ) (o : WriteOut W) : Type 0 where
  written : (h : ℕ) (out : List ℕ) → Accepted B N j L Ok img o h out → Outcome B N j L Ok img o
  refused : (out : List ℕ) → Refused B N L Ok img o out → Outcome B N j L Ok img o

module _ {W : Type 0} (look : List ℕ → ℕ → Look) (B N : ℕ) (health : List ℕ) (tries : W → ℕ) (alloc : W → List ℕ → Took W)
    (L : ℕ → Type 0) (Ok : W → List ℕ → List ℕ → Type 0)
    (al : Allocator B N tries alloc L Ok) (j : Job) (w : W) (img : List ℕ) (g : Given look B N j L Ok w img) where
  abbrev f₀ : ℕ → ℕ
  f₀ = block_at B img (block_list j.head j.old)

  sized : BlockSized B
  sized = g.card.sized

  holds : Holds B N img f₀ j.old
  holds = list_holds B N sized img j.head j.old (omega (arith, g.fits)) g.list

  begin : Begin look B N j L img f₀
  begin = record { holds = holds; clear = g.clear; fits = g.fits; looks = g.looks }

  -- the list that is kept stands before the first growth
  first : Between B N j L Ok img f₀ w [] img f₀ (first_head (look img) (kept j)) (kept j)
  first = record {
    card = g.card;
    ok = g.ok;
    holds = shrinks B N sized img f₀ (kept j) j.old (omega arith) holds;
    top = λ p. first_head_lem look img j.old f₀ B (g.looks img g.card (λ k o u h. refl)) (kept j) p (omega arith);
    clear = λ i u. inl (g.clear i (omega arith));
    stays = λ k o u l. refl;
    reads = λ p l. sym (over_low (bytes_by B img f₀ j.old) j.pos j.src p (omega arith) ∙ bytes_at_lem B img f₀ j.old p (omega arith));
    from = omega arith;
    until = omega arith;
    old_ones = λ i l. refl;
    new_ones = λ i l. absurd (omega arith);
  }

  more : kept j < new j
  more = omega (arith, g.some)

  accepted : (o : WriteOut W) (out : List ℕ) (f : ℕ → ℕ) (h : ℕ) → o.answer ≡ Written h (new j)
      → Between B N j L Ok img f₀ o.rest out o.image f h (new j) → Accepted B N j L Ok img o h out
  accepted o out f h a st = record {
    answer = a;
    card = st.card;
    ok = st.ok;
    list = holds_list B N sized o.image h (new j) g.fits f st.holds st.top (λ z. absurd (omega (arith, more)));
    plain = subst (λ (ys : List ℕ). Overwritten xs j.pos j.src ys) (sym (sound_bytes B N sized o.image f h (new j) st.holds st.top))
        (record {
          long = lb ∙ sym (ap (λ (n : ℕ). max n (over j)) lx);
          low = λ p l. at_byte p (omega arith) ∙ over_low xs j.pos j.src p l;
          mid = λ p l u. at_byte p (omega arith) ∙ over_mid xs j.pos j.src p l u;
          high = λ p l u. at_byte p (rw lb at u) ∙ over_high xs j.pos j.src p (omega arith) l;
        });
    kept_blocks = λ i l. is i (low i l) ∙ st.old_ones i l;
    new_blocks = λ i l u. subst (λ (z : ℕ). In z out) (sym (is i u)) (handed (st.clear i u) (st.new_ones i more l u));
    unlisted = λ i l u k v e. st.new_ones i more l u k v (sym (is i u) ∙ e);
    stays = st.stays;
  }
    where
      xs : List ℕ
      xs = bytes_by B img f₀ j.old

      lx : length xs ≡ j.old
      lx = bytes_length B img f₀ j.old

      lb : length (bytes_by B o.image f (new j)) ≡ new j
      lb = bytes_length B o.image f (new j)

      at_byte : (p : ℕ) → p < new j → get_or (bytes_by B o.image f (new j)) p 0 ≡ want B j img f₀ p
      at_byte p l = bytes_at_lem B o.image f (new j) p l ∙ st.reads p l

      is : (i : ℕ) → start B i < new j → block_at B o.image (block_list h (new j)) i ≡ f i
      is = at_is B N sized o.image f h (new j) st.holds st.top

      handed : {k : ℕ} → MustStand L out k → ((k' : ℕ) → L k' → k ≢ k') → In k out
      handed {k} (inl a) ne = absurd (ne k a refl)
      handed (inr a) ne = a

      low : (i : ℕ) → i < index_at B (kept j) → start B i < new j
      low i l =
          let k32 : kept j < 2 ^ 32 = omega (arith, g.fits) in
          let ib = in_block B sized (kept j) k32 in
          omega (arith, ib.from, start_lt B sized (kept j) i (index_at B (kept j)) k32 ib.from l)

  -- what the loop leaves
  abbrev o : WriteOut W
  o = write_of look tries alloc (suc (tries w)) health B N j w (first_head (look img) (kept j)) (kept j) img

  -- A write on a sound list is written, or refused for want of blocks, and never damaged.
  pub write_plain : Outcome B N j L Ok img (put_of look tries alloc health B N j w img)
  unfolding put_of
  write_plain = rw (put_of, all_looked) (go (writing look B N health tries alloc L Ok al j img f₀ begin (suc (tries w)) w [] img f₀ _ (kept j) first))
    where
      all_looked : looked (look img) (wanted B j) ≡ true
      all_looked = wanted_looked look img B j (λ p l. (_, g.looks img g.card (λ k o u h. refl) p l)) sized g.fits g.some

      go : Ended look B N health tries alloc L Ok al j img f₀ o → Outcome B N j L Ok img o
      go (done out f h a st) = written h out (accepted o out f h a st)
      go (short out a c ok s) = refused out (record { answer = a; card = c; ok = ok; stays = s })
