-- A write of at least one byte by growths, each new block filled before the next growth; over any allocator and lookup.
use Rattle.std.specs.Prelude.{true, false, Ok, Err, List, ℕ, zero, suc, ◌+◌, ◌-◌, min, ltb}
use Rattle.layout.specs.declared.Refusal.{Refusal}
use Rattle.layout.specs.declared.Refusal.TheVariants.{Missing, TableFull, Exists, Invalid, TooLarge, NoSpace, Damaged}
use Rattle.health.specs.Health.{refuses_program}
use Rattle.trials.specs.Loop.{Took, Writing, Written, NoRoom, Corrupt, WriteOut, write_out}
use Rattle.grow.specs.Extend.{GrowOut}
use Rattle.grow.specs.inner.Grow.{grow_of}
use Rattle.old_list.specs.Write.{Job, over, new, kept, Look, Found, Lost, wanted, looked, first_head}
use Rattle.new_block.specs.inner.Fill.{fronted, tailed}

-- What follows the front of a block: where tail is due its old block is looked up, on the image as it then stands; -84 where it is not found.
unfoldable pub filled_of : {W : Type 0} → (List ℕ → ℕ → Look) → ℕ → Job → ℕ → ℕ → ℕ → ℕ → List ℕ → W → (List ℕ → WriteOut W) → WriteOut W
filled_of look B j k off s n img w go =
    elim (ltb (over j - s) n) [
      | false ↦ go img
      | true ↦ elim (look img (s + (over j - s))) [
        | Lost ↦ write_out Corrupt img w
        | Found ob ↦ go (tailed B k off s n ob (over j) img)
      ]
    ]

-- why a write stops at a growth: behind the tests it answers -28 or -84
abbrev pub stopped : Refusal → Writing
stopped NoSpace = NoRoom
stopped Missing = Corrupt
stopped TableFull = Corrupt
stopped Exists = Corrupt
stopped Invalid = Corrupt
stopped TooLarge = Corrupt
stopped Damaged = Corrupt

-- what follows a growth
unfoldable pub grown_of : {W : Type 0} → GrowOut W → (ℕ → ℕ → WriteOut W) → WriteOut W
grown_of o go =
    elim o.answer [
      | Ok g ↦ go g.block g.offset
      | Err r ↦ write_out (stopped r) o.image o.rest
    ]

-- From the list (h, s) on, until the new size is reached. A program refused after a growth from size 0 moves on to another block.
-- m bounds the growths: one for each block that may be handed out is enough.
unfoldable pub write_of : {W : Type 0} → (List ℕ → ℕ → Look) → (W → ℕ) → (W → List ℕ → Took W) → ℕ → List ℕ → ℕ → ℕ → Job → W → ℕ → ℕ → List ℕ → WriteOut W
write_of look tries alloc zero health B N j w h s img = write_out NoRoom img w
write_of look tries alloc (suc m) health B N j w h s img =
    elim (ltb s (new j)) [
      | false ↦ write_out (Written h s) img w
      | true ↦ grown_of (grow_of alloc (suc (tries w)) w health B N h s img) (λ k off.
          elim (refuses_program health k) [
            | true ↦
                write_of look tries alloc m health B N j (grow_of alloc (suc (tries w)) w health B N h s img).rest h s
                (grow_of alloc (suc (tries w)) w health B N h s img).image
            | false ↦
                filled_of look B j k off s (min (new j - s) (B - off))
                (fronted B k off s (min (new j - s) (B - off)) j.pos j.src (grow_of alloc (suc (tries w)) w health B N h s img).image)
                (grow_of alloc (suc (tries w)) w health B N h s img).rest
                (λ img'. write_of look tries alloc m health B N j (grow_of alloc (suc (tries w)) w health B N h s img).rest k (s + min (new j - s) (B - off)) img')
          ])
    ]

-- the whole write, behind its checkpoint
unfoldable pub put_of : {W : Type 0} → (List ℕ → ℕ → Look) → (W → ℕ) → (W → List ℕ → Took W) → List ℕ → ℕ → ℕ → Job → W → List ℕ → WriteOut W
put_of look tries alloc health B N j w img =
    elim (looked (look img) (wanted B j)) [
      | false ↦ write_out Corrupt img w
      | true ↦ write_of look tries alloc (suc (tries w)) health B N j w (first_head (look img) (kept j)) (kept j) img
    ]
