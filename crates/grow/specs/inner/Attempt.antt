-- One try of a growth, told with what the device does: a refused erase or first program is a case of its own, and the growth moves on to another block.
use Rattle.std.specs.Prelude.{◌≡◌, Bool, true, false, Result, Ok, Err, List, ℕ, ◌≤◌, ◌<◌, length}
use Rattle.card.specs.inner.Cards.{CardFacts}
use Rattle.health.specs.Health.{refuses_erase}
use Rattle.device.specs.Device.{wiped}
use Rattle.grow.specs.declared.Grown.{Grown}
use Rattle.grow.specs.declared.Failed.{Failed}
use Rattle.grow.specs.declared.Failed.TheVariants.{Spoiled, Refused}
use Rattle.grow.specs.Extend.{Growth, GrowOut}
use Rattle.grow.specs.inner.Grow.{pointers_of, link_of, spoils}

-- what a try with one block answers
abbrev pub Tried : Type 0
Tried = Result Grown Failed

-- it answers what the growth does
abbrev pub tried_of : Growth → Tried
tried_of (Ok g) = Ok g
tried_of (Err r) = Err (Refused r)

-- what a try leaves
pub record LinkOut : Type 0 where
  pub answer : Tried
  pub image : List ℕ

-- a block that refuses stays as it was erased; else the growth's answer and image stand
abbrev pub unless_spoiled : Bool → List ℕ → GrowOut (Unit {0}) → LinkOut
unless_spoiled true img o = record { answer = Err Spoiled; image = img }
unless_spoiled false img o = record { answer = tried_of o.answer; image = o.image }

-- m more pointers go into block k, from pointer x on, unless it refuses the first of them
unfoldable pub put_pointers : List ℕ → ℕ → ℕ → ℕ → ℕ → ℕ → ℕ → ℕ → List ℕ → LinkOut
put_pointers health B N k off m x cur img = unless_spoiled (spoils health N k cur m) img (pointers_of m B N k off x cur img tt)

-- block k, just erased, becomes the last block of the list (head, size), unless it refuses the first program
unfoldable pub attempt_of : List ℕ → ℕ → ℕ → ℕ → ℕ → ℕ → List ℕ → LinkOut
attempt_of health B N k head s img = unless_spoiled (spoils health N k head s) img (link_of B N k head s img tt)

-- block k is erased and linked, unless it refuses either
unfoldable pub try_of : List ℕ → ℕ → ℕ → ℕ → ℕ → ℕ → List ℕ → LinkOut
try_of health B N k head s img =
    elim (refuses_erase health k) [
      | true ↦ record { answer = Err Spoiled; image = img }
      | false ↦ attempt_of health B N k head s (wiped B img k)
    ]

-- r is the answer and `after` the image that a definition gives
pub record LinkGives (o : LinkOut) (r : Tried) (after : List ℕ) : Type 0 where
  pub answer : r ≡ o.answer
  pub image : after ≡ o.image

-- what these steps ask: a card with a health byte for each block, and a block of it
pub record Linking (B N k : ℕ) (image health : List ℕ) : Type 0 where
  pub card : CardFacts B N (length image)
  pub known : N ≤ length health
  pub block : k < N
