-- Objects that come in from a nursery, and those that a sweep carries.
use Rattle.std.specs.Prelude.{◌≡◌, ℕ, Bool, true, false, ◌||◌, nat_eq, if◌then◌else◌, List, [], ◌∷◌, Option, Some, None}
use Rattle.std.specs.Prelude.{IsSome}
use Rattle.std.specs.FinMap.{get}
use Rattle.pm_model.specs.Heap.{Heap, Holds}
use Rattle.pm_model.specs.World.{World}
use Rattle.pm_model.specs.Reachability.{IsReachable}
use Rattle.pm_nursery.specs.Young.{NurseryView, IsHeldYoung}

-- the identity is one of the list
abbrev pub among : List ℕ → ℕ → Bool
among [] id = false
among (first ∷ ids) id = nat_eq first id || among ids id

-- what a register holds within once these came in: what the nursery's register held, where that is one of them
abbrev pub carried : List ℕ → Option ℕ → Option ℕ → Option ℕ
carried ids None old = old
carried ids (Some id) old = if among ids id then Some id else old

-- and what the nursery's register holds then
abbrev pub left_held : List ℕ → Option ℕ → Option ℕ
left_held ids None = None
left_held ids (Some id) = if among ids id then None else Some id

-- the world within once the objects of these identities came in, with the registers that hold one
pub record ComesIn (within : World) (nursery : NurseryView) (ids : List ℕ) (later : World) : Type 0 where
  pub rest : later ≡ record within { heap = later.heap; registers = later.registers }
  pub heap : (id : ℕ) → get later.heap id ≡ (if among ids id then get nursery.objects id else get within.heap id)
  pub registers : (place : ℕ × ℕ)
      → get later.registers place ≡ carried ids (get nursery.registers place) (get within.registers place)

-- the nursery once they went out of it
pub record GoesOut (nursery : NurseryView) (ids : List ℕ) (later : NurseryView) : Type 0 where
  pub objects : (id : ℕ) → get later.objects id ≡ (if among ids id then None else get nursery.objects id)
  pub registers : (place : ℕ × ℕ) → get later.registers place ≡ left_held ids (get nursery.registers place)

-- each of these is a young object
abbrev pub AreYoung : NurseryView → List ℕ → Type 0
AreYoung nursery ids = (id : ℕ) → among ids id ≡ true → IsSome (get nursery.objects id)

-- no object outside the list holds one inside, and none inside holds one outside
abbrev pub IsDetached : Heap → List ℕ → Type 0
IsDetached objects ids = (from to : ℕ) → Holds objects from to → among ids from ≡ among ids to

-- these are the identities that the nursery's registers reach along young fields
pub record AreReached (nursery : NurseryView) (ids : List ℕ) : Type 0 where
  pub each : (id : ℕ) → among ids id ≡ true → IsReachable nursery.objects (IsHeldYoung nursery) id
  pub all : (id : ℕ) → IsReachable nursery.objects (IsHeldYoung nursery) id → among ids id ≡ true
