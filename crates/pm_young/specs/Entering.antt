-- Identities that came into cars, and those that may do so.
use Rattle.std.specs.Prelude.{◌≡◌, ◌≢◌, ◌⊎◌, ℕ, ◌<◌, ◌≤◌, true, nat_eq, List, Some, None, IsSome}
use Rattle.std.specs.List.{IsDistinct}
use Rattle.std.specs.FinMap.{get}
use Rattle.pm_types.specs.declared.address.Addr.{Addr}
use Rattle.pm_model.specs.Reachability.{IsReachable}
use Rattle.pm_model.specs.World.{World}
use Rattle.pm_view.specs.View.{SpaceView}
use Rattle.pm_view.specs.Reading.{id_at}
use Rattle.pm_view.specs.Represents.{IsHeld}
use Rattle.pm_nursery.specs.Young.{NurseryView}
use Rattle.pm_nursery.specs.Sweeping.{among}
use Rattle.pm_nursery.specs.Escaping.{IsAscending}

-- an object of the identity is in a car, standing or not
abbrev pub IsPresent : SpaceView → ℕ → Type 0
IsPresent view id = (a : Addr) × (id_at view a ≡ Some id)

-- the identity was given since the opening
abbrev pub IsGivenSince : SpaceView → SpaceView → ℕ → Type 0
IsGivenSince opened view id = (opened.next ≤ id) × (id < view.next)

-- What came in since the opening: an object that is in a car, standing or not, was in one at the opening, or is among
-- those that entered. None entered twice, and none that entered is young. They and the young ones were given since the
-- opening.
pub record KeepsEntered (opened view : SpaceView) (nursery : NurseryView) (entered : List ℕ) : Type 0 where
  pub present : (id : ℕ) → IsPresent view id → IsPresent opened id ⊎ (among entered id ≡ true)
  pub once : IsDistinct nat_eq entered
  pub apart : (id : ℕ) → among entered id ≡ true → get nursery.objects id ≡ None
  pub given : (id : ℕ) → among entered id ≡ true → IsGivenSince opened view id
  pub young : (id : ℕ) → IsSome (get nursery.objects id) → IsGivenSince opened view id

-- an object of the identity may come into a car: it was given, and is in none
pub record MayComeIn (view : SpaceView) (id : ℕ) : Type 0 where
  pub first : 0 < id
  pub given : id < view.next
  pub unused : (a : Addr) → id_at view a ≢ Some id

-- the identity is that of a young object that the world's names and registers reach
abbrev pub IsKept : World → NurseryView → ℕ → Type 0
IsKept world nursery id = IsSome (get nursery.objects id) × IsReachable world.heap (IsHeld world) id

-- these are the first ones, ascending, of the young objects that the world's names and registers reach
pub record AreFirstKept (world : World) (nursery : NurseryView) (ids : List ℕ) : Type 0 where
  pub ascending : IsAscending ids
  pub each : (id : ℕ) → among ids id ≡ true → IsKept world nursery id
  pub before : (id other : ℕ) → among ids other ≡ true → id < other → IsKept world nursery id → among ids id ≡ true

-- these are all of them, ascending
pub record AreKept (world : World) (nursery : NurseryView) (ids : List ℕ) : Type 0 where
  pub ascending : IsAscending ids
  pub each : (id : ℕ) → among ids id ≡ true → IsKept world nursery id
  pub all : (id : ℕ) → IsKept world nursery id → among ids id ≡ true
