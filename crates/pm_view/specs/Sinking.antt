-- Objects that nothing names but one another, in old trains.
use Rattle.std.specs.Prelude.{◌≡◌, ◌<◌, ◌≤◌, ℕ, Bool, true, Some, IsSomeAnd}
use Rattle.pm_types.specs.declared.address.Addr.{Addr}
use Rattle.pm_types.specs.declared.source.RefSource.{RefSource}
use Rattle.pm_types.specs.declared.source.RefSource.TheVariants.{Root, Handle, Field}
use Rattle.pm_trains.specs.Trains.{train_of}
use Rattle.pm_model.specs.World.{World}
use Rattle.pm_model.specs.Reachability.{IsReachable}
use Rattle.pm_view.specs.View.{SpaceView}
use Rattle.pm_view.specs.Reading.{stored, is_kept, id_at}
use Rattle.pm_view.specs.Represents.{IsHeld, names}

-- the object at an address is of the set
abbrev pub IsOf : SpaceView → (ℕ → Type 0) → Addr → Type 0
IsOf view Of a = IsSomeAnd (id_at view a) Of

-- the source is a field of an object of the set
abbrev pub IsFieldOf : SpaceView → (ℕ → Type 0) → RefSource → Type 0
IsFieldOf view Of (Root number) = ⊥
IsFieldOf view Of (Handle client register) = ⊥
IsFieldOf view Of (Field a index) = IsOf view Of a

-- A set of identities is sunk up to a train. Its members were given; what stands and names one is a field of a member; a
-- member that is in a car, also in one that is set aside, is in a train numbered up to that one; and so is the train to
-- which a member goes that is the anchor.
pub record Sunk (view : SpaceView) (Of : ℕ → Type 0) (number : ℕ) : Type 0 where
  pub given : (id : ℕ) → Of id → id < view.next
  pub named : (x : RefSource) (id : ℕ) → is_kept view x ≡ true → names view (stored view x) ≡ Some id → Of id → IsFieldOf view Of x
  pub low : (a : Addr) → IsOf view Of a → IsSomeAnd (train_of view.trains.trains a.car) (λ train. train ≤ number)
  pub anchored : (a : Addr) (to : ℕ) → view.anchor ≡ Some (a, to) → IsOf view Of a → to ≤ number

-- the members of a set that a test tells
abbrev pub Passes : (ℕ → Bool) → ℕ → Type 0
Passes test id = test id ≡ true

-- the lost set of a world: the identities that were given and that no name and no register reaches
abbrev pub IsLost : World → ℕ → Type 0
IsLost world id = (id < world.next) × (IsReachable world.heap (IsHeld world) id → ⊥)
