-- Which worlds a space stands for.
use Rattle.std.specs.Prelude.{◌≡◌, ◌⊎◌, ℕ, ◌<◌, false, List, map, Option, Some, None, option_and_then}
use Rattle.std.specs.FinMap.{get}
use Rattle.pm_types.specs.declared.address.Addr.{Addr}
use Rattle.pm_types.specs.declared.object.Object as stored
use Rattle.pm_model.specs.Heap.{Object, Holds}
use Rattle.pm_model.specs.World.{World, emptying, holding}
use Rattle.pm_model.specs.Reachability.{IsReachable}
use Rattle.pm_view.specs.View.{SpaceView}
use Rattle.pm_view.specs.Reading.{object_at, is_aside, named_by}
use Rattle.pm_view.specs.Counts.{IsStanding}

-- the identity of the object to which a stored address leads, none where it is null
abbrev pub names : SpaceView → Option Addr → Option ℕ
names view a = option_and_then (named_by view) a

-- what an object of a space says: its fields, each followed to the identity of its object, and its bytes
abbrev pub meaning : SpaceView → stored.Object → Object
meaning view object = record { fields = map (names view) object.fields; bytes = object.bytes }

-- a name or a register of the world holds the identity
abbrev pub IsHeld : World → ℕ → Type 0
IsHeld world id = ((name : List ℕ) × (get world.roots name ≡ Some id)) ⊎ ((place : ℕ × ℕ) × (get world.registers place ≡ Some id))

-- no name, register or object of the world names the identity
pub record IsForgotten (world : World) (id : ℕ) : Type 0 where
  pub name : (name : List ℕ) → get world.roots name ≡ Some id → ⊥
  pub register : (place : ℕ × ℕ) → get world.registers place ≡ Some id → ⊥
  pub field : (from : ℕ) → Holds world.heap from id → ⊥

-- A space stands for a world: names and registers lead to what the world has there, and so is the next identity, which
-- is over every identity of the world's heap; an object that stands and is in the world's heap is the world's; what the
-- world reaches stands; and an object that stands and is not in the world's heap is a leftover, which nothing of the
-- world names.
pub record Represents (view : SpaceView) (world : World) : Type 0 where
  pub roots : (name : List ℕ) → get world.roots name ≡ option_and_then (λ (bound : ℕ × Addr). named_by view bound.1) (get view.roots name)
  pub registers : (place : ℕ × ℕ) → get world.registers place ≡ names view (get view.registers place)
  pub next : world.next ≡ view.next
  pub given : (id : ℕ) (known : Object) → get world.heap id ≡ Some known → id < world.next
  pub objects : (a : Addr) (object : stored.Object) (known : Object) → is_aside view a.car ≡ false → object_at view.cars a ≡ Some object
      → get world.heap object.id ≡ Some known → known ≡ meaning view object
  pub reached : (id : ℕ) → IsReachable world.heap (IsHeld world) id → IsStanding view id
  pub leftover : (a : Addr) (object : stored.Object) → is_aside view a.car ≡ false → object_at view.cars a ≡ Some object → get world.heap object.id ≡ None → IsForgotten world object.id

-- the world in which a register of a client holds this identity, or nothing
abbrev pub registered : World → ℕ → ℕ → Option ℕ → World
registered world client register None = emptying world client register
registered world client register (Some id) = holding world client register id
