-- Objects that come in late: an identity is given first, its object is put into a car later, and is named by a field or
-- a register then. What a world has is a premise here, and nothing that a caller must know.
use Rattle.std.specs.Prelude.{◌≡◌, ◌≢◌, ℕ, ◌+◌, ◌<◌, ◌≤◌, ◌==◌, if◌then◌else◌, List, length, replicate, Option, Some, None, IsSome}
use Rattle.std.specs.FinMap.{get}
use Rattle.pm_types.specs.declared.limits.TheConstants.{FIELDS, OBJECT_BYTES, END_ID}
use Rattle.pm_types.specs.declared.address.Addr.{Addr}
use Rattle.pm_types.specs.declared.object.Object as kept
use Rattle.pm_model.specs.Heap.{Object, with_field}
use Rattle.pm_model.specs.World.{World, changing, holding}
use Rattle.pm_model.specs.Answer.{fresh}
use Rattle.pm_view.specs.View.{SpaceView}
use Rattle.pm_view.specs.Reading.{id_at}
use Rattle.pm_view.specs.Represents.{Represents}
use Rattle.pm_view.specs.Rows.{spent}

-- ---- an identity

-- the next identity is given, and the one after it is the next; none is given where none is left, and nothing changes
abbrev pub row_spend : SpaceView → Option ℕ × SpaceView
row_spend view = if view.next == END_ID then (None, view) else (Some view.next, spent view)

-- the world in which the next identity was given too, where one was
abbrev pub giving : World → Option ℕ → World
giving world None = world
giving world (Some id) = record world { next = world.next + 1 }

-- each world that the space stands for has the next identity given too
abbrev pub SpendsToo : SpaceView → Option ℕ → SpaceView → Type 0
SpendsToo view given after = (world : World) → Represents view world → Represents after (giving world given)

-- ---- an object

-- An object that may come in: its identity was given, no place has it, also in a car that is set aside, and the object
-- is within the limits.
pub record MayBeAdmitted (view : SpaceView) (id count : ℕ) (content : List ℕ) : Type 0 where
  pub first : 0 < id
  pub given : id < view.next
  pub unused : (a : Addr) → id_at view a ≢ Some id
  pub fields : count ≤ FIELDS
  pub bytes : length content ≤ OBJECT_BYTES

-- the object that comes in: its fields are null
abbrev pub admitted : ℕ → ℕ → List ℕ → kept.Object
admitted id count bytes = record { id = id; fields = replicate count None; bytes = bytes }

-- each world that the space stands for has the object too, where its heap has none of this identity
abbrev pub AdmitsToo : SpaceView → ℕ → ℕ → List ℕ → SpaceView → Type 0
AdmitsToo view id count bytes after =
    (world : World) → Represents view world → get world.heap id ≡ None
    → Represents after (changing world id (fresh count bytes))

-- ---- a field and a register

-- each world that the space stands for, and whose heap has both objects, has the field set too
abbrev pub LinksToo : SpaceView → Addr → ℕ → Addr → SpaceView → Type 0
LinksToo view at index to after =
    (world : World) (from other : ℕ) (known : Object) → Represents view world
    → id_at view at ≡ Some from → id_at view to ≡ Some other
    → get world.heap from ≡ Some known → IsSome (get world.heap other)
    → Represents after (changing world from (with_field known index (Some other)))

-- each world that the space stands for, and whose heap has the object, has the register hold it too
abbrev pub HoldsToo : SpaceView → ℕ → ℕ → Addr → SpaceView → Type 0
HoldsToo view client register at after =
    (world : World) (id : ℕ) → Represents view world → id_at view at ≡ Some id → IsSome (get world.heap id)
    → Represents after (holding world client register id)
