-- Objects that come into cars: first without their fields, then with them, then held by registers. What a world has is
-- a premise here, since nobody knows every world that a space stands for.
use Rattle.std.specs.Prelude.{◌≡◌, ◌⊎◌, ℕ, ◌<◌, true, false, nat_eq, if◌then◌else◌, List, []}
use Rattle.std.specs.Prelude.{◌∷◌, ◌++◌, length, take, slice_get, slice_index, Some, None, IsSome, option_map}
use Rattle.std.specs.FinMap.{get}
use Rattle.pm_types.specs.declared.address.Addr.{Addr}
use Rattle.pm_model.specs.Heap.{Object, Heap, Holds}
use Rattle.pm_model.specs.World.{World, Registers, changing}
use Rattle.pm_model.specs.Answer.{fresh}
use Rattle.pm_view.specs.View.{SpaceView}
use Rattle.pm_view.specs.Reading.{is_aside, id_at}
use Rattle.pm_view.specs.Counts.{IsStandingAt}
use Rattle.pm_view.specs.Represents.{Represents}
use Rattle.pm_model.specs.Reachability.{IsReachable}
use Rattle.pm_nursery.specs.Young.{NurseryView, IsHeldYoung, no_nursery}
use Rattle.pm_nursery.specs.Escaping.{IsAscending, is_full}
use Rattle.pm_nursery.specs.Joined.{AreJoined, IsJoined}
use Rattle.pm_nursery.specs.Sweeping.{among, carried, AreReached, AreYoung, ComesIn, GoesOut}
use Rattle.pm_young.specs.Entering.{IsPresent, MayComeIn}
use Rattle.pm_young.specs.Rows.{ComeByRows}

-- ---- worlds

-- an object without its fields: they are null
abbrev pub blank : Object → Object
blank object = fresh (length object.fields) object.bytes

-- the world once the objects of these identities came in without their fields
pub record ComesBlank (within : World) (objects : Heap) (ids : List ℕ) (later : World) : Type 0 where
  pub rest : later ≡ record within { heap = later.heap }
  pub heap : (id : ℕ)
      → get later.heap id ≡ (if among ids id then option_map blank (get objects id) else get within.heap id)

-- the world once the objects of these identities have their fields
pub record ComesWhole (within : World) (objects : Heap) (ids : List ℕ) (later : World) : Type 0 where
  pub rest : later ≡ record within { heap = later.heap }
  pub heap : (id : ℕ) → get later.heap id ≡ (if among ids id then get objects id else get within.heap id)

-- the world once the object of this identity is this one
pub record HasObject (within : World) (id : ℕ) (object : Object) (later : World) : Type 0 where
  pub rest : later ≡ record within { heap = later.heap }
  pub heap : (other : ℕ) → get later.heap other ≡ (if nat_eq id other then Some object else get within.heap other)

-- the world once registers hold what these name of these identities
pub record ComesHeld (within : World) (held : Registers) (ids : List ℕ) (later : World) : Type 0 where
  pub rest : later ≡ record within { registers = later.registers }
  pub registers : (place : ℕ × ℕ)
      → get later.registers place ≡ carried ids (get held place) (get within.registers place)

-- the world's heap has none of these
abbrev pub HasNone : World → List ℕ → Type 0
HasNone world ids = (id : ℕ) → among ids id ≡ true → get world.heap id ≡ None

-- each world that the space stands for, and whose heap has none of these, has their objects too, without their fields
abbrev pub BringsBlank : SpaceView → Heap → List ℕ → SpaceView → Type 0
BringsBlank view objects ids after =
    (world : World) → Represents view world → HasNone world ids
    → (later : World) × Represents after later × ComesBlank world objects ids later

-- the same of one object
abbrev pub BringsOne : SpaceView → Heap → ℕ → SpaceView → Type 0
BringsOne view objects id after =
    (world : World) (object : Object) → Represents view world → get world.heap id ≡ None → get objects id ≡ Some object
    → Represents after (changing world id (blank object))

-- the world's heap has these objects without their fields
abbrev pub HasBlank : World → Heap → List ℕ → Type 0
HasBlank world objects ids = (id : ℕ) → among ids id ≡ true → get world.heap id ≡ option_map blank (get objects id)

-- each world that the space stands for, and that has these objects without their fields, has them with their fields
abbrev pub BringsWhole : SpaceView → Heap → List ℕ → SpaceView → Type 0
BringsWhole view objects ids after =
    (world : World) → Represents view world → HasBlank world objects ids
    → (later : World) × Represents after later × ComesWhole world objects ids later

-- the world's heap has objects of all of these
abbrev pub HasAll : World → List ℕ → Type 0
HasAll world ids = (id : ℕ) → among ids id ≡ true → IsSome (get world.heap id)

-- each world that the space stands for, and that has these objects, this one without its fields, has it with its fields
abbrev pub BringsFields : SpaceView → Heap → List ℕ → ℕ → SpaceView → Type 0
BringsFields view objects ids index after =
    (world : World) (object : Object) → Represents view world → HasAll world ids
    → get objects (slice_index ids index) ≡ Some object → get world.heap (slice_index ids index) ≡ Some (blank object)
    → (later : World) × Represents after later × HasObject world (slice_index ids index) object later

-- each world that the space stands for, and that has these objects, has them held by the registers that name one
abbrev pub BringsHeld : SpaceView → Registers → List ℕ → SpaceView → Type 0
BringsHeld view registers ids after =
    (world : World) → Represents view world → HasAll world ids
    → (later : World) × Represents after later × ComesHeld world registers ids later

-- the same of one of them
abbrev pub BringsHolders : SpaceView → Registers → ℕ → SpaceView → Type 0
BringsHolders view registers id after =
    (world : World) → Represents view world → IsSome (get world.heap id)
    → (later : World) × Represents after later × ComesHeld world registers (id ∷ []) later

-- each world that the space stands for, and whose heap has none of these, has come in what the nursery has of them
abbrev pub BringsIn : SpaceView → NurseryView → List ℕ → SpaceView → Type 0
BringsIn view nursery ids after =
    (world : World) → Represents view world → HasNone world ids
    → (later : World) × Represents after later × ComesIn world nursery ids later

-- ---- places

-- at each of these places stands the object of the identity that is as far in the list
abbrev pub ArePlaces : SpaceView → List ℕ → List Addr → Type 0
ArePlaces view ids places =
    (at id : ℕ) (a : Addr) → slice_get ids at ≡ Some id → slice_get places at ≡ Some a → IsStandingAt view id a

-- the space stands for a world whose heap has none of these
pub record StandsWithout (view : SpaceView) (ids : List ℕ) : Type 0 where
  pub world : World
  pub represents : Represents view world
  pub none : HasNone world ids

-- the space stands for a world, whose heap has these objects without their fields
pub record StandsBlank (view : SpaceView) (objects : Heap) (ids : List ℕ) : Type 0 where
  pub world : World
  pub represents : Represents view world
  pub blank : HasBlank world objects ids

-- the space stands for a world, which has all of these objects, and this one without its fields
pub record StandsBlankAt (view : SpaceView) (objects : Heap) (ids : List ℕ) (index : ℕ) : Type 0 where
  pub world : World
  pub represents : Represents view world
  pub all : HasAll world ids
  pub blank : get world.heap (slice_index ids index) ≡ option_map blank (get objects (slice_index ids index))

-- what the objects of these identities hold is among them
abbrev pub HoldsWithin : Heap → List ℕ → Type 0
HoldsWithin objects ids = (from to : ℕ) → among ids from ≡ true → Holds objects from to → among ids to ≡ true

-- this is the place that is as far in the list of places as the identity is in its own
abbrev pub IsPlaceOf : List ℕ → List Addr → ℕ → Addr → Type 0
IsPlaceOf ids places id place = (at : ℕ) × (slice_get ids at ≡ Some id) × (slice_get places at ≡ Some place)

-- Objects of these identities, and no others, came in: each of them is in a car, every other one stays where it was,
-- the same cars are set aside, and no identity was given.
pub record AddsThese (view after : SpaceView) (ids : List ℕ) : Type 0 where
  pub here : (id : ℕ) → among ids id ≡ true → IsPresent after id
  pub only : (a : Addr) (id : ℕ) → id_at after a ≡ Some id → (id_at view a ≡ Some id) ⊎ (among ids id ≡ true)
  pub stays : (a : Addr) (id : ℕ) → id_at view a ≡ Some id → id_at after a ≡ Some id
  pub aside : (car : ℕ) → is_aside after car ≡ is_aside view car
  pub next : after.next ≡ view.next

-- objects of all of these identities may come in
abbrev pub MayAllComeIn : SpaceView → List ℕ → Type 0
MayAllComeIn view ids = (id : ℕ) → among ids id ≡ true → MayComeIn view id

-- These identities entered, each once its object was in a car.
pub record Enters (view after : SpaceView) (before later ids : List ℕ) : Type 0 where
  pub entered : later ≡ before ++ ids
  pub adds : AddsThese view after ids

-- a first part of these did
abbrev pub EntersPart : SpaceView → SpaceView → List ℕ → List ℕ → List ℕ → Type 0
EntersPart view after before later ids = (many : ℕ) × Enters view after before later (take many ids)

-- ---- sweeps

-- objects of all young identities may come in
abbrev pub MayYoungComeIn : SpaceView → NurseryView → Type 0
MayYoungComeIn view nursery = (id : ℕ) → IsSome (get nursery.objects id) → MayComeIn view id

-- the space stands for a world whose heap has no young object
pub record StandsApart (view : SpaceView) (nursery : NurseryView) : Type 0 where
  pub world : World
  pub represents : Represents view world
  pub none : (id : ℕ) → IsSome (get nursery.objects id) → get world.heap id ≡ None

-- these are the first ones, ascending, of the young objects that registers reach
pub record AreFirstReached (nursery : NurseryView) (ids : List ℕ) : Type 0 where
  pub ascending : IsAscending ids
  pub each : (id : ℕ) → among ids id ≡ true → IsReachable nursery.objects (IsHeldYoung nursery) id
  pub before : (id other : ℕ) → among ids other ≡ true → id < other
      → IsReachable nursery.objects (IsHeldYoung nursery) id → among ids id ≡ true

-- All young objects that registers reach came in and entered, ascending, with the registers that name one.
pub record CarriesReached (view : SpaceView) (nursery : NurseryView) (before : List ℕ) (after : SpaceView)
    (later : List ℕ) : Type 0 where
  pub ids : List ℕ
  pub ascending : IsAscending ids
  pub reached : AreReached nursery ids
  pub brings : BringsIn view nursery ids after
  pub rows : ComeByRows view nursery ids after
  pub enters : Enters view after before later ids

-- a first part of them did
pub record CarriesPart (view : SpaceView) (nursery : NurseryView) (before : List ℕ) (after : SpaceView)
    (later : List ℕ) : Type 0 where
  pub ids : List ℕ
  pub first : AreFirstReached nursery ids
  pub enters : Enters view after before later ids

-- ---- escapes

-- these are the first ones, ascending, of the young objects that are joined to this one
pub record AreFirstJoined (objects : Heap) (id : ℕ) (ids : List ℕ) : Type 0 where
  pub ascending : IsAscending ids
  pub each : (other : ℕ) → among ids other ≡ true → IsJoined objects id other
  pub before : (one other : ℕ) → among ids other ≡ true → one < other → IsJoined objects id one → among ids one ≡ true

-- All young objects that are joined to this one came in and entered, ascending, with the registers that name one, and
-- left the nursery.
pub record CarriesJoined (view : SpaceView) (nursery : NurseryView) (id : ℕ) (before : List ℕ) (after : SpaceView)
    (left : NurseryView) (later : List ℕ) : Type 0 where
  pub ids : List ℕ
  pub ascending : IsAscending ids
  pub joined : AreJoined nursery.objects id ids
  pub young : AreYoung nursery ids
  pub brings : BringsIn view nursery ids after
  pub rows : ComeByRows view nursery ids after
  pub enters : Enters view after before later ids
  pub leaves : GoesOut nursery ids left

-- a first part of them did
pub record CarriesJoinedPart (view : SpaceView) (nursery : NurseryView) (id : ℕ) (before : List ℕ) (after : SpaceView)
    (later : List ℕ) : Type 0 where
  pub ids : List ℕ
  pub first : AreFirstJoined nursery.objects id ids
  pub young : AreYoung nursery ids
  pub enters : Enters view after before later ids

-- ---- a full nursery

-- Where the nursery is full it was swept, and is empty; else nothing happened.
pub data SweepsIfFull (view : SpaceView) (nursery : NurseryView) (before : List ℕ) (after : SpaceView)
    (left : NurseryView) (later : List ℕ) : Type 0 where
  swept : is_full nursery ≡ true → CarriesReached view nursery before after later → left ≡ no_nursery
      → SweepsIfFull view nursery before after left later
  had_room : is_full nursery ≡ false → after ≡ view → left ≡ nursery → later ≡ before
      → SweepsIfFull view nursery before after left later

-- it was full, and a first part came in
pub record SweepsPart (view : SpaceView) (nursery : NurseryView) (before : List ℕ) (after : SpaceView) (later : List ℕ)
    : Type 0 where
  pub full : is_full nursery ≡ true
  pub part : CarriesPart view nursery before after later
