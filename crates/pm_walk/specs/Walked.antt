-- Walks: the objects that were found, each with what led to it, and when a walk is whole.
use Rattle.std.specs.Prelude.{◌≡◌, ℕ, ◌<◌, ◌≤◌, ◌+◌, List, [], length, Option, Some, None, IsSome, IsSomeAnd, IfSome, slice_get}
use Rattle.std.specs.Ordering.{nat_cmp}
use Rattle.std.specs.BTreeMap.{BTreeMap}
use Rattle.std.specs.FinMap.{FinMap, get, entries, from_entries}
use Rattle.pm_types.specs.declared.address.Addr.{Addr}
use Rattle.pm_types.specs.declared.object.Object as stored
use Rattle.pm_types.specs.declared.source.RefSource.TheVariants.{Field}
use Rattle.pm_model.specs.Heap.{Object}
use Rattle.pm_view.specs.View.{SpaceView}
use Rattle.pm_view.specs.Reading.{object_at, stored, resolve, named_by}
use Rattle.pm_view.specs.Represents.{meaning}
use Rattle.pm_law_copies.specs.Walks.Kept.{IsKeptAt}
use Rattle.pm_walk.specs.declared.walk.Found.{Found}
use Rattle.pm_walk.specs.declared.walk.Walk.{Walk}

-- the addresses that a tree holds, by identities
abbrev pub shown : BTreeMap ℕ Addr → FinMap nat_cmp Addr
shown met = from_entries met.entries

-- the objects that were met: the address of each, by its identity
abbrev pub met_in : Walk → FinMap nat_cmp Addr
met_in walk = shown walk.met

-- an object of the copy lies at the address
abbrev pub IsKept : SpaceView → Addr → Type 0
IsKept view a = (object : stored.Object) × IsKeptAt view a object

-- what an object of a space says; nothing where there is none
abbrev pub meant : SpaceView → Option stored.Object → Object
meant view None = record { fields = []; bytes = [] }
meant view (Some object) = meaning view object

-- what the object at an address says
abbrev pub meant_at : SpaceView → Addr → Object
meant_at view a = meant view (object_at view.cars a)

-- the address leads to nothing, or to an object that was met
abbrev pub IsMet : SpaceView → Walk → Addr → Type 0
IsMet view walk to = IfSome (named_by view to) (λ id. IsSome (get (met_in walk) id))

-- What leads to an address, for an object that is found at this place: the name at the index, or the field of that index
-- of the object that was found at an earlier place.
abbrev pub LeadsTo : SpaceView → List Found → ℕ → Option ℕ → ℕ → Addr → Type 0
LeadsTo view found place None index at = IsSomeAnd (slice_get (entries view.roots) index) (λ e. resolve view e.1.1 ≡ at)
LeadsTo view found place (Some from) index at =
    (from < place) × IsSomeAnd (slice_get found from) (λ holder. IsSomeAnd (stored view (Field holder.at index)) (λ to. resolve view to ≡ at))

-- the object that was found at this place holds this in the field
pub record IsFieldAt (view : SpaceView) (found : List Found) (place index : ℕ) (field : Option Addr) : Type 0 where
  pub one : Found
  pub object : stored.Object
  pub at : slice_get found place ≡ Some one
  pub here : object_at view.cars one.at ≡ Some object
  pub holds : slice_get object.fields index ≡ Some field

-- an object of the copy, found at this place, and what led to it
pub record IsFoundAt (view : SpaceView) (found : List Found) (place : ℕ) (one : Found) : Type 0 where
  pub object : stored.Object
  pub kept : IsKeptAt view one.at object
  pub identity : one.id ≡ object.id
  pub led : LeadsTo view found place one.from one.index one.at

-- each object that was found is one of the copy, with what led to it; each was met, and no other; and each was found once
pub record IsSoundWalk (view : SpaceView) (walk : Walk) : Type 0 where
  pub each : (place : ℕ) (one : Found) → slice_get walk.found.items place ≡ Some one → IsFoundAt view walk.found.items place one
  pub met : (place : ℕ) (one : Found) → slice_get walk.found.items place ≡ Some one → get (met_in walk) one.id ≡ Some one.at
  pub only : (id : ℕ) (a : Addr) → get (met_in walk) id ≡ Some a → (place : ℕ) × (one : Found) × (slice_get walk.found.items place ≡ Some one) × (one.id ≡ id)
  pub once : (place other : ℕ) (one two : Found) → slice_get walk.found.items place ≡ Some one → slice_get walk.found.items other ≡ Some two → one.id ≡ two.id → place ≡ other

-- what was found stays in its place, and what was met stays so
pub record Grows (old new : Walk) : Type 0 where
  pub found : (place : ℕ) (one : Found) → slice_get old.found.items place ≡ Some one → slice_get new.found.items place ≡ Some one
  pub met : (id : ℕ) → IsSome (get (met_in old) id) → IsSome (get (met_in new) id)

-- what was found behind the first ones was found by the names, or by the object at this place
abbrev pub AreFoundBy : List Found → List Found → Option ℕ → Type 0
AreFoundBy old new from = (place : ℕ) (one : Found) → length old ≤ place → slice_get new place ≡ Some one → one.from ≡ from

-- what each name stands for was met
abbrev pub IsBegun : SpaceView → Walk → Type 0
IsBegun view walk = (name : List ℕ) (bound : ℕ × Addr) → get view.roots name ≡ Some bound → IsMet view walk bound.1

-- what each field of the object found at this place holds was met
abbrev pub IsDoneAt : SpaceView → Walk → ℕ → Type 0
IsDoneAt view walk place =
    (one : Found) (index : ℕ) (to : Addr) → slice_get walk.found.items place ≡ Some one → stored view (Field one.at index) ≡ Some to → IsMet view walk to

-- what each name stands for was met, and so was what each object that was found holds
pub record IsWholeWalk (view : SpaceView) (walk : Walk) : Type 0 where
  pub begun : IsBegun view walk
  pub done : (place : ℕ) → IsDoneAt view walk place

-- the object of this identity was found at this place
abbrev pub IsPlaceOf : Walk → ℕ → ℕ → Type 0
IsPlaceOf walk id place = IsSomeAnd (slice_get walk.found.items place) (λ one. one.id ≡ id)

-- how many objects had been looked at when one was found that this led to: none by a name, and else the holder last
abbrev pub turn : Option ℕ → ℕ
turn None = 0
turn (Some from) = from + 1

-- the address leads to nothing, or to an object that was found before more than so many objects were looked at
abbrev pub IsMetBy : SpaceView → List Found → ℕ → Addr → Type 0
IsMetBy view found count to =
    IfSome (named_by view to) (λ id. (place : ℕ) × IsSomeAnd (slice_get found place) (λ one. (one.id ≡ id) × (turn one.from ≤ count)))

-- Breadth first: what was found later was led to later; each name's object was found by a name; and what the first so
-- many objects hold was found when they had been looked at, if not before.
pub record IsBroadWalk (view : SpaceView) (walk : Walk) (count : ℕ) : Type 0 where
  pub rise : (place later : ℕ) (one two : Found) → place ≤ later → slice_get walk.found.items place ≡ Some one → slice_get walk.found.items later ≡ Some two → turn one.from ≤ turn two.from
  pub names : (name : List ℕ) (bound : ℕ × Addr) → get view.roots name ≡ Some bound → IsMetBy view walk.found.items 0 bound.1
  pub fields : (place : ℕ) (one : Found) (index : ℕ) (to : Addr) → place < count → slice_get walk.found.items place ≡ Some one → stored view (Field one.at index) ≡ Some to → IsMetBy view walk.found.items (place + 1) to
