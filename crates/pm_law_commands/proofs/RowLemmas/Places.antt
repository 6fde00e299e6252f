-- What places hold once a slot or an object was changed.
use Rattle.std.proofs.Common.{◌≡◌, ℕ, zero, suc, ◌<◌, ◌==◌, ◌&&◌, Bool, true, false, cond, refl, ap, sym, ◌∙◌, List, [], ◌∷◌, length, slice_set, Option, Some, None, arith}
use Rattle.std.specs.List.{slice_get}
use Rattle.std.specs.Option.{IsSome, option_map, option_flatten, option_and_then}
use Rattle.std.specs.FinMap.{get}
use Rattle.std.proofs.lemmas.Bool.{eqb-true, true≢false}
use Rattle.std.proofs.lemmas.Bool.Decides.{nat_tests}
use Rattle.pm_types.specs.declared.address.Addr.{Addr}
use Rattle.pm_types.specs.declared.object.Object.{Object}
use Rattle.pm_types.specs.declared.object.Slot.{Slot}
use Rattle.pm_types.specs.declared.object.Slot.TheVariants.{Live, Moved}
use Rattle.pm_cars.specs.Cars.{Car, object_of, with_slot, with_field}
use Rattle.pm_view.specs.Sources.{same_address}
use Rattle.pm_view.specs.View.{Cars}
use Rattle.pm_view.specs.Reading.{slot_at, object_at, field_of}
use Rattle.pm_view.specs.Rows.{put_car, with_slot_at, put_object, with_object}
use Rattle.pm_law_commands.proofs.RowLemmas.News.{at_insert}
use Rattle.pm_law_commands.proofs.RowLemmas.SameSource.{same_address-true}

-- an item of a list where one was set
pub item_set : {X : Type 0} (xs : List X) (i j : ℕ) (v : X) → i < length xs → slice_get (slice_set xs i v) j ≡ cond (i == j) (Some v) (slice_get xs j)
item_set [] i j v h = absurd (omega arith)
item_set (x ∷ xs) zero zero v h = refl
item_set (x ∷ xs) zero (suc j) v h = grind (arith, nat_tests)
item_set (x ∷ xs) (suc i) zero v h = grind (arith, nat_tests)
item_set (x ∷ xs) (suc i) (suc j) v h = let ih = item_set xs i j v (omega arith) in grind (arith, nat_tests, ih)

-- what is at a slot of a car
abbrev pub slot_of : Option Car → ℕ → Option Slot
slot_of o slot = option_and_then (λ (car : Car). get car.slots slot) o

slot_put : (cars : Cars) (a : Addr) (o : Option Car) (w : Slot) → o ≡ get cars a.car → IsSome o → (b : Addr) (c d : Bool) → (a.car == b.car) ≡ c → (a.slot == b.slot) ≡ d
    → slot_of (get (put_car cars a.car o (λ car. with_slot car a.slot w)) b.car) b.slot ≡ cond (c && d) (Some w) (slot_at cars b)
slot_put cars a None w is some b c d ec ed = absurd (true≢false (sym some))
slot_put cars a (Some car) w is some b true d ec ed =
    ap (λ o. slot_of o b.slot) (at_insert cars a.car (with_slot car a.slot w) b.car ∙ ap (λ c. cond c (Some (with_slot car a.slot w)) (get cars b.car)) ec)
    ∙ at_insert car.slots a.slot w b.slot
    ∙ ap (λ d. cond d (Some w) (get car.slots b.slot)) ed
    ∙ ap (λ o. cond d (Some w) (slot_of o b.slot)) (is ∙ ap (get cars) (eqb-true a.car b.car ec))
slot_put cars a (Some car) w is some b false d ec ed =
    ap (λ o. slot_of o b.slot) (at_insert cars a.car (with_slot car a.slot w) b.car ∙ ap (λ c. cond c (Some (with_slot car a.slot w)) (get cars b.car)) ec)

-- what a place holds once the slot at an address holds something else
pub slot_after : (cars : Cars) (a : Addr) (w : Slot) → IsSome (get cars a.car) → (b : Addr) → slot_at (with_slot_at cars a w) b ≡ cond (same_address a b) (Some w) (slot_at cars b)
slot_after cars a w some b = slot_put cars a (get cars a.car) w refl some b (a.car == b.car) (a.slot == b.slot) refl refl

-- a car stands in which there is an object
has_car : (o : Option Car) (slot : ℕ) (object : Object) → object_of (slot_of o slot) ≡ Some object → IsSome o
has_car None slot object is = cc
has_car (Some car) slot object is = refl

pub object_has_car : (cars : Cars) (a : Addr) (object : Object) → object_at cars a ≡ Some object → IsSome (get cars a.car)
object_has_car cars a object is = has_car (get cars a.car) a.slot object is

-- a slot in which there is an object
pub live_slot : (o : Option Slot) (object : Object) → object_of o ≡ Some object → o ≡ Some (Live object)
live_slot None object is = cc
live_slot (Some (Live it)) object is = ap (λ o. elim o as (λ _. Option Slot) [ None ↦ None | Some it ↦ Some (Live it) ]) is
live_slot (Some (Moved to)) object is = cc

changed_object : (b : Bool) (object : Object) (o : Option Slot) → object_of (cond b (Some (Live object)) o) ≡ cond b (Some object) (object_of o)
changed_object true object o = refl
changed_object false object o = refl

same_place : (cars : Cars) (a b : Addr) (c : Bool) → same_address a b ≡ c → None ≡ object_at cars a → object_at cars b ≡ cond c None (object_at cars b)
same_place cars a b true is none = ap (object_at cars) (sym (same_address-true a b is)) ∙ sym none
same_place cars a b false is none = refl

object_put : (cars : Cars) (a : Addr) (o : Option Object) (change : Object → Object) → o ≡ object_at cars a → (b : Addr)
    → object_at (put_object cars a o change) b ≡ cond (same_address a b) (option_map change o) (object_at cars b)
object_put cars a None change is b = same_place cars a b (same_address a b) refl is
object_put cars a (Some object) change is b =
    ap object_of (slot_after cars a (Live (change object)) (object_has_car cars a object (sym is)) b) ∙ changed_object (same_address a b) (change object) (slot_at cars b)

-- the object at an address once that at another was changed
pub object_after : (cars : Cars) (a : Addr) (change : Object → Object) (b : Addr) → object_at (with_object cars a change) b ≡ cond (same_address a b) (option_map change (object_at cars a)) (object_at cars b)
object_after cars a change b = object_put cars a (object_at cars a) change refl b

-- a list has so many items where it has this one
pub within : {X : Type 0} (xs : List X) (i : ℕ) → IsSome (slice_get xs i) → i < length xs
within [] i has = absurd (true≢false (sym has))
within (x ∷ xs) zero has = omega arith
within (x ∷ xs) (suc i) has = let ih = within xs i has in omega arith

-- a field of an object once one was set
flatten_cond : (b : Bool) (v : Option Addr) (o : Option (Option Addr)) → option_flatten (cond b (Some v) o) ≡ cond b v (option_flatten o)
flatten_cond true v o = refl
flatten_cond false v o = refl

pub field_set : (o : Option Object) (i : ℕ) (to : Option Addr) → IsSome (option_and_then (λ (o : Object). slice_get o.fields i) o) → (j : ℕ)
    → field_of (option_map (λ object. with_field object i to) o) j ≡ cond (i == j) to (field_of o j)
field_set None i to has j = absurd (true≢false (sym has))
field_set (Some object) i to has j = ap option_flatten (item_set object.fields i j to (within object.fields i has)) ∙ flatten_cond (i == j) to (slice_get object.fields j)
