-- What is seen of the cars that a table holds.
use Rattle.std.proofs.Common.{◌≡◌, ℕ, ◌<◌, refl, sym, ap, subst, ◌∙◌, arith, List, [], ◌∷◌, length, zero, suc, Option, Some, None, IsSome, IsSomeAnd}
use Rattle.std.specs.List.{slice_get}
use Rattle.std.specs.Option.{option_map, option_and_then}
use Rattle.std.specs.Ordering.{nat_cmp}
use Rattle.std.specs.Cmp.{nat_cmp_total}
use Rattle.std.specs.FinMap.{get, insert, nat_cmp-IsAntisymmetric}
use Rattle.std.proofs.lemmas.Grind.{common_steps}
use Rattle.pm_types.specs.Mapped.{mapped}
use Rattle.pm_types.proofs.Mapped.{get-mapped, mapped-insert}
use Rattle.pm_types.specs.declared.address.Addr.{Addr}
use Rattle.pm_types.specs.declared.object.Object.{Object}
use Rattle.pm_types.specs.declared.object.Slot.{Slot}
use Rattle.pm_types.specs.declared.object.Slot.TheVariants.{Live, Moved}
use Rattle.pm_cars.specs.declared.look.Look.TheVariants as looks
use Rattle.pm_cars.specs.Cars.{Car, object_of, look_of, HasField}
use Rattle.pm_cars.specs.Cars as car
use Rattle.pm_snap.specs.Snapped.{Snapped}
use Rattle.pm_view.specs.Reading.{slot_at, object_at, field_of, followed}
use Rattle.pm_view.specs.Rows.{put_car, put_object, with_object}
use Rattle.pm_space.specs.declared.held.Held.{Held}
use Rattle.pm_space.specs.Shown.{car_of, cars_of, HasFieldAt}

-- the car of a number
pub get_car : (table : Snapped Held) (number : ℕ) (found : Option Held) → found ≡ get table.current number → get (cars_of table) number ≡ option_map car_of found
get_car table number found is = get-mapped nat_cmp car_of table.current number ∙ ap (option_map car_of) (sym is)

-- what a slot of a car holds that is there
pub slot_there : (table : Snapped Held) (a : Addr) (held : Held) → Some held ≡ get table.current a.car → slot_at (cars_of table) a ≡ get held.car.car.slots a.slot
slot_there table a held is = ap (option_and_then (λ (car : Car). get car.slots a.slot)) (get_car table a.car (Some held) is)

-- a car that is not there has no slot
pub no_slot : (table : Snapped Held) (a : Addr) → None ≡ get table.current a.car → slot_at (cars_of table) a ≡ None
no_slot table a is = ap (option_and_then (λ (car : Car). get car.slots a.slot)) (get_car table a.car None is)

-- the object of a car that is there
pub object_there : (table : Snapped Held) (a : Addr) (held : Held) → Some held ≡ get table.current a.car → object_at (cars_of table) a ≡ car.object_at held.car.car a.slot
object_there table a held is = ap object_of (slot_there table a held is)

-- a car that is seen is in the table
pub held_there : (table : Snapped Held) (number : ℕ) → IsSome (get (cars_of table) number) → IsSome (get table.current number)
held_there table number some = by_case (get table.current number) (subst IsSome (get-mapped nat_cmp car_of table.current number) some)
  where
    by_case : (o : Option Held) → IsSome (option_map car_of o) → IsSome o
    by_case None some = absurd cc
    by_case (Some held) some = refl

-- a slot whose object moved away has none
pub none_moved : (o : Option Slot) (to : Addr) → looks.Moved to ≡ look_of o → None ≡ object_of o
none_moved None to is = absurd cc
none_moved (Some (Live object)) to is = absurd cc
none_moved (Some (Moved b)) to is = refl

-- a slot that is Gone has none
pub none_gone : (o : Option Slot) → looks.Gone ≡ look_of o → None ≡ object_of o
none_gone None is = refl
none_gone (Some (Live object)) is = absurd cc
none_gone (Some (Moved b)) is = absurd cc

-- what holds of the value of an option has one
pub some_and : {X : Type 0} (o : Option X) (P : X → Type 0) → IsSomeAnd o P → IsSome o
some_and None P holds = absurd holds
some_and (Some x) P holds = refl

-- an object lies in a car that is there
pub has_car : (table : Snapped Held) (a : Addr) → IsSome (object_at (cars_of table) a) → (found : Option Held) → found ≡ get table.current a.car → IsSome found
has_car table a there None is = let gone = subst (λ (o : Option Slot). IsSome (object_of o)) (no_slot table a is) there in absurd cc
has_car table a there (Some held) is = refl

-- an address is followed through what its slot looks like
pub followed_moved : (o : Option Slot) (a to : Addr) → looks.Moved to ≡ look_of o → to ≡ followed o a
followed_moved None a to is = absurd cc
followed_moved (Some (Live object)) a to is = absurd cc
followed_moved (Some (Moved b)) a to is = cc

pub followed_live : (o : Option Slot) (a : Addr) → looks.Live ≡ look_of o → a ≡ followed o a
followed_live None a is = refl
followed_live (Some (Live object)) a is = refl
followed_live (Some (Moved b)) a is = absurd cc

pub followed_gone : (o : Option Slot) (a : Addr) → looks.Gone ≡ look_of o → a ≡ followed o a
followed_gone None a is = refl
followed_gone (Some (Live object)) a is = refl
followed_gone (Some (Moved b)) a is = absurd cc

-- a list has a member at each place below its length
pub in_list : {A : Type 0} (xs : List A) (index : ℕ) → IsSome (slice_get xs index) → index < length xs
in_list [] index there = absurd cc
in_list (x ∷ xs) zero there = omega arith
in_list (x ∷ xs) (suc index) there = let rest = in_list xs index there in omega (arith, rest)

has_field : (o : Option Object) (index : ℕ) → IsSome (option_and_then (λ (o : Object). slice_get o.fields index) o) → IsSomeAnd o (λ object. index < length object.fields)
has_field None index there = absurd cc
has_field (Some object) index there = in_list object.fields index there

-- an object of a car has the field that is there
pub field_there : (table : Snapped Held) (a : Addr) (index : ℕ) (held : Held) → Some held ≡ get table.current a.car → HasFieldAt (cars_of table) a index → HasField held.car.car a.slot index
field_there table a index held is there =
    has_field (car.object_at held.car.car a.slot) index (subst (λ (o : Option Object). IsSome (option_and_then (λ (o : Object). slice_get o.fields index) o)) (object_there table a held is) there)

-- a field is there only in a car that is
pub no_field : (table : Snapped Held) (a : Addr) (index : ℕ) → None ≡ get table.current a.car → HasFieldAt (cars_of table) a index → ⊥
no_field table a index is there =
    let none : IsSome (option_and_then (λ (o : Object). slice_get o.fields index) None) = subst (λ (o : Option Slot). IsSome (option_and_then (λ (o : Object). slice_get o.fields index) (object_of o))) (no_slot table a is) there in cc

-- the field that was read
pub field_read : (o : Option Object) (index : ℕ) (read : Option Addr) → IsSomeAnd o (λ object. slice_get object.fields index ≡ Some read) → read ≡ field_of o index
field_read None index read there = absurd there
field_read (Some object) index read there = grind (arith, common_steps, there)

-- a field that is there lies in a car that is
pub car_there : (table : Snapped Held) (a : Addr) (index : ℕ) → HasFieldAt (cars_of table) a index → (found : Option Held) → found ≡ get table.current a.car → IsSome found
car_there table a index there None is = absurd (no_field table a index is there)
car_there table a index there (Some held) is = refl

edited : (table : Snapped Held) (a : Addr) (held w : Held) (change : Object → Object) → Some held ≡ get table.current a.car
    → (o : Option Object) → IsSomeAnd o (λ object. w.car ≡ car.told held.car a.slot (Live (change object))) → insert (cars_of table) a.car (car_of w) ≡ put_object (cars_of table) a o change
edited table a held w change is None done = absurd done
edited table a held w change is (Some object) done =
    ap (λ (c : car.CarAndSpare). insert (cars_of table) a.car c.car) done
    ∙ sym (ap (λ o. put_car (cars_of table) a.car o (λ c. car.with_slot c a.slot (Live (change object)))) (get_car table a.car (Some held) is))

-- an object of a car that was written
pub object_written : (table : Snapped Held) (a : Addr) (held w : Held) (change : Object → Object) → Some held ≡ get table.current a.car → car.IsEdited held.car w.car a.slot change
    → mapped car_of (insert table.current a.car w) ≡ with_object (cars_of table) a change
object_written table a held w change is done =
    mapped-insert nat_cmp car_of nat_cmp_total nat_cmp-IsAntisymmetric table.current a.car w
    ∙ edited table a held w change is (car.object_at held.car.car a.slot) done
    ∙ sym (ap (λ o. put_object (cars_of table) a o change) (object_there table a held is))
