-- Cars where an object was changed, and kept its shape: its identity, how many fields it has, and how many bytes.
use Rattle.std.proofs.Common.{◌≡◌, ℕ, ◌+◌, ◌*◌, ◌==◌, Bool, true, false, cond, refl, ap, sym, subst, ◌∙◌, length, Option, Some, None, arith}
use Rattle.std.specs.FinMap.{get, insert}
use Rattle.std.proofs.lemmas.Bool.{eqb-true}
use Rattle.pm_types.specs.declared.limits.TheConstants.{CAR_HEAD_BYTES}
use Rattle.pm_types.specs.declared.address.Addr.{Addr}
use Rattle.pm_types.specs.declared.object.Object.{Object}
use Rattle.pm_types.specs.declared.object.Slot.{Slot}
use Rattle.pm_types.specs.declared.object.Slot.TheVariants.{Live}
use Rattle.pm_cars.specs.Cars.{Car, Slots, total, slot_room, object_room, one_live, one_moved, used, live_count, moved_count, with_slot}
use Rattle.pm_cars.proofs.Rooms.{total_insert, counted}
use Rattle.pm_view.specs.View.{Cars}
use Rattle.pm_view.specs.Reading.{slot_at, object_at}
use Rattle.pm_view.specs.Rows.{put_car, put_object, with_object}
use Rattle.pm_law_commands.proofs.RowLemmas.News.{at_insert}
use Rattle.pm_law_commands.proofs.RowLemmas.Places.{slot_of, live_slot}

-- an object has the shape of another
pub record IsShaped (o p : Object) : Type 0 where
  pub id : p.id ≡ o.id
  pub fields : length p.fields ≡ length o.fields
  pub bytes : length p.bytes ≡ length o.bytes

-- a car has the shape of another: the same numbers, and an object at the same slots
pub record IsShapedCar (c d : Car) : Type 0 where
  pub number : d.number ≡ c.number
  pub next : d.next ≡ c.next
  pub room : used d ≡ used c
  pub live : live_count d ≡ live_count c
  pub moved : moved_count d ≡ moved_count c
  pub gone : (slot : ℕ) → get c.slots slot ≡ None → get d.slots slot ≡ None

pub shaped_itself : (c : Car) → IsShapedCar c c
shaped_itself c = record { number = refl; next = refl; room = refl; live = refl; moved = refl; gone = λ slot none. none }

-- what is summed stays where a slot gets what counts for as much
total_same : (f : Slot → ℕ) (slots : Slots) (k : ℕ) (old new : Slot) → get slots k ≡ Some old → f new ≡ f old → total f (insert slots k new) ≡ total f slots
total_same f slots k old new is same =
    let law : total f (insert slots k new) + f old ≡ total f slots + f new = subst (λ o. total f (insert slots k new) + counted f o ≡ total f slots + f new) is (total_insert f slots k new) in
    omega arith

room_same : (o p : Object) → IsShaped o p → object_room p ≡ object_room o
room_same o p shaped = λ i. 17 + 12 * shaped.fields i + shaped.bytes i

gone_still : (slots : Slots) (k : ℕ) (old new : Slot) → get slots k ≡ Some old → (slot : ℕ) → get slots slot ≡ None → (b : Bool) → (k == slot) ≡ b → cond b (Some new) (get slots slot) ≡ None
gone_still slots k old new is slot none true same = absurd (let clash : Some old ≡ None = sym is ∙ ap (get slots) (eqb-true k slot same) ∙ none in cc)
gone_still slots k old new is slot none false same = none

-- a car where the object of a slot was changed
shaped_slot : (car : Car) (k : ℕ) (o p : Object) → get car.slots k ≡ Some (Live o) → IsShaped o p → IsShapedCar car (with_slot car k (Live p))
shaped_slot car k o p is shaped = record {
  number = refl;
  next = refl;
  room = ap (λ n. CAR_HEAD_BYTES + n) (total_same slot_room car.slots k (Live o) (Live p) is (room_same o p shaped));
  live = total_same one_live car.slots k (Live o) (Live p) is refl;
  moved = total_same one_moved car.slots k (Live o) (Live p) is refl;
  gone = λ slot none. at_insert car.slots k (Live p) slot ∙ gone_still car.slots k (Live o) (Live p) is slot none (k == slot) refl;
}

-- cars have the shape of others: at each number both have a car of one shape, or none
abbrev pub IsShapedAt : Option Car → Option Car → Type 0
IsShapedAt None None = Unit {0}
IsShapedAt None (Some d) = ⊥
IsShapedAt (Some c) None = ⊥
IsShapedAt (Some c) (Some d) = IsShapedCar c d

abbrev pub AreShaped : Cars → Cars → Type 0
AreShaped cars others = (n : ℕ) → IsShapedAt (get cars n) (get others n)

pub shaped_at_itself : (o : Option Car) → IsShapedAt o o
shaped_at_itself None = tt
shaped_at_itself (Some c) = shaped_itself c

shaped_either : (b : Bool) (c d : Car) (o : Option Car) → (b ≡ true → o ≡ Some c) → IsShapedCar c d → IsShapedAt o (cond b (Some d) o)
shaped_either true c d o is shaped = subst (λ o. IsShapedAt o (Some d)) (sym (is refl)) shaped
shaped_either false c d o is shaped = shaped_at_itself o

shaped_car_put : (cars : Cars) (a : Addr) (o : Option Car) (old new : Object) → get cars a.car ≡ o → slot_at cars a ≡ Some (Live old) → IsShaped old new
    → AreShaped cars (put_car cars a.car o (λ car. with_slot car a.slot (Live new)))
shaped_car_put cars a None old new is live shaped n = shaped_at_itself (get cars n)
shaped_car_put cars a (Some car) old new is live shaped n =
    let held : get car.slots a.slot ≡ Some (Live old) = sym (ap (λ o. slot_of o a.slot) is) ∙ live in
    subst (IsShapedAt (get cars n)) (sym (at_insert cars a.car (with_slot car a.slot (Live new)) n))
    (shaped_either (a.car == n) car (with_slot car a.slot (Live new)) (get cars n) (λ here. ap (get cars) (sym (eqb-true a.car n here)) ∙ is) (shaped_slot car a.slot old new held shaped))

shaped_put : (cars : Cars) (a : Addr) (o : Option Object) (change : Object → Object) → object_at cars a ≡ o → ((object : Object) → o ≡ Some object → IsShaped object (change object)) → AreShaped cars (put_object cars a o change)
shaped_put cars a None change is shaped n = shaped_at_itself (get cars n)
shaped_put cars a (Some object) change is shaped n = shaped_car_put cars a (get cars a.car) object (change object) refl (live_slot (slot_at cars a) object is) (shaped object refl) n

-- the cars where an object was changed and kept its shape
pub shaped_after : (cars : Cars) (a : Addr) (change : Object → Object) → ((object : Object) → object_at cars a ≡ Some object → IsShaped object (change object)) → AreShaped cars (with_object cars a change)
shaped_after cars a change shaped = shaped_put cars a (object_at cars a) change refl shaped
