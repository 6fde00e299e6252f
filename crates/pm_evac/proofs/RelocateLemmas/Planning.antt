-- What was planned for an object that moves, once the car to which it goes was prepared.
use Rattle.std.proofs.Common.{◌≡◌, ℕ, ◌+◌, ◌≤◌, ◌==◌, arith, Bool, true, false, if◌then◌else◌, refl, ap, sym, subst, ◌∙◌, length, Option, Some, None, IsSome, is_some}
use Rattle.std.specs.Option.{option_map, option_and_then, unwrap_or}
use Rattle.std.specs.FinMap.{get}
use Rattle.std.proofs.lemmas.Bool.{cond-false, eqb-true, true≢false, false_from_ne_true}
use Rattle.std.proofs.lemmas.List.{length-map}
use Rattle.pm_types.specs.declared.address.Addr.{Addr}
use Rattle.pm_types.specs.declared.object.Object.{Object}
use Rattle.pm_cars.specs.Cars.{Car, new_car, object_room, object_of}
use Rattle.pm_trains.specs.Trains.{cars_at, tail}
use Rattle.pm_view.specs.declared.phase.Phase.TheVariants.{Moving}
use Rattle.pm_view.specs.View.{SpaceView}
use Rattle.pm_view.specs.Reading.{object_at}
use Rattle.pm_view.specs.Law.{HeapLaw}
use Rattle.pm_view.specs.Rows.{has_room, if_fits, tail_for, place_in}
use Rattle.pm_view.specs.Collecting.{moved}
use Rattle.pm_law_commands.proofs.RowLemmas.News.{at_insert}
use Rattle.pm_law_commands.proofs.RowLemmas.Places.{slot_of}
use Rattle.pm_law_commands.proofs.RowLemmas.Born.{small_room}
use Rattle.pm_law_collect.proofs.PhasesLemmas.Small.{none_some}
use Rattle.pm_space.specs.Linked.{Linked, HasRoom}
use Rattle.pm_space.specs.Places.{FitsIn, with_place, place_of, IsOpened}
use Rattle.pm_evac.specs.declared.relocate.moving.Plan.{Plan}
use Rattle.pm_evac.specs.Relocate.Changed.{identity}
use Rattle.pm_evac.specs.Relocate.Named.{named_by}
use Rattle.pm_evac.specs.Relocate.Moves.{led, led_fields, carried, MayCarry}
use Rattle.pm_evac.specs.Relocate.Planned.{IsPlan}
use Rattle.pm_evac.proofs.RelocateLemmas.Places.{one_vacant, fits_placed}
use Rattle.pm_evac.proofs.RelocateLemmas.Carried.{is_moved}

-- the tail in which an object fits is the train's
tail_is : (v : SpaceView) (train room c : ℕ) → tail_for v train room ≡ Some c → tail v.trains.trains train ≡ Some c
tail_is v train room c fits = by_tail (tail v.trains.trains train) fits
  where
    by_test : (e : ℕ) (b : Bool) → (if b then Some e else None) ≡ Some c → Some e ≡ Some c
    by_test e true is = is
    by_test e false is = absurd (none_some c is)

    by_car : (e : ℕ) (o : Option Car) → option_and_then (λ (car : Car). if has_room car room then Some e else None) o ≡ Some c → Some e ≡ Some c
    by_car e None is = absurd (none_some c is)
    by_car e (Some car) is = by_test e (has_room car room) is

    by_tail : (o : Option ℕ) → option_and_then (if_fits v room) o ≡ Some c → o ≡ Some c
    by_tail None is = absurd (none_some c is)
    by_tail (Some e) is = by_car e (get v.cars e) is

-- the car in which an object lies stands
object_car : (v : SpaceView) (a : Addr) (object : Object) → object_at v.cars a ≡ Some object → IsSome (get v.cars a.car)
object_car v a object here = by_car (get v.cars a.car) here
  where
    by_car : (o : Option Car) → object_of (slot_of o a.slot) ≡ Some object → IsSome o
    by_car None here = absurd (none_some object here)
    by_car (Some car) here = refl

-- so it has another number than a new car
object_apart : (v : SpaceView) (a : Addr) (object : Object) (number : ℕ) → object_at v.cars a ≡ Some object → get v.cars number ≡ None → (a.car == number) ≡ false
object_apart v a object number here vacant =
    false_from_ne_true (a.car == number) (λ same. true≢false (sym (object_car v a object here) ∙ ap (λ n. is_some (get v.cars n)) (eqb-true a.car number same) ∙ ap is_some vacant))

object_apart_back : (v : SpaceView) (a : Addr) (object : Object) (number : ℕ) → object_at v.cars a ≡ Some object → get v.cars number ≡ None → (number == a.car) ≡ false
object_apart_back v a object number here vacant =
    false_from_ne_true (number == a.car) (λ same. true≢false (sym (object_car v a object here) ∙ ap (λ n. is_some (get v.cars n)) (sym (eqb-true number a.car same)) ∙ ap is_some vacant))

-- an object stays where it is where a place was prepared
object_stays : (v : SpaceView) (train : ℕ) (d : Option ℕ) (number : ℕ) (a : Addr) (object : Object) → object_at v.cars a ≡ Some object → get v.cars number ≡ None → object_at (with_place v train d number).cars a ≡ Some object
object_stays v train None number a object here vacant =
    ap (λ o. object_of (slot_of o a.slot)) (at_insert v.cars number (new_car number) a.car ∙ cond-false _ _ _ (object_apart_back v a object number here vacant)) ∙ here
object_stays v train (Some car) number a object here vacant = here

place_car : (v : SpaceView) (d : Option ℕ) (number : ℕ) → (place_in v.cars d number).car ≡ place_of d number
place_car v None number = refl
place_car v (Some car) number = refl

module _ (v w : SpaceView) (from : Addr) (train : ℕ) (plan : Plan) (law : HeapLaw v) (moving : v.phase ≡ Moving from.car) (stands : IsSome (cars_at v.trains.trains train))
    (apart : (car : ℕ) → tail v.trains.trains train ≡ Some car → (from.car == car) ≡ false) (is : IsPlan v from train plan) (car : ℕ) (opened : IsOpened v train plan.tail w car) where
  same_number : is.number ≡ opened.number
  same_number = one_vacant v.cars is.number opened.number is.vacant opened.vacant

  to_is : plan.to ≡ place_in v.cars plan.tail opened.number
  to_is = is.to ∙ ap (place_in v.cars plan.tail) same_number

  pub car_is : plan.to.car ≡ car
  car_is = ap (λ (a : Addr). a.car) to_is ∙ place_car v plan.tail opened.number ∙ sym opened.place

  pub object_then : object_at w.cars from ≡ Some is.object
  object_then = ap (λ (u : SpaceView). object_at u.cars from) opened.space ∙ object_stays v train plan.tail opened.number from is.object is.here opened.vacant.vacant

  pub to_apart : (from.car == plan.to.car) ≡ false
  to_apart = ap (λ n. from.car == n) (ap (λ (a : Addr). a.car) to_is ∙ place_car v plan.tail opened.number) ∙ by_tail plan.tail is.tail
    where
      by_tail : (d : Option ℕ) → d ≡ tail_for v train (object_room is.object) → (from.car == place_of d opened.number) ≡ false
      by_tail None none = object_apart v from is.object opened.number is.here opened.vacant.vacant
      by_tail (Some c) some = apart c (tail_is v train (object_room is.object) c (sym some))

  small : object_room is.object ≤ 16370
  small = small_room is.object is.fields_few is.bytes_few

  pub may_carry : (links : Linked) → ((car : ℕ) → HasRoom links car (named_by is.object.fields car + named_by plan.fields.items car)) → MayCarry w links plan.to is.object plan.fields.items
  may_carry links room =
      let few = is.fields_few in
      record {
        few = omega (arith, few);
        same = ap length is.fields ∙ length-map is.object.fields (option_map (led v.cars from plan.to));
        fits = subst (λ n. FitsIn w.cars n (object_room is.object)) (sym (car_is ∙ opened.place))
            (subst (λ (u : SpaceView). FitsIn u.cars (place_of plan.tail opened.number) (object_room is.object)) (sym opened.space) (fits_placed v train plan.tail opened.number (object_room is.object) small is.fits));
        room = room;
      }

  pub carried_moved : carried w from plan.to is.object plan.fields.items ≡ moved v from train opened.number
  carried_moved =
      (λ i. carried (opened.space i) from plan.to is.object (is.fields i))
      ∙ (λ i. carried (with_place v train plan.tail opened.number) from (to_is i) is.object (led_fields v.cars from (to_is i) is.object.fields))
      ∙ (λ i. carried (with_place v train (is.tail i) opened.number) from (place_in v.cars (is.tail i) opened.number) is.object (led_fields v.cars from (place_in v.cars (is.tail i) opened.number) is.object.fields))
      ∙ is_moved v from train opened.number is.object law moving is.here stands apart opened.vacant

  pub same_identity : identity w from ≡ identity v from
  same_identity = ap (λ o. unwrap_or (option_map (λ (o : Object). o.id) o) 0) (object_then ∙ sym is.here)
