-- An object that was carried to another car is one that moved.
use Rattle.std.proofs.Common.{◌≡◌, ℕ, zero, suc, ◌+◌, ◌≤◌, ◌==◌, arith, Bool, true, false, cond, if◌then◌else◌, refl, ap, sym, subst, ◌∙◌, List, [], ◌∷◌, ◌++◌, get_or, map, Option, Some, None, IsSome}
use Rattle.std.specs.Option.{option_map, option_and_then}
use Rattle.std.specs.Cmp.{nat_cmp_total}
use Rattle.std.specs.FinMap.{get, insert, same_map, nat_cmp-IsAntisymmetric}
use Rattle.std.proofs.lemmas.Bool.{cond-true, cond-false, eq-eqb, eqb-true}
use Rattle.pm_types.specs.declared.address.Addr.{Addr}
use Rattle.pm_types.specs.declared.object.Object.{Object}
use Rattle.pm_types.specs.declared.object.Slot.{Slot}
use Rattle.pm_types.specs.declared.object.Slot.TheVariants.{Live, Moved}
use Rattle.pm_types.specs.declared.source.Change.{Change}
use Rattle.pm_cars.specs.Cars.{Car, new_car, object_room, object_of, with_birth, with_slot}
use Rattle.pm_trains.specs.Trains.{cars_at, tail}
use Rattle.pm_view.specs.declared.phase.Phase.TheVariants.{Moving}
use Rattle.pm_view.specs.Sources.{same_address}
use Rattle.pm_view.specs.View.{Cars, SpaceView}
use Rattle.pm_view.specs.Reading.{slot_at, object_at, followed, resolve, is_aside}
use Rattle.pm_view.specs.Law.{HeapLaw}
use Rattle.pm_view.specs.Barrier.{told}
use Rattle.pm_view.specs.Rows.{put_car, put_object, with_slot_at, with_object, with_car, has_room, if_fits, tail_for, place_in, next_of, IsVacant}
use Rattle.pm_view.specs.Collecting.{field_news, settled, put_away, moved_some, moved}
use Rattle.pm_law_commands.proofs.RowLemmas.SameSource.{same_address-true}
use Rattle.pm_law_commands.proofs.RowLemmas.News.{at_insert}
use Rattle.pm_law_commands.proofs.RowLemmas.Places.{slot_of, live_slot}
use Rattle.pm_law_commands.proofs.RowLemmas.Born.{room_fits, small_room}
use Rattle.pm_law_collect.proofs.PhasesLemmas.Small.{some_same, none_some, turned}
use Rattle.pm_law_collect.proofs.MovesLemmas.PutAway.{IsPut, next_place, slot_put, nothing_there, new_live}
use Rattle.pm_law_collect.proofs.MovesLemmas.PutRow.{in_tail, tail_put, in_new, new_put}
use Rattle.pm_space.specs.Places.{with_object_in, with_place}
use Rattle.pm_space.proofs.Linking.{insert_twice}
use Rattle.pm_evac.specs.Relocate.Moves.{led, led_fields, move_tells, moves_told, carried}

-- ---- what cars hear

mapped_at : (f : Addr → Addr) (fs : List (Option Addr)) (i : ℕ) → get_or (map (option_map f) fs) i None ≡ option_map f (get_or fs i None)
mapped_at f [] i = refl
mapped_at f (x ∷ fs) zero = refl
mapped_at f (x ∷ fs) (suc i) = mapped_at f fs i

-- two ways to tell of each field that agree
news_same : (tell other : ℕ → Option Addr → List (ℕ × Change)) (n : ℕ) (fs : List (Option Addr)) → ((i : ℕ) → tell (n + i) (get_or fs i None) ≡ other (n + i) (get_or fs i None)) → field_news tell n fs ≡ field_news other n fs
news_same tell other n [] same = refl
news_same tell other n (f ∷ fs) same =
    let here : n + 0 ≡ n = omega arith in
    let first : tell n f ≡ other n f = subst (λ m. tell m f ≡ other m f) here (same 0) in
    let rest = news_same tell other (n + 1) fs (λ i. let next : n + suc i ≡ n + 1 + i = omega arith in subst (λ m. tell m (get_or fs i None) ≡ other m (get_or fs i None)) next (same (suc i))) in
    λ j. first j ++ rest j

-- ---- the cars

-- a car that stands has a slot that holds something else
slot_put_there : (cars : Cars) (a : Addr) (content : Slot) (car : Car) → get cars a.car ≡ Some car → with_slot_at cars a content ≡ insert cars a.car (with_slot car a.slot content)
slot_put_there cars a content car is = ap (λ o. put_car cars a.car o (λ car. with_slot car a.slot content)) is

-- a slot in which an object was just born
born_again : (car : Car) (object other : Object) → with_slot (with_birth car object) car.next (Live other) ≡ with_birth car other
born_again car object other = λ i. record (with_birth car object) { slots = insert_twice car.slots car.next (Live object) (Live other) i }

either : {X : Type 0} (b d : Bool) (x y z s : X) (o : Option X) → cond b (Some x) (cond d (Some s) (cond b (Some y) o)) ≡ cond b (Some x) (cond d (Some s) (cond b (Some z) o))
either true d x y z s o = refl
either false d x y z s o = refl

module _ (view put : SpaceView) (from : Addr) (c : ℕ) (old car : Car) (object : Object) (law : HeapLaw view) (is : IsPut view put from c old car object) (w : SpaceView)
    (cars : (n : ℕ) → get w.cars n ≡ cond (c == n) (Some car) (get view.cars n)) (rest : record w { cars = put.cars } ≡ put) where
  abbrev to : Addr
  to = next_place c car

  abbrev go : Addr → Addr
  go = led view.cars from to

  abbrev other : Object
  other = record object { fields = map (option_map go) object.fields }

  -- where addresses lead
  leads : (a : Addr) → go a ≡ resolve put a
  leads a =
      by_from (same_address from a) (same_address to a) refl
      ∙ sym (ap (λ o. followed o a) (slot_put view put from c old car object law is a))
    where
      by_from : (b d : Bool) → same_address to a ≡ d → (if b then to else followed (slot_at view.cars a) a) ≡ followed (cond b (Some (Moved to)) (cond d (Some (Live object)) (slot_at view.cars a))) a
      by_from true d same = refl
      by_from false true same = ap (λ o. followed o a) (nothing_at a same)
        where
          nothing_at : (a : Addr) → same_address to a ≡ true → slot_at view.cars a ≡ None
          nothing_at a same = subst (λ a. slot_at view.cars a ≡ None) (same_address-true to a same) (nothing_there view put from c old car object law is)
      by_from false false same = refl

  go_is : go ≡ resolve put
  go_is = λ i a. leads a i

  c_apart : (c == from.car) ≡ false
  c_apart = turned c from.car ∙ is.apart

  old_there : get w.cars from.car ≡ Some old
  old_there = cars from.car ∙ cond-false _ _ _ c_apart ∙ is.stood

  abbrev left_cars : Cars
  left_cars = with_slot_at w.cars from (Moved to)

  left_is : (n : ℕ) → get left_cars n ≡ cond (from.car == n) (Some (with_slot old from.slot (Moved to))) (get w.cars n)
  left_is n = ap (λ m. get m n) (slot_put_there w.cars from (Moved to) old old_there) ∙ at_insert w.cars from.car (with_slot old from.slot (Moved to)) n

  car_there : get left_cars c ≡ Some car
  car_there = left_is c ∙ cond-false _ _ _ is.apart ∙ cars c ∙ cond-true _ _ _ (eq-eqb c c refl)

  carried_cars : (n : ℕ) → get (with_object_in left_cars c other) n ≡ cond (c == n) (Some (with_birth car other)) (cond (from.car == n) (Some (with_slot old from.slot (Moved to))) (cond (c == n) (Some car) (get view.cars n)))
  carried_cars n =
      ap (λ o. get (put_car left_cars c o (λ it. with_birth it other)) n) car_there
      ∙ at_insert left_cars c (with_birth car other) n
      ∙ ap (cond (c == n) (Some (with_birth car other))) (left_is n ∙ ap (cond (from.car == n) (Some (with_slot old from.slot (Moved to)))) (cars n))

  born_there : get put.cars c ≡ Some (with_birth car object)
  born_there = is.cars c ∙ cond-false _ _ _ is.apart ∙ cond-true _ _ _ (eq-eqb c c refl)

  abbrev change : Object → Object
  change it = record it { fields = map (option_map go) object.fields }

  put_cars : (n : ℕ) → get (with_object put.cars to change) n ≡ cond (c == n) (Some (with_birth car other)) (cond (from.car == n) (Some (with_slot old from.slot (Moved to))) (cond (c == n) (Some (with_birth car object)) (get view.cars n)))
  put_cars n =
      ap (λ o. get (put_object put.cars to o change) n) (ap object_of (new_live view put from c old car object law is))
      ∙ ap (λ m. get m n) (slot_put_there put.cars to (Live other) (with_birth car object) born_there)
      ∙ at_insert put.cars c (with_slot (with_birth car object) car.next (Live other)) n
      ∙ (λ i. cond (c == n) (Some (born_again car object other i)) (is.cars n i))

  same_cars : with_object_in left_cars c other ≡ with_object put.cars to change
  same_cars =
      same_map nat_cmp_total nat_cmp-IsAntisymmetric _ _ (λ n.
      carried_cars n
      ∙ either (c == n) (from.car == n) (with_birth car other) car (with_birth car object) (with_slot old from.slot (Moved to)) (get view.cars n)
      ∙ sym (put_cars n))

  -- what cars hear
  same_news : moves_told (is_aside w) from to object.fields (led_fields view.cars from to object.fields) ≡ field_news (λ index field. move_tells (is_aside w) from to index field (option_map go field)) 0 object.fields
  same_news =
      news_same (λ index field. move_tells (is_aside w) from to index field (get_or (led_fields view.cars from to object.fields) index None)) (λ index field. move_tells (is_aside w) from to index field (option_map go field)) 0 object.fields
      (λ i. let place : i ≡ 0 + i = omega arith in ap (λ k. move_tells (is_aside w) from to (0 + i) (get_or object.fields i None) (get_or (led_fields view.cars from to object.fields) k None)) (sym place) ∙ ap (move_tells (is_aside w) from to (0 + i) (get_or object.fields i None)) (mapped_at go object.fields i))

  pub is_settled : carried w from to object (led_fields view.cars from to object.fields) ≡ settled put from to object
  is_settled =
      (λ i. record w { cars = same_cars i; queues = told w.queues (same_news i) })
      ∙ (λ i. record w {
        cars = with_object put.cars to (λ it. record it { fields = map (option_map (go_is i)) object.fields });
        queues = told w.queues (field_news (λ index field. move_tells (is_aside w) from to index field (option_map (go_is i) field)) 0 object.fields);
      })
      ∙ ap (λ p. settled p from to object) rest

-- ---- both places

module _ (view : SpaceView) (from : Addr) (y number : ℕ) (object : Object) (law : HeapLaw view) (moving : view.phase ≡ Moving from.car) (here : object_at view.cars from ≡ Some object)
    (stands : IsSome (cars_at view.trains.trains y)) (apart : (c : ℕ) → tail view.trains.trains y ≡ Some c → (from.car == c) ≡ false) (vacant : IsVacant view.cars number) where
  small : object_room object ≤ 16370
  small = let was = law.built.objects from object here in small_room object was.fields was.bytes

  abbrev done : Option ℕ → SpaceView
  done d = carried (with_place view y d number) from (place_in view.cars d number) object (led_fields view.cars from (place_in view.cars d number) object.fields)

  abbrev goal : Option ℕ → SpaceView
  goal d = settled (put_away view from d y number object) from (place_in view.cars d number) object

  module _ (old : Car) (is_old : get view.cars from.car ≡ Some old) (live : get old.slots from.slot ≡ Some (Live object)) where
    into_new : done None ≡ goal None
    into_new =
        is_settled view (in_new view from old object law moving is_old live number y view.anchor vacant.vacant vacant.from_one small stands) from number old (new_car number) object law
        (new_put view from old object law moving is_old live number y view.anchor vacant.vacant vacant.from_one small stands) (with_car view y number)
        (λ n. at_insert view.cars number (new_car number) n) refl

    standing_car : (c : ℕ) (car : Car) → get view.cars c ≡ Some car → (n : ℕ) → get view.cars n ≡ cond (c == n) (Some car) (get view.cars n)
    standing_car c car found n = by_test (c == n) refl
      where
        by_test : (b : Bool) → (c == n) ≡ b → get view.cars n ≡ cond b (Some car) (get view.cars n)
        by_test true same = ap (get view.cars) (sym (eqb-true c n same)) ∙ found
        by_test false same = refl

    into_tail : (c : ℕ) (car : Car) → get view.cars c ≡ Some car → tail view.trains.trains y ≡ Some c → has_room car (object_room object) ≡ true → done (Some c) ≡ goal (Some c)
    into_tail c car found last room =
        subst (λ p. carried view from p object (led_fields view.cars from p object.fields) ≡ settled (put_away view from (Some c) y number object) from p object) (λ i. record { car = c; slot = next_of (sym found i) })
        (is_settled view (in_tail view from old object law moving is_old live c y number car view.anchor found (room_fits car (object_room object) room) (apart c last)) from c old car object law
        (tail_put view from old object law moving is_old live c y number car view.anchor found (room_fits car (object_room object) room) (apart c last)) view (standing_car c car found) refl)

    by_car : (e c : ℕ) → tail view.trains.trains y ≡ Some e → (o : Option Car) → get view.cars e ≡ o → option_and_then (λ (car : Car). if has_room car (object_room object) then Some e else None) o ≡ Some c → done (Some c) ≡ goal (Some c)
    by_car e c last None found goes = absurd (none_some c goes)
    by_car e c last (Some car) found goes = by_test (has_room car (object_room object)) refl goes
      where
        by_test : (b : Bool) → has_room car (object_room object) ≡ b → (if b then Some e else None) ≡ Some c → done (Some c) ≡ goal (Some c)
        by_test true room goes = let same = some_same e c goes in into_tail c car (ap (get view.cars) (sym same) ∙ found) (last ∙ ap Some same) room
        by_test false room goes = absurd (none_some c goes)

    by_tail : (c : ℕ) (o : Option ℕ) → tail view.trains.trains y ≡ o → option_and_then (if_fits view (object_room object)) o ≡ Some c → done (Some c) ≡ goal (Some c)
    by_tail c None last goes = absurd (none_some c goes)
    by_tail c (Some e) last goes = by_car e c last (get view.cars e) refl goes

    by_place : (d : Option ℕ) → tail_for view y (object_room object) ≡ d → done d ≡ goal d
    by_place None goes = into_new
    by_place (Some c) goes = by_tail c (tail view.trains.trains y) refl goes

  by_old : (o : Option Car) → get view.cars from.car ≡ o → slot_of o from.slot ≡ Some (Live object) → done (tail_for view y (object_room object)) ≡ goal (tail_for view y (object_room object))
  by_old None is_old live = absurd (none_some (Live object) live)
  by_old (Some old) is_old live = by_place old is_old live (tail_for view y (object_room object)) refl

  -- what was carried to the train has moved there
  pub is_moved : done (tail_for view y (object_room object)) ≡ moved view from y number
  is_moved = by_old (get view.cars from.car) refl (live_slot (slot_at view.cars from) object here) ∙ sym (ap (moved_some view from y number) here)
