-- Where an object that moves is put: in the tail of a train, or in a new car at its end.
use Rattle.std.proofs.Common.{◌≡◌, ◌≢◌, ℕ, ◌<◌, ◌≤◌, ◌==◌, ◌||◌, Bool, true, false, cond, refl, ap, sym, subst, ◌∙◌, List, [], ◌∷◌, ◌++◌, length, Option, Some, None, arith, is_some}
use Rattle.std.specs.Option.{IsSome, IsSomeAnd, option_map, option_and_then, unwrap_or}
use Rattle.std.specs.List.{slice_get, sum_by}
use Rattle.std.specs.Ordering.{nat_cmp}
use Rattle.std.specs.FinMap.{get, insert, empty, get-empty}
use Rattle.std.proofs.lemmas.Bool.{eqb-true, eq-eqb, cond-true, cond-false, true≢false, false_from_ne_true}
use Rattle.std.proofs.lemmas.Bool.Decides.{nat_tests}
use Rattle.std.proofs.lemmas.List.Sums.{sum_by-cons, sum_by_push}
use Rattle.pm_types.specs.declared.limits.TheConstants.{CAR_HEAD_BYTES, CAR_ROOM}
use Rattle.pm_types.specs.declared.address.Addr.{Addr}
use Rattle.pm_types.specs.declared.object.Object.{Object}
use Rattle.pm_types.specs.declared.object.Slot.{Slot}
use Rattle.pm_types.specs.declared.object.Slot.TheVariants.{Live, Moved}
use Rattle.pm_cars.specs.Cars.{Car, Fits, object_room, used, new_car, live_count, object_of, with_birth, with_slot}
use Rattle.pm_trains.specs.Trains.{Train, cars_at, train_of, is_among, first_car, oldest, youngest, appended}
use Rattle.pm_trains.specs.Sound as line
use Rattle.pm_trains.proofs.Cars.{home_appended}
use Rattle.pm_trains.proofs.Found.{cars_changed, last_changed}
use Rattle.pm_trains.proofs.Kept.{sound_appended}
use Rattle.pm_view.specs.declared.phase.Phase.TheVariants.{Moving}
use Rattle.pm_view.specs.View.{Cars, SpaceView}
use Rattle.pm_view.specs.Reading.{cars_of, aside_in, from_in, is_aside}
use Rattle.pm_view.specs.Effective.{effective_in}
use Rattle.pm_view.specs.Counts.{standing_in, live_in}
use Rattle.pm_view.specs.Law.{IsOldest, IsFront, IsPhaseOf, IsAnchor, HeapLaw}
use Rattle.pm_view.specs.Rows.{put_car, with_slot_at, put_in, next_of, place_in}
use Rattle.pm_view.specs.Collecting.{put_away}
use Rattle.pm_law_commands.proofs.RowLemmas.News.{at_insert}
use Rattle.pm_law_commands.proofs.RowLemmas.Places.{slot_of}
use Rattle.pm_law_commands.proofs.RowLemmas.OpenTrain.{open_not_from, among_home, stands_appended}
use Rattle.pm_law_commands.proofs.RowLemmas.Birth.{live_after}
use Rattle.pm_law_commands.proofs.RowLemmas.Born.{stood, some_empty, none_from_some, new_counts, new_sound, empty_effective}
use Rattle.pm_law_collect.proofs.PhasesLemmas.Small.{none_some, turned, or_left, or_right}
use Rattle.pm_law_collect.proofs.MovesLemmas.PutAway.{IsPut, next_place}
use Rattle.pm_law_collect.proofs.PhasesLemmas.Fronts.{IsFrontOf, first_cars, front_of}

-- ---- sums and trains

-- where each item of a list counts for at least as much, so does the sum
pub no_less_items : (f g : ℕ → ℕ) (xs : List ℕ) → ((x : ℕ) → is_among x xs ≡ true → f x ≤ g x) → sum_by f xs ≤ sum_by g xs
no_less_items f g [] le = omega arith
no_less_items f g (x ∷ xs) le =
    let one = sum_by-cons f x xs in
    let two = sum_by-cons g x xs in
    let here = le x (or_left (x == x) _ (eq-eqb x x refl)) in
    let rest = no_less_items f g xs (λ y among. le y (or_right (x == y) among)) in
    omega arith

-- the oldest train stays the oldest where a car is appended to any train
pub oldest_with : (ts : List Train) (T y c : ℕ) → line.Filled ts → oldest ts ≡ Some T → oldest (appended y c ts) ≡ Some T
oldest_with [] T y c filled old = cc
oldest_with (t ∷ ts) T y c filled old = by_case (length t.cars == 0) refl old
  where
    no_other : (ts : List Train) → (0 < length ts → 0 < length t.cars) → length t.cars ≡ 0 → ts ≡ []
    no_other [] has none = refl
    no_other (u ∷ us) has none = let some = has (omega arith) in absurd (omega (arith, some, none))

    longer : (cars : List ℕ) → (length (cars ++ c ∷ []) == 0) ≡ false
    longer [] = refl
    longer (x ∷ xs) = grind (arith, nat_tests)

    by_number : (b : Bool) → (length t.cars == 0) ≡ false → oldest (cond b (record t { cars = t.cars ++ c ∷ [] } ∷ ts) (t ∷ appended y c ts)) ≡ Some t.number
    by_number true some = ap (λ b. cond b (oldest ts) (Some t.number)) (longer t.cars)
    by_number false some = ap (λ b. cond b (oldest (appended y c ts)) (Some t.number)) some

    by_case : (b : Bool) → (length t.cars == 0) ≡ b → cond b (oldest ts) (Some t.number) ≡ Some T → oldest (appended y c (t ∷ ts)) ≡ Some T
    by_case true empty is = absurd (none_some T (sym (ap oldest (no_other ts filled.0 (eqb-true (length t.cars) 0 empty))) ∙ is))
    by_case false some is = by_number (t.number == y) some ∙ is

module _ (ts : List Train) (y c car : ℕ) (filled : line.Filled ts) (front : IsFrontOf ts car) where
  pub youngest_with : youngest (appended y c ts) ≡ youngest ts
  youngest_with = last_changed 0 y (λ cars. cars ++ c ∷ []) ts

  pub old_with : IsOldest (appended y c ts) front.train
  old_with = (oldest_with ts front.train y c filled front.old.0, ap (λ n. front.train == n) youngest_with ∙ front.old.1)

  first_with : (rest : List ℕ) → cars_at ts front.train ≡ Some (car ∷ rest) → first_car (appended y c ts) front.train ≡ Some car
  first_with rest cars = ap (option_and_then (λ (cars : List ℕ). slice_get cars 0)) (cars_changed y front.train (λ cars. cars ++ c ∷ []) ts ∙ ap (λ o. cond (front.train == y) (option_map (λ cars. cars ++ c ∷ []) o) o) cars) ∙ by_case (front.train == y)
    where
      by_case : (b : Bool) → option_and_then (λ (cars : List ℕ). slice_get cars 0) (cond b (Some ((car ∷ rest) ++ c ∷ [])) (Some (car ∷ rest))) ≡ Some car
      by_case true = refl
      by_case false = refl

  pub front_with : IsFront (appended y c ts) car
  front_with =
      let cars = first_cars (cars_at ts front.train) car front.first in
      subst (λ o. IsSomeAnd o (λ n. IsOldest (appended y c ts) n × (first_car (appended y c ts) n ≡ Some car))) (sym old_with.0) (old_with, first_with cars.0 cars.1)

-- ---- the cars

cars_put : (cars cars0 : Cars) (from : Addr) (c : ℕ) (old born : Car) (w : Slot) → ((n : ℕ) → get cars0 n ≡ cond (c == n) (Some born) (get cars n)) → (from.car == c) ≡ false → get cars from.car ≡ Some old
    → (n : ℕ) → get (with_slot_at cars0 from w) n ≡ cond (from.car == n) (Some (with_slot old from.slot w)) (cond (c == n) (Some born) (get cars n))
cars_put cars cars0 from c old born w put apart is n =
    ap (λ o. get (put_car cars0 from.car o (λ car. with_slot car from.slot w)) n) there
    ∙ at_insert cars0 from.car (with_slot old from.slot w) n
    ∙ ap (cond (from.car == n) (Some (with_slot old from.slot w))) (put n)
  where
    there : get cars0 from.car ≡ Some old
    there = put from.car ∙ cond-false _ _ _ (turned c from.car ∙ apart) ∙ is

module _ (view : SpaceView) (from : Addr) (old : Car) (object : Object) (law : HeapLaw view) (moving : view.phase ≡ Moving from.car) (is_old : get view.cars from.car ≡ Some old) (live : get old.slots from.slot ≡ Some (Live object)) where
  abbrev ts : List Train
  ts = view.trains.trains

  front_in : IsFront ts from.car
  front_in = subst (λ p. IsPhaseOf p ts view.anchor) moving law.phase

  front : IsFrontOf ts from.car
  front = front_of ts from.car front_in

  -- a car of the open train is not the from-car
  open_apart : (e : ℕ) → is_among e (cars_of ts (youngest ts)) ≡ true → (from.car == e) ≡ false
  open_apart e among =
      sym (ap (λ p. from_in p e) moving) ∙ open_not_from view.phase ts view.anchor e law.built.trains.single law.phase (among_home ts (youngest ts) e law.built.trains.single among)

  none_aside_in : (e : ℕ) (trains : List Train) → aside_in view.phase trains e ≡ false
  none_aside_in e trains = ap (λ p. aside_in p trains e) moving

  -- a car of the open train has at least as many objects as it had
  more_live : (put : SpaceView) (c : ℕ) (born : Car) → ((n : ℕ) → (from.car == n) ≡ false → get put.cars n ≡ cond (c == n) (Some born) (get view.cars n)) → put.phase ≡ view.phase → live_in (get view.cars c) ≤ live_count born
      → (e : ℕ) → is_among e (cars_of ts (youngest ts)) ≡ true → standing_in view e ≤ standing_in put e
  more_live put c born cars phase more e among =
      let view_free : is_aside view e ≡ false = none_aside_in e ts in
      let put_free : is_aside put e ≡ false = ap (λ p. aside_in p put.trains.trains e) phase ∙ none_aside_in e put.trains.trains in
      subst (λ b. cond b 0 (live_in (get view.cars e)) ≤ standing_in put e) (sym view_free)
      (subst (λ b. live_in (get view.cars e) ≤ cond b 0 (live_in (get put.cars e))) (sym put_free)
      (subst (λ o. live_in (get view.cars e) ≤ live_in o) (sym (cars e (open_apart e among))) (by_case (c == e) refl)))
    where
      by_case : (b : Bool) → (c == e) ≡ b → live_in (get view.cars e) ≤ live_in (cond b (Some born) (get view.cars e))
      by_case true same = subst (λ n. live_in (get view.cars n) ≤ live_count born) (eqb-true c e same) more
      by_case false same = omega arith

  -- ---- in the tail of a train

  module _ (c y number : ℕ) (car : Car) (anchor : Option (Addr × ℕ)) (is_car : get view.cars c ≡ Some car) (fits : Fits car (object_room object)) (apart : (from.car == c) ≡ false) where
    abbrev pub in_tail : SpaceView
    in_tail = record (put_away view from (Some c) y number object) { anchor = anchor }

    abbrev w : Slot
    w = Moved (place_in view.cars (Some c) number)

    place_is : place_in view.cars (Some c) number ≡ next_place c car
    place_is = λ i. record { car = c; slot = next_of (is_car i) }

    bare : (n : ℕ) → get (put_in view y (Some c) number object).cars n ≡ cond (c == n) (Some (with_birth car object)) (get view.cars n)
    bare n = ap (λ o. get (put_car view.cars c o (λ it. with_birth it object)) n) is_car ∙ at_insert view.cars c (with_birth car object) n

    tail_cars : (n : ℕ) → get in_tail.cars n ≡ cond (from.car == n) (Some (with_slot old from.slot (Moved (next_place c car)))) (cond (c == n) (Some (with_birth car object)) (get view.cars n))
    tail_cars n =
        cars_put view.cars (put_in view y (Some c) number object).cars from c old (with_birth car object) w bare apart is_old n
        ∙ ap (λ p. cond (from.car == n) (Some (with_slot old from.slot (Moved p))) (cond (c == n) (Some (with_birth car object)) (get view.cars n))) place_is

    tail_stand : (e : ℕ) → is_some (get in_tail.cars e) ≡ is_some (get view.cars e)
    tail_stand e = ap is_some (tail_cars e) ∙ by_from (from.car == e) refl
      where
        by_from : (b : Bool) → (from.car == e) ≡ b → is_some (cond b (Some (with_slot old from.slot (Moved (next_place c car)))) (cond (c == e) (Some (with_birth car object)) (get view.cars e))) ≡ is_some (get view.cars e)
        by_from true same = sym (ap (λ e. is_some (get view.cars e)) (sym (eqb-true from.car e same)) ∙ ap is_some is_old)
        by_from false same = stood view.cars c e car (with_birth car object) (c == e) refl is_car

    tail_births : view.trains.births ≤ sum_by (standing_in in_tail) (cars_of ts (youngest ts))
    tail_births =
        let was = law.built.cars c car is_car in
        let more = live_after car object was.sound in
        let le = no_less_items (standing_in view) (standing_in in_tail) (cars_of ts (youngest ts))
        (more_live in_tail c (with_birth car object) (λ n not_from. tail_cars n ∙ cond-false _ _ _ not_from) refl (subst (λ o. live_in o ≤ live_count (with_birth car object)) (sym is_car) (omega arith))) in
        let births = law.built.births in
        omega arith

    pub tail_put : IsPut view in_tail from c old car object
    tail_put =
        let was = law.built.cars c car is_car in
        record {
          moving = moving;
          cars = tail_cars;
          stood = is_old;
          live = live;
          held = λ slot. ap (λ o. slot_of o slot) is_car;
          numbered = was.numbered;
          from_one = was.from_one;
          sound = was.sound;
          unmoved = was.moved (ap (λ p. from_in p c) moving ∙ apart);
          fits = fits;
          apart = apart;
          linked = λ e. law.built.linked e ∙ sym (tail_stand e);
          sets = λ e. law.built.sets e ∙ sym (tail_stand e);
          queues = λ e. law.built.queues e ∙ sym (tail_stand e);
          effective = λ e x. refl;
          trains = law.built.trains;
          births = tail_births;
          phase = refl;
          at = front_in;
          roots = refl;
          registers = refl;
          next = refl;
          own_set = refl;
          own_queue = refl;
          homes = λ e some. refl;
          old_train = λ a to was. was.old;
          goal = λ a to was. was.stands;
          leaves = λ a to was. was.leaves;
        }

  -- ---- in a new car at the end of a train

  module _ (c y : ℕ) (anchor : Option (Addr × ℕ)) (vacant : get view.cars c ≡ None) (from_one : 0 < c) (small : object_room object ≤ CAR_ROOM) (stands : IsSome (cars_at ts y)) where
    abbrev pub in_new : SpaceView
    in_new = record (put_away view from None y c object) { anchor = anchor }

    abbrev born : Car
    born = with_birth (new_car c) object

    new_apart : (from.car == c) ≡ false
    new_apart = false_from_ne_true (from.car == c) (λ same. none_some old (sym vacant ∙ ap (get view.cars) (sym (eqb-true from.car c same)) ∙ is_old))

    homeless : train_of ts c ≡ None
    homeless = none_from_some (train_of ts c) (law.built.linked c ∙ ap is_some vacant)

    new_cars : (n : ℕ) → get in_new.cars n ≡ cond (from.car == n) (Some (with_slot old from.slot (Moved (next_place c (new_car c))))) (cond (c == n) (Some born) (get view.cars n))
    new_cars n = cars_put view.cars (insert view.cars c born) from c old born (Moved (next_place c (new_car c))) (at_insert view.cars c born) new_apart is_old n

    new_stand : (e : ℕ) → is_some (get in_new.cars e) ≡ ((c == e) || is_some (get view.cars e))
    new_stand e = ap is_some (new_cars e) ∙ by_from (from.car == e) refl
      where
        or_true : (b : Bool) {d : Bool} → d ≡ true → true ≡ (b || d)
        or_true true is = refl
        or_true false is = sym is

        by_from : (b : Bool) → (from.car == e) ≡ b → is_some (cond b (Some (with_slot old from.slot (Moved (next_place c (new_car c))))) (cond (c == e) (Some born) (get view.cars e))) ≡ ((c == e) || is_some (get view.cars e))
        by_from true same = or_true (c == e) (ap (λ e. is_some (get view.cars e)) (sym (eqb-true from.car e same)) ∙ ap is_some is_old)
        by_from false same = some_empty (c == e) born (get view.cars e)

    new_home : (e : ℕ) → train_of in_new.trains.trains e ≡ cond (e == c) (Some y) (train_of ts e)
    new_home e = home_appended y c ts stands homeless e

    new_linked : (e : ℕ) → is_some (train_of in_new.trains.trains e) ≡ is_some (get in_new.cars e)
    new_linked e = ap is_some (new_home e) ∙ some_empty (e == c) y (train_of ts e) ∙ (λ i. turned e c i || law.built.linked e i) ∙ sym (new_stand e)

    open_cars : (o : Option (List ℕ)) → cars_at ts (youngest ts) ≡ o → (b : Bool) → (youngest ts == y) ≡ b → sum_by (standing_in in_new) (cars_of ts (youngest ts)) ≤ sum_by (standing_in in_new) (cars_of in_new.trains.trains (youngest in_new.trains.trains))
    open_cars o is b same =
        subst (λ n. sum_by (standing_in in_new) (cars_of ts (youngest ts)) ≤ sum_by (standing_in in_new) (cars_of in_new.trains.trains n)) (sym (last_changed 0 y (λ cars. cars ++ c ∷ []) ts))
        (subst (λ xs. sum_by (standing_in in_new) (cars_of ts (youngest ts)) ≤ sum_by (standing_in in_new) (unwrap_or xs [])) (sym (cars_changed y (youngest ts) (λ cars. cars ++ c ∷ []) ts ∙ (λ i. cond (same i) (option_map (λ cars. cars ++ c ∷ []) (cars_at ts (youngest ts))) (cars_at ts (youngest ts)))))
        (by_case b (cars_at ts (youngest ts))))
      where
        by_case : (b : Bool) (o : Option (List ℕ)) → sum_by (standing_in in_new) (unwrap_or o []) ≤ sum_by (standing_in in_new) (unwrap_or (cond b (option_map (λ cars. cars ++ c ∷ []) o) o) [])
        by_case true None = omega arith
        by_case true (Some cars) = let pushed = sum_by_push (standing_in in_new) cars c in omega arith
        by_case false o = omega arith

    new_births : view.trains.births ≤ sum_by (standing_in in_new) (cars_of in_new.trains.trains (youngest in_new.trains.trains))
    new_births =
        let le = no_less_items (standing_in view) (standing_in in_new) (cars_of ts (youngest ts))
        (more_live in_new c born (λ n not_from. new_cars n ∙ cond-false _ _ _ not_from) refl (subst (λ o. live_in o ≤ live_count born) (sym vacant) (omega arith))) in
        let births = law.built.births in
        let more = open_cars (cars_at ts (youngest ts)) refl (youngest ts == y) refl in
        omega arith

    oldest_same : oldest in_new.trains.trains ≡ oldest ts
    oldest_same = oldest_with ts front.train y c law.built.trains.filled front.old.0 ∙ sym front.old.0

    anchor_apart : (a : Addr) (to : ℕ) → IsAnchor view a to → (a.car == c) ≡ false
    anchor_apart a to was = false_from_ne_true (a.car == c) (λ same. true≢false (sym (there (get view.cars a.car) was.live) ∙ ap (λ e. is_some (get view.cars e)) (eqb-true a.car c same) ∙ ap is_some vacant))
      where
        there : (o : Option Car) → is_some (object_of (slot_of o a.slot)) ≡ true → is_some o ≡ true
        there None live = live
        there (Some car) live = refl

    pub new_put : IsPut view in_new from c old (new_car c) object
    new_put = record {
      moving = moving;
      cars = new_cars;
      stood = is_old;
      live = live;
      held = λ slot. ap (λ o. slot_of o slot) vacant ∙ sym (get-empty nat_cmp slot);
      numbered = refl;
      from_one = from_one;
      sound = new_sound c;
      unmoved = (new_counts c).1;
      fits = (let bare : used (new_car c) ≡ CAR_HEAD_BYTES = (new_counts c).2 in omega (arith, small, bare), omega arith);
      apart = new_apart;
      linked = new_linked;
      sets = λ e. ap is_some (at_insert view.sets c empty e) ∙ some_empty (c == e) empty (get view.sets e) ∙ ap (λ b. (c == e) || b) (law.built.sets e) ∙ sym (new_stand e);
      queues = λ e. ap is_some (at_insert view.queues c [] e) ∙ some_empty (c == e) [] (get view.queues e) ∙ ap (λ b. (c == e) || b) (law.built.queues e) ∙ sym (new_stand e);
      effective = λ e x.
          (λ i. effective_in (at_insert view.sets c empty e i) (at_insert view.queues c [] e i) x)
          ∙ empty_effective (c == e) (get view.sets e) (get view.queues e) x
          (λ same. ap (get view.sets) (sym (eqb-true c e same)) ∙ none_from_some (get view.sets c) (law.built.sets c ∙ ap is_some vacant));
      trains = sound_appended view.trains y c law.built.trains homeless;
      births = new_births;
      phase = refl;
      at = front_with ts y c from.car law.built.trains.filled front;
      roots = refl;
      registers = refl;
      next = refl;
      own_set = at_insert view.sets c empty from.car ∙ cond-false _ _ _ (turned c from.car ∙ new_apart);
      own_queue = at_insert view.queues c [] from.car ∙ cond-false _ _ _ (turned c from.car ∙ new_apart);
      homes = λ e some. new_home e ∙ cond-false _ _ _ (false_from_ne_true (e == c) (λ same. true≢false (sym some ∙ ap (λ e. is_some (get view.cars e)) (eqb-true e c same) ∙ ap is_some vacant)));
      old_train = λ a to was. new_home a.car ∙ cond-false _ _ _ (anchor_apart a to was) ∙ was.old ∙ sym oldest_same;
      goal = λ a to was. stands_appended ts y c to ∙ was.stands;
      leaves = λ a to was. subst (λ o. o ≢ Some to) (sym oldest_same) was.leaves;
    }

    pub new_lands : train_of in_new.trains.trains c ≡ Some y
    new_lands = new_home c ∙ cond-true _ _ _ (eq-eqb c c refl)
