-- An object that is born in the open train: in its tail, in a new car, and in a new open train.
use Rattle.std.proofs.Common.{◌≡◌, ◌≢◌, ℕ, ◌+◌, ◌<◌, ◌≤◌, ◌==◌, ◌||◌, nat_le, if◌then◌else◌, Bool, true, false, cond, refl, ap, sym, subst, ◌∙◌, List, [], ◌∷◌, ◌++◌, length, Option, Some, None, arith, is_some, IsTrue}
use Rattle.std.specs.Option.{IsSome, IsSomeAnd, unwrap_or, option_map, option_and_then}
use Rattle.std.specs.List.{sum_by}
use Rattle.std.specs.Ordering.{nat_cmp}
use Rattle.std.specs.FinMap.{get, empty, get-empty}
use Rattle.std.proofs.lemmas.Bool.{eqb-true, eq-eqb, true≢false, cond-true, cond-false, false_from_ne_true, and_parts, leb-true, leb-false}
use Rattle.std.proofs.lemmas.Bool.Decides.{nat_tests}
use Rattle.std.proofs.lemmas.List.Sums.{sum_by_push}
use Rattle.pm_types.specs.Orders.{source_cmp}
use Rattle.pm_types.specs.declared.address.Addr.{Addr}
use Rattle.pm_types.specs.declared.object.Object as stored_objects
use Rattle.pm_types.specs.declared.object.Slot.TheVariants.{Live}
use Rattle.pm_types.specs.declared.source.RefSource.{RefSource}
use Rattle.pm_types.specs.declared.source.Change.{Change}
use Rattle.pm_cars.specs.Cars.{Car, IsSoundCar, Fits, used, object_room, slot_room, one_live, one_moved, new_car, live_count, moved_count, object_of, with_birth}
use Rattle.pm_cars.proofs.Rooms.{total_empty}
use Rattle.pm_trains.specs.Trains.{Train, HasCar, cars_at, train_of, is_among, first_car, tail, oldest, youngest, last_number, rotated}
use Rattle.pm_trains.specs.Sound as line
use Rattle.pm_trains.proofs.Cars.{home_appended, home_rotated}
use Rattle.pm_trains.proofs.Found.{home_has, cars_changed}
use Rattle.pm_trains.proofs.Kept.{sound_appended}
use Rattle.pm_view.specs.declared.phase.Phase.{Phase}
use Rattle.pm_view.specs.declared.phase.Phase.TheVariants.{Idle, Draining, Moving, Sweeping, Doomed}
use Rattle.pm_view.specs.View.{Cars, Sources, SpaceView}
use Rattle.pm_view.specs.Reading.{slot_at, object_at, id_at, cars_of, aside_in, is_aside, is_from}
use Rattle.pm_view.specs.Effective.{effective_in}
use Rattle.pm_view.specs.Counts.{live_in, standing_in}
use Rattle.pm_view.specs.Law.{IsOldest, IsFront, IsPhaseOf, IsAnchor, HeapLaw}
use Rattle.pm_view.specs.Rows.{put_car, has_room, if_fits, tail_for, put_in, with_count, born_in, born, next_of, place_in, birthplace, IsVacant, MayBeBorn}
use Rattle.pm_law_commands.proofs.RowLemmas.News.{at_insert}
use Rattle.pm_law_commands.proofs.RowLemmas.Places.{slot_of}
use Rattle.pm_law_commands.proofs.RowLemmas.Sums.{no_less, grown, some_item}
use Rattle.pm_law_commands.proofs.RowLemmas.OpenTrain.{first_home, among_home, open_free, open_not_from, tail_home, phase_appended, aside_appended, oldest_appended, youngest_appended, stands_appended}
use Rattle.pm_view.specs.Sources.{same_address}
use Rattle.pm_view.specs.Objects.{AddsObject}
use Rattle.pm_law_commands.proofs.RowLemmas.Rotating.{opened, aside_opened, youngest_rotated, opening_keeps_law, opening_stands}
use Rattle.pm_law_commands.proofs.RowLemmas.Birth.{IsBirth, live_after, birth_keeps_law, birth_stands, born_here, none_before, others_stay}
use Rattle.pm_types.specs.declared.limits.TheConstants.{FIELDS, OBJECT_BYTES, CAR_HEAD_BYTES, CAR_BYTES, CAR_ROOM, LAST_SLOT}
use Rattle.pm_model.specs.Heap.{Object}
use Rattle.pm_model.specs.World.{World, changing}
use Rattle.pm_view.specs.Represents.{meaning, Represents}

-- a car of a train is among the train's cars
pub home_among : (ts : List Train) (n c : ℕ) → line.Rise 0 ts → train_of ts c ≡ Some n → is_among c (cars_of ts n) ≡ true
home_among ts n c rising home = by_case (cars_at ts n) (home_has 0 c n ts rising home)
  where
    by_case : (o : Option (List ℕ)) → IsSomeAnd o (λ cars. IsTrue (is_among c cars)) → is_among c (unwrap_or o []) ≡ true
    by_case None among = absurd among
    by_case (Some cars) among = among

-- what becomes of the trains where the open one stays: the place lies in it, each other car in its own
pub record InTrains (view t : SpaceView) (p : Addr) : Type 0 where
  pub home : train_of t.trains.trains p.car ≡ Some (youngest t.trains.trains)
  pub homes : (car : ℕ) → IsSome (get view.cars car) → train_of t.trains.trains car ≡ train_of view.trains.trains car
  pub same : youngest t.trains.trains ≡ youngest view.trains.trains
  pub births : t.trains.births ≡ view.trains.births + 1

-- ---- in the tail of the open train

-- what is read of a test of room
pub room_fits : (car : Car) (room : ℕ) → has_room car room ≡ true → Fits car room
room_fits car room has =
    let both = and_parts (nat_le (used car + room) CAR_BYTES) (nat_le car.next LAST_SLOT) has in
    (leb-true (used car + room) CAR_BYTES both.0, leb-true car.next LAST_SLOT both.1)

pub stood : (cars : Cars) (c e : ℕ) (car d : Car) (b : Bool) → (c == e) ≡ b → get cars c ≡ Some car → is_some (cond b (Some d) (get cars e)) ≡ is_some (get cars e)
stood cars c e car d true same is = sym (ap (λ e. is_some (get cars e)) (sym (eqb-true c e same)) ∙ ap is_some is)
stood cars c e car d false same is = refl

module _ (view : SpaceView) (c number : ℕ) (car : Car) (object : stored_objects.Object) (law : HeapLaw view) (is : get view.cars c ≡ Some car) (last : tail view.trains.trains (youngest view.trains.trains) ≡ Some c)
    (fits : Fits car (object_room object)) (births : view.trains.births < 1024) where
  abbrev ts : List Train
  ts = view.trains.trains

  abbrev pub in_tail : SpaceView
  in_tail = with_count (put_in view (youngest ts) (Some c) number object)

  home : train_of ts c ≡ Some (youngest ts)
  home = tail_home ts (youngest ts) c law.built.trains.single last

  cars_then : (n : ℕ) → get in_tail.cars n ≡ cond (c == n) (Some (with_birth car object)) (get view.cars n)
  cars_then n = ap (λ o. get (put_car view.cars c o (λ it. with_birth it object)) n) is ∙ at_insert view.cars c (with_birth car object) n

  stand_then : (e : ℕ) → is_some (get in_tail.cars e) ≡ is_some (get view.cars e)
  stand_then e = ap is_some (cars_then e) ∙ stood view.cars c e car (with_birth car object) (c == e) refl is

  free : is_aside view c ≡ false
  free = open_free view.phase ts view.anchor c law.built.trains.single law.phase home

  not_from : is_from view c ≡ false
  not_from = open_not_from view.phase ts view.anchor c law.built.trains.single law.phase home

  live_here : live_count (with_birth car object) ≡ live_count car + 1
  live_here = live_after car object (law.built.cars c car is).sound

  counts_grow : (e : ℕ) → standing_in view e ≤ standing_in in_tail e
  counts_grow e = by_case (is_aside view e) (c == e) refl
    where
      bare : (b : Bool) → (c == e) ≡ b → live_in (get view.cars e) ≤ live_in (cond b (Some (with_birth car object)) (get view.cars e))
      bare true same = subst (λ o. live_in o ≤ live_count (with_birth car object)) (sym is ∙ ap (get view.cars) (eqb-true c e same)) (let more = live_here in omega arith)
      bare false same = omega arith

      by_case : (a b : Bool) → (c == e) ≡ b → cond a 0 (live_in (get view.cars e)) ≤ cond a 0 (live_in (get in_tail.cars e))
      by_case true b same = omega arith
      by_case false b same = subst (λ o. live_in (get view.cars e) ≤ live_in o) (sym (cars_then e)) (subst (λ d. live_in (get view.cars e) ≤ live_in (cond d (Some (with_birth car object)) (get view.cars e))) refl (bare (c == e) refl))

  count_here : standing_in view c + 1 ≤ standing_in in_tail c
  count_here =
      let before : standing_in view c ≡ live_count car = (λ i. cond (free i) 0 (live_in (is i))) in
      let now : standing_in in_tail c ≡ live_count (with_birth car object) = (λ i. cond (free i) 0 (live_in ((cars_then c ∙ cond-true _ _ _ (eq-eqb c c refl)) i))) in
      let more = live_here in
      omega arith

  births_then : view.trains.births + 1 ≤ sum_by (standing_in in_tail) (cars_of ts (youngest ts))
  births_then =
      let more = grown (standing_in view) (standing_in in_tail) c (cars_of ts (youngest ts)) counts_grow count_here (home_among ts (youngest ts) c law.built.trains.rising home) in
      let was = law.built.births in
      omega arith

  pub tail_birth : IsBirth view in_tail c car object
  tail_birth =
      let was = law.built.cars c car is in
      record {
        cars = cars_then;
        held = λ slot. ap (λ o. slot_of o slot) is;
        numbered = was.numbered;
        from_one = was.from_one;
        sound = was.sound;
        unmoved = was.moved not_from;
        fits = fits;
        free = free;
        aside = λ e. refl;
        linked = λ e. law.built.linked e ∙ sym (stand_then e);
        sets = λ e. law.built.sets e ∙ sym (stand_then e);
        queues = λ e. law.built.queues e ∙ sym (stand_then e);
        effective = λ e x. refl;
        trains = record { standing = law.built.trains.standing; rising = law.built.trains.rising; filled = law.built.trains.filled; single = law.built.trains.single; bounded = omega (arith, births) };
        births = births_then;
        roots = refl;
        registers = refl;
        from = λ e. refl;
        phase = law.phase;
        anchor = law.anchor;
        anchored = λ a to was some. record { live = some; kept = was.kept; old = was.old; stands = was.stands; leaves = was.leaves };
        next = refl;
      }

  pub tail_trains : InTrains view in_tail (record { car = c; slot = car.next })
  tail_trains = record { home = home; homes = λ e some. refl; same = refl; births = refl }

-- ---- in a new car at the end of the open train

-- a car with no slot has no room taken, and no object
pub new_counts : (c : ℕ) → (live_count (new_car c) ≡ 0) × (moved_count (new_car c) ≡ 0) × (used (new_car c) ≡ CAR_HEAD_BYTES)
new_counts c = (total_empty one_live, total_empty one_moved, ap (λ n. CAR_HEAD_BYTES + n) (total_empty slot_room))

pub new_sound : (c : ℕ) → IsSoundCar (new_car c)
new_sound c = record { room = subst (λ n. n ≤ CAR_BYTES) (sym (new_counts c).2) (omega arith); next = omega arith; below = λ slot after. get-empty nat_cmp slot }

pub some_empty : (b : Bool) {A : Type 0} (x : A) (o : Option A) → is_some (cond b (Some x) o) ≡ (b || is_some o)
some_empty true x o = refl
some_empty false x o = refl

pub empty_effective : (b : Bool) (sets : Option Sources) (queues : Option (List Change)) (x : RefSource) → (b ≡ true → sets ≡ None) → effective_in (cond b (Some empty) sets) (cond b (Some []) queues) x ≡ effective_in sets queues x
empty_effective true sets queues x none = get-empty source_cmp x ∙ ap (λ s. effective_in s queues x) (sym (none refl))
empty_effective false sets queues x none = refl

pub none_from_some : {A : Type 0} (o : Option A) → is_some o ≡ false → o ≡ None
none_from_some None no_one = refl
none_from_some (Some x) no_one = absurd (true≢false no_one)

module _ (view : SpaceView) (c : ℕ) (object : stored_objects.Object) (law : HeapLaw view) (vacant : get view.cars c ≡ None) (from_one : 0 < c) (small : object_room object ≤ CAR_ROOM) (births : view.trains.births < 1024)
    (stands : IsSome (cars_at view.trains.trains (youngest view.trains.trains))) where
  abbrev trains_now : List Train
  trains_now = view.trains.trains

  abbrev pub in_new_car : SpaceView
  in_new_car = with_count (put_in view (youngest trains_now) None c object)

  homeless : train_of trains_now c ≡ None
  homeless = none_from_some (train_of trains_now c) (law.built.linked c ∙ ap is_some vacant)

  new_cars_then : (n : ℕ) → get in_new_car.cars n ≡ cond (c == n) (Some (with_birth (new_car c) object)) (get view.cars n)
  new_cars_then n = at_insert view.cars c (with_birth (new_car c) object) n

  new_stand : (e : ℕ) → is_some (get in_new_car.cars e) ≡ ((c == e) || is_some (get view.cars e))
  new_stand e = ap is_some (new_cars_then e) ∙ some_empty (c == e) (with_birth (new_car c) object) (get view.cars e)

  turned : (m n : ℕ) → (m == n) ≡ (n == m)
  turned m n = grind (arith, nat_tests)

  new_home : (e : ℕ) → train_of in_new_car.trains.trains e ≡ cond (e == c) (Some (youngest trains_now)) (train_of trains_now e)
  new_home e = home_appended (youngest trains_now) c trains_now stands homeless e

  new_linked : (e : ℕ) → is_some (train_of in_new_car.trains.trains e) ≡ is_some (get in_new_car.cars e)
  new_linked e = ap is_some (new_home e) ∙ some_empty (e == c) (youngest trains_now) (train_of trains_now e) ∙ (λ i. turned e c i || law.built.linked e i) ∙ sym (new_stand e)

  aside_then : (e : ℕ) → is_aside in_new_car e ≡ is_aside view e
  aside_then e = aside_appended trains_now c law.built.trains.rising view.phase view.anchor law.phase e

  -- a number that no car has is that of no car that is set aside
  new_free : is_aside view c ≡ false
  new_free = by_case view.phase law.phase
    where
      no_first : (f : ℕ) → IsFront trains_now f → (f == c) ≡ false
      no_first f at = false_from_ne_true (f == c) (λ same. by_oldest (oldest trains_now) at (eqb-true f c same))
        where
          by_oldest : (o : Option ℕ) → IsSomeAnd o (λ n. IsOldest trains_now n × (first_car trains_now n ≡ Some f)) → f ≡ c → ⊥
          by_oldest None at same = at
          by_oldest (Some n) at same = let clash : Some n ≡ None = sym (first_home trains_now n f law.built.trains.single at.1) ∙ ap (train_of trains_now) same ∙ homeless in cc

      by_case : (p : Phase) → IsPhaseOf p trains_now view.anchor → aside_in p trains_now c ≡ false
      by_case Idle at = refl
      by_case (Draining n) at = refl
      by_case (Moving f) at = refl
      by_case (Sweeping f) at = no_first f at
      by_case (Doomed n) at = false_from_ne_true (is_among c (cars_of trains_now n)) (λ among. let clash : Some n ≡ None = sym (among_home trains_now n c law.built.trains.single among) ∙ homeless in cc)

  new_live : live_count (with_birth (new_car c) object) ≡ 1
  new_live = live_after (new_car c) object (new_sound c) ∙ ap (λ n. n + 1) (new_counts c).0

  counts_then : (e : ℕ) → standing_in view e ≤ standing_in in_new_car e
  counts_then e = subst (λ a. standing_in view e ≤ cond a 0 (live_in (get in_new_car.cars e))) (sym (aside_then e)) (subst (λ o. cond (is_aside view e) 0 (live_in (get view.cars e)) ≤ cond (is_aside view e) 0 (live_in o)) (sym (new_cars_then e)) (by_case (is_aside view e) (c == e) refl))
    where
      by_case : (a b : Bool) → (c == e) ≡ b → cond a 0 (live_in (get view.cars e)) ≤ cond a 0 (live_in (cond b (Some (with_birth (new_car c) object)) (get view.cars e)))
      by_case true b same = omega arith
      by_case false true same = subst (λ o. live_in o ≤ live_count (with_birth (new_car c) object)) (sym vacant ∙ ap (get view.cars) (eqb-true c e same)) (omega arith)
      by_case false false same = omega arith

  count_then : standing_in in_new_car c ≡ 1
  count_then = (λ i. cond ((aside_then c ∙ new_free) i) 0 (live_in ((new_cars_then c ∙ cond-true _ _ _ (eq-eqb c c refl)) i))) ∙ new_live

  open_cars : (o : Option (List ℕ)) → cars_at trains_now (youngest trains_now) ≡ o → IsSome o → cars_of in_new_car.trains.trains (youngest in_new_car.trains.trains) ≡ cars_of trains_now (youngest trains_now) ++ c ∷ []
  open_cars None is some = absurd (true≢false (sym some))
  open_cars (Some cars) is some =
      ap (cars_of in_new_car.trains.trains) (youngest_appended trains_now c law.built.trains.rising)
      ∙ ap (λ o. unwrap_or o []) (cars_changed (youngest trains_now) (youngest trains_now) (λ cars. cars ++ c ∷ []) trains_now ∙ cond-true _ _ _ (eq-eqb (youngest trains_now) (youngest trains_now) refl) ∙ ap (option_map (λ (cars : List ℕ). cars ++ c ∷ [])) is)
      ∙ ap (λ o. unwrap_or o [] ++ c ∷ []) (sym is)

  new_births : view.trains.births + 1 ≤ sum_by (standing_in in_new_car) (cars_of in_new_car.trains.trains (youngest in_new_car.trains.trains))
  new_births =
      let cars = cars_of trains_now (youngest trains_now) in
      let pushed = sum_by_push (standing_in in_new_car) cars c in
      let more = no_less (standing_in view) (standing_in in_new_car) cars counts_then in
      let was = law.built.births in
      let one = count_then in
      subst (λ cars. view.trains.births + 1 ≤ sum_by (standing_in in_new_car) cars) (sym (open_cars (cars_at trains_now (youngest trains_now)) refl stands)) (omega arith)

  oldest_same : (o : Option ℕ) → oldest trains_now ≡ o → IsSome o → oldest in_new_car.trains.trains ≡ oldest trains_now
  oldest_same None is some = absurd (true≢false (sym some))
  oldest_same (Some n) is some = oldest_appended trains_now c law.built.trains.rising n is ∙ sym is

  -- the car of an anchor is not the new one
  anchored_then : (a : Addr) (to : ℕ) → IsAnchor view a to → is_some (object_at in_new_car.cars a) ≡ true → IsAnchor in_new_car a to
  anchored_then a to was some =
      let there : is_some (get view.cars a.car) ≡ true = car_there (get view.cars a.car) was.live in
      let other : (a.car == c) ≡ false = false_from_ne_true (a.car == c) (λ same. true≢false (sym there ∙ ap (λ e. is_some (get view.cars e)) (eqb-true a.car c same) ∙ ap is_some vacant)) in
      let old_some : IsSome (oldest trains_now) = ap is_some (sym was.old) ∙ law.built.linked a.car ∙ there in
      let same_oldest = oldest_same (oldest trains_now) refl old_some in
      record {
        live = some;
        kept = aside_then a.car ∙ was.kept;
        old = new_home a.car ∙ cond-false _ _ _ other ∙ was.old ∙ sym same_oldest;
        stands = stands_appended trains_now (youngest trains_now) c to ∙ was.stands;
        leaves = subst (λ o. o ≢ Some to) (sym same_oldest) was.leaves;
      }
    where
      car_there : (o : Option Car) → is_some (object_of (slot_of o a.slot)) ≡ true → is_some o ≡ true
      car_there None live = live
      car_there (Some car) live = refl

  pub new_car_birth : IsBirth view in_new_car c (new_car c) object
  new_car_birth = record {
    cars = new_cars_then;
    held = λ slot. ap (λ o. slot_of o slot) vacant ∙ sym (get-empty nat_cmp slot);
    numbered = refl;
    from_one = from_one;
    sound = new_sound c;
    unmoved = (new_counts c).1;
    fits = (let bare : used (new_car c) ≡ CAR_HEAD_BYTES = (new_counts c).2 in omega (arith, small, bare), omega arith);
    free = new_free;
    aside = aside_then;
    linked = new_linked;
    sets = λ e. ap is_some (at_insert view.sets c empty e) ∙ some_empty (c == e) empty (get view.sets e) ∙ ap (λ b. (c == e) || b) (law.built.sets e) ∙ sym (new_stand e);
    queues = λ e. ap is_some (at_insert view.queues c [] e) ∙ some_empty (c == e) [] (get view.queues e) ∙ ap (λ b. (c == e) || b) (law.built.queues e) ∙ sym (new_stand e);
    effective = λ e x.
        (λ i. effective_in (at_insert view.sets c empty e i) (at_insert view.queues c [] e i) x)
        ∙ empty_effective (c == e) (get view.sets e) (get view.queues e) x
        (λ same. ap (get view.sets) (sym (eqb-true c e same)) ∙ none_from_some (get view.sets c) (law.built.sets c ∙ ap is_some vacant));
    trains = trains_then;
    births = new_births;
    roots = refl;
    registers = refl;
    from = λ e. refl;
    phase = phase_appended trains_now c law.built.trains.rising view.phase view.anchor law.phase;
    anchor = law.anchor;
    anchored = anchored_then;
    next = refl;
  }
    where
      trains_then : line.AreSoundTrains in_new_car.trains
      trains_then =
          let was = sound_appended view.trains (youngest trains_now) c law.built.trains homeless in
          record { standing = was.standing; rising = was.rising; filled = was.filled; single = was.single; bounded = omega (arith, births) }

  pub new_car_trains : InTrains view in_new_car (record { car = c; slot = (new_car c).next })
  new_car_trains = record {
    home = new_home c ∙ cond-true _ _ _ (eq-eqb c c refl) ∙ ap Some (sym (youngest_appended trains_now c law.built.trains.rising));
    homes = λ e some. new_home e ∙ cond-false _ _ _ (false_from_ne_true (e == c) (λ same. true≢false (sym some ∙ ap (λ e. is_some (get view.cars e)) (eqb-true e c same) ∙ ap is_some vacant)));
    same = youngest_appended trains_now c law.built.trains.rising;
    births = refl;
  }

-- ---- a birth, wherever it is

-- the open train stands
pub youngest_stands : (ts : List Train) → line.Rise 0 ts → 0 < length ts → IsSome (cars_at ts (youngest ts))
youngest_stands ts rising some = youngest_from 0 ts rising some
  where
    youngest_from : (low : ℕ) (ts : List Train) → line.Rise low ts → 0 < length ts → IsSome (cars_at ts (last_number low ts))
    youngest_from low [] rising some = absurd (omega (arith, some))
    youngest_from low (t ∷ []) rising some = ap is_some (cond-true _ _ _ (eq-eqb t.number t.number refl))
    youngest_from low (t ∷ u ∷ us) rising some = either (t.number == last_number u.number us) _ (youngest_from t.number (u ∷ us) rising.1 (omega arith))
      where
        either : (b : Bool) (o : Option (List ℕ)) → is_some o ≡ true → is_some (cond b (Some t.cars) o) ≡ true
        either true o some = refl
        either false o some = some

-- what a birth gives: the heap law, the world with the object, and the object at its place, in a car that is not set aside
pub record Gives (view t : SpaceView) (object : stored_objects.Object) (p : Addr) : Type 0 where
  pub law : HeapLaw t
  pub world : (world : World) (it : Object) → Represents view world → get world.heap object.id ≡ None → it ≡ meaning view object → Represents t (changing world object.id it)
  pub here : slot_at t.cars p ≡ Some (Live object)
  pub free : is_aside t p.car ≡ false
  pub none : id_at view p ≡ None
  pub ids : (a : Addr) → same_address p a ≡ false → id_at t a ≡ id_at view a
  pub aside : (car : ℕ) → is_aside t car ≡ is_aside view car
  pub trains : InTrains view t p

from_birth : (view t : SpaceView) (c : ℕ) (car : Car) (object : stored_objects.Object) → HeapLaw view → MayBeBorn view object → IsBirth view t c car object → InTrains view t (record { car = c; slot = car.next }) → Gives view t object (record { car = c; slot = car.next })
from_birth view t c car object law may birth trains = record {
  law = birth_keeps_law view t c car object law may birth;
  world = λ world it stands unknown means. birth_stands view t c car object law may birth world it stands unknown means stands.next;
  here = born_here view t c car object law may birth;
  free = birth.aside c ∙ birth.free;
  none = none_before view t c car object law may birth;
  ids = others_stay view t c car object law may birth;
  aside = birth.aside;
  trains = trains;
}

pub small_room : (object : stored_objects.Object) → length object.fields ≤ FIELDS → length object.bytes ≤ OBJECT_BYTES → object_room object ≤ CAR_ROOM
small_room object fields bytes = let f : FIELDS ≤ 255 = omega arith in let b : OBJECT_BYTES ≤ 4096 = omega arith in omega (arith, fields, bytes, f, b)

module _ (view : SpaceView) (number : ℕ) (object : stored_objects.Object) (law : HeapLaw view) (may : MayBeBorn view object) (vacant : IsVacant view.cars number) (births : view.trains.births < 1024) where
  abbrev open_number : ℕ
  open_number = youngest view.trains.trains

  into : (d : Option ℕ) → tail_for view open_number (object_room object) ≡ d → Gives view (with_count (put_in view open_number d number object)) object (place_in view.cars d number)
  into None is =
      from_birth view (in_new_car view number object law vacant.vacant vacant.from_one (small_room object may.fields may.bytes) births (youngest_stands view.trains.trains law.built.trains.rising law.built.trains.standing))
      number (new_car number) object law may
      (new_car_birth view number object law vacant.vacant vacant.from_one (small_room object may.fields may.bytes) births (youngest_stands view.trains.trains law.built.trains.rising law.built.trains.standing))
      (new_car_trains view number object law vacant.vacant vacant.from_one (small_room object may.fields may.bytes) births (youngest_stands view.trains.trains law.built.trains.rising law.built.trains.standing))
  into (Some c) is = by_tail (tail view.trains.trains open_number) refl is
    where
      by_room : (car : Car) → get view.cars c ≡ Some car → tail view.trains.trains open_number ≡ Some c → has_room car (object_room object) ≡ true → Gives view (with_count (put_in view open_number (Some c) number object)) object (place_in view.cars (Some c) number)
      by_room car found last room =
          subst (λ o. Gives view (with_count (put_in view open_number (Some c) number object)) object (record { car = c; slot = next_of o })) (sym found)
          (from_birth view (in_tail view c number car object law found last (room_fits car (object_room object) room) births) c car object law may
          (tail_birth view c number car object law found last (room_fits car (object_room object) room) births)
          (tail_trains view c number car object law found last (room_fits car (object_room object) room) births))

      by_car : (e : ℕ) → tail view.trains.trains open_number ≡ Some e → (o : Option Car) → get view.cars e ≡ o → option_and_then (λ (car : Car). if has_room car (object_room object) then Some e else None) o ≡ Some c → Gives view (with_count (put_in view open_number (Some c) number object)) object (place_in view.cars (Some c) number)
      by_car e last None found is = cc
      by_car e last (Some car) found is = by_test (has_room car (object_room object)) refl is
        where
          by_test : (b : Bool) → has_room car (object_room object) ≡ b → (if b then Some e else None) ≡ Some c → Gives view (with_count (put_in view open_number (Some c) number object)) object (place_in view.cars (Some c) number)
          by_test true room is = let same : e ≡ c = cc in by_room car (ap (get view.cars) (sym same) ∙ found) (last ∙ ap Some same) room
          by_test false room is = cc

      by_tail : (o : Option ℕ) → tail view.trains.trains open_number ≡ o → option_and_then (if_fits view (object_room object)) o ≡ Some c → Gives view (with_count (put_in view open_number (Some c) number object)) object (place_in view.cars (Some c) number)
      by_tail None last is = cc
      by_tail (Some e) last is = by_car e last (get view.cars e) refl is

-- the open train has a car where objects were born in it
has_car : (view : SpaceView) → HeapLaw view → 0 < view.trains.births → HasCar view.trains.trains (youngest view.trains.trains)
has_car view law some = by_case (cars_at view.trains.trains (youngest view.trains.trains)) law.built.births
  where
    by_case : (o : Option (List ℕ)) → view.trains.births ≤ sum_by (standing_in view) (unwrap_or o []) → IsSomeAnd o (λ cars. 0 < length cars)
    by_case None few = let zero_sum : sum_by (standing_in view) [] ≡ 0 = refl in absurd (omega (arith, few, some, zero_sum))
    by_case (Some cars) few = some_item (standing_in view) cars (omega (arith, few, some))

abbrev opened_if : SpaceView → Bool → SpaceView
opened_if view b = if b then record view { trains = record { trains = rotated view.trains.trains; births = 0 } } else view

-- what a birth gives in the end: the heap law, the world with the object, and the object, which stands at its place
pub record GivesBirth (view t : SpaceView) (object : stored_objects.Object) (p : Addr) : Type 0 where
  pub law : HeapLaw t
  pub world : (world : World) (it : Object) → Represents view world → get world.heap object.id ≡ None → it ≡ meaning view object → Represents t (changing world object.id it)
  pub here : slot_at t.cars p ≡ Some (Live object)
  pub free : is_aside t p.car ≡ false
  pub added : AddsObject view t object.id p

-- an object that is born, wherever it is, keeps the heap law, and the world has it too
pub born_gives : (view : SpaceView) (number : ℕ) (object : stored_objects.Object) → HeapLaw view → MayBeBorn view object → IsVacant view.cars number → GivesBirth view (born view number object) object (birthplace view number object)
born_gives view number object law may vacant = by_case (nat_le 1024 view.trains.births) refl
  where
    by_case : (b : Bool) → nat_le 1024 view.trains.births ≡ b
        → GivesBirth view (born_in (opened_if view b) number object) object (place_in (opened_if view b).cars (tail_for (opened_if view b) (youngest (opened_if view b).trains.trains) (object_room object)) number)
    by_case true full =
        let has = has_car view law (let many = leb-true 1024 view.trains.births full in omega (arith, many)) in
        let now = opened view law has in
        let gives = into now number object (opening_keeps_law view law has) (record { first = may.first; given = may.given; unused = may.unused; fields = may.fields; bytes = may.bytes; null = may.null }) vacant (omega arith) (tail_for now (youngest now.trains.trains) (object_room object)) refl in
        record {
          law = gives.law;
          world = λ world it stands unknown means. gives.world world it (opening_stands view law has world stands) unknown means;
          here = gives.here;
          free = gives.free;
          added = record {
            none = gives.none;
            here = ap (option_map (λ (o : stored_objects.Object). o.id)) (ap object_of gives.here);
            free = gives.free;
            home = gives.trains.home;
            ids = gives.ids;
            aside = λ car. gives.aside car ∙ aside_opened view law has car;
            homes = λ car some. gives.trains.homes car some ∙ home_rotated car (youngest view.trains.trains + 1) view.trains.trains;
            youngest = gives.trains.same ∙ youngest_rotated view.trains.trains law.built.trains.rising ∙ sym (ap (λ b. if b then youngest view.trains.trains + 1 else youngest view.trains.trains) full);
            births = gives.trains.births ∙ sym (ap (λ b. if b then 1 else view.trains.births + 1) full);
          };
        }
    by_case false few =
        let gives = into view number object law may vacant (leb-false 1024 view.trains.births few) (tail_for view (youngest view.trains.trains) (object_room object)) refl in
        record {
          law = gives.law;
          world = gives.world;
          here = gives.here;
          free = gives.free;
          added = record {
            none = gives.none;
            here = ap (option_map (λ (o : stored_objects.Object). o.id)) (ap object_of gives.here);
            free = gives.free;
            home = gives.trains.home;
            ids = gives.ids;
            aside = gives.aside;
            homes = gives.trains.homes;
            youngest = gives.trains.same ∙ sym (ap (λ b. if b then youngest view.trains.trains + 1 else youngest view.trains.trains) few);
            births = gives.trains.births ∙ sym (ap (λ b. if b then 1 else view.trains.births + 1) few);
          };
        }
