-- How much a command adds to the work that is left.
use Rattle.std.proofs.Common.{◌≡◌, ℕ, zero, suc, ◌+◌, ◌*◌, ◌<◌, ◌≤◌, ◌==◌, ◌&&◌, ◌||◌, not, nat_lt, nat_le, if◌then◌else◌, Bool, true, false, refl, ap, sym, subst, ◌∙◌, List, [], ◌∷◌, ◌++◌, length, Option, Some, None, is_some, arith}
use Rattle.std.specs.Option.{IsSomeAnd, unwrap_or, option_and_then}
use Rattle.std.specs.List.{slice_get, sum_by}
use Rattle.std.specs.FinMap.{get, insert, remove, len, empty}
use Rattle.std.proofs.lemmas.Bool.{true≢false, eqb-true, eq-eqb, cond-false, both_ways, false_from_ne_true, leb-true, ltb-false, or_parts}
use Rattle.std.proofs.lemmas.List.{length-append}
use Rattle.pm_types.specs.declared.limits.TheConstants.{CLIENTS, REGISTERS, FIELDS, OBJECT_BYTES, LAST_ID}
use Rattle.pm_types.specs.declared.address.Addr.{Addr}
use Rattle.pm_types.specs.declared.object.Object.{Object}
use Rattle.pm_types.specs.declared.source.RefSource.{RefSource}
use Rattle.pm_types.specs.declared.source.RefSource.TheVariants.{Root, Handle, Field}
use Rattle.pm_types.specs.declared.source.Change.{Change}
use Rattle.pm_types.specs.declared.command.Cmd.{Cmd}
use Rattle.pm_types.specs.declared.command.Cmd.TheVariants.{Close}
use Rattle.pm_cars.specs.Cars as cars
use Rattle.pm_cars.specs.Cars.{Car, object_room, new_car, with_birth}
use Rattle.pm_trains.specs.Trains.{Train, Trains, HasCar, cars_at, train_of, tail, youngest, rotated}
use Rattle.pm_view.specs.declared.phase.Phase.{Phase}
use Rattle.pm_view.specs.declared.phase.Phase.TheVariants.{Idle, Draining, Moving, Sweeping, Doomed}
use Rattle.pm_view.specs.Sources.{outside}
use Rattle.pm_view.specs.View.{SpaceView}
use Rattle.pm_view.specs.Reading.{cars_of, stored, is_aside}
use Rattle.pm_view.specs.Counts.{live_in, standing_in}
use Rattle.pm_view.specs.Barrier.{heard, left, entered, in_one_car, barrier, told}
use Rattle.pm_view.specs.Law.{IsPhaseOf, IsOldest, HeapLaw}
use Rattle.pm_view.specs.Rows.{put_car, with_bytes_at, HasBytesAt, with_stored, spread, with_name, without_name, spent, has_room, if_fits, tail_for, put_in, with_count, born_in, born, birthplace, IsVacant}
use Rattle.pm_view.specs.Commands.{emptied, fresh, row, Picks, ArePicked, is_close}
use Rattle.pm_view.specs.Work.{queued, remembered, objects_in, emptying, dooming, front_car, work_in, work}
use Rattle.pm_law_commands.proofs.RowLemmas.News.{at_insert}
use Rattle.pm_law_commands.proofs.RowLemmas.Sums.{some_item}
use Rattle.pm_law_commands.proofs.RowLemmas.Built.{IsReshaped}
use Rattle.pm_law_commands.proofs.RowLemmas.Bytes.{bytes_shaped}
use Rattle.pm_law_commands.proofs.RowLemmas.SpreadKept.{reshaped_object, reshaped_itself, reshaped_news, reshaped_spread, spread_keeps_law}
use Rattle.pm_law_commands.proofs.RowLemmas.OpenTrain.{among_home, first_home, tail_home, cars_appended}
use Rattle.pm_law_commands.proofs.RowLemmas.Rotating.{opened, cars_at_rotated, opening_keeps_law}
use Rattle.pm_law_commands.proofs.RowLemmas.Born.{born_gives}
use Rattle.pm_law_commands.proofs.EveryRow.{OfRows, row_holds, object_made, new_holds}
use Rattle.pm_law_commands.proofs.Births.{spent_law, may_be_born}
use Rattle.pm_law_collect.proofs.PhasesLemmas.Small.{some_same, none_some, none_is, shaped_live}
use Rattle.pm_law_collect.proofs.PhasesLemmas.PhaseRows.{oldest_has}
use Rattle.pm_law_collect.specs.Work.Raises.{raises}
use Rattle.pm_law_collect.proofs.WorkLemmas.Sums.{sum_both, heard_by, few_news, told_once, own_places, queue_told}
use Rattle.pm_law_collect.proofs.PhasesLemmas.Fronts.{front_of}
use Rattle.pm_law_collect.proofs.MovesLemmas.PutRow.{no_less_items}

-- In the train that is collected at most so many changes more are queued than in a space, and nothing else that counts
-- is more.
pub record AddsQueued (view t : SpaceView) (k : ℕ) : Type 0 where
  pub phase : t.phase ≡ view.phase
  pub cars : (n : ℕ) → IsOldest view.trains.trains n → cars_at t.trains.trains n ≡ cars_at view.trains.trains n
  pub sum : (n : ℕ) → IsOldest view.trains.trains n → sum_by (queued t) (cars_of view.trains.trains n) ≤ sum_by (queued view) (cars_of view.trains.trains n) + k
  pub queue : (n e : ℕ) → IsOldest view.trains.trains n → train_of view.trains.trains e ≡ Some n → queued t e ≤ queued view e + k
  pub set : (n e : ℕ) → IsOldest view.trains.trains n → train_of view.trains.trains e ≡ Some n → remembered t e ≤ remembered view e
  pub objects : (n e : ℕ) → IsOldest view.trains.trains n → train_of view.trains.trains e ≡ Some n → objects_in t e ≤ objects_in view e

-- the first car of a train that has one
has_first : (o : Option (List ℕ)) → IsSomeAnd o (λ cars. 0 < length cars) → (c : ℕ) × (option_and_then (λ (cars : List ℕ). slice_get cars 0) o ≡ Some c)
has_first None has = absurd has
has_first (Some []) has = absurd (omega (arith, has))
has_first (Some (c ∷ cars)) has = (c, refl)

module _ (view t : SpaceView) (k : ℕ) (law : HeapLaw view) (is : AddsQueued view t k) where
  abbrev ts : List Train
  ts = view.trains.trains

  same_cars : (n : ℕ) → IsOldest ts n → cars_of t.trains.trains n ≡ cars_of ts n
  same_cars n old = ap (λ o. unwrap_or o []) (is.cars n old)

  fewer_objects : (n : ℕ) → IsOldest ts n → sum_by (objects_in t) (cars_of ts n) ≤ sum_by (objects_in view) (cars_of ts n)
  fewer_objects n old = no_less_items (objects_in t) (objects_in view) (cars_of ts n) (λ e among. is.objects n e old (among_home ts n e law.built.trains.single among))

  doomed_adds : (n : ℕ) → IsOldest ts n → work_in t (Doomed n) ≤ work_in view (Doomed n)
  doomed_adds n old =
      let now : work_in t (Doomed n) ≡ dooming t (cars_of ts n) = ap (dooming t) (same_cars n old) in
      let less = fewer_objects n old in
      omega (arith, now, less)

  draining_adds : (n : ℕ) → IsOldest ts n → work_in t (Draining n) ≤ work_in view (Draining n) + 3 * k
  draining_adds n old =
      let first = has_first (cars_at ts n) (oldest_has 0 n ts law.built.trains.rising old.0) in
      let home : train_of ts first.0 ≡ Some n = first_home ts n first.0 law.built.trains.single first.1 in
      let was : front_car view n ≡ first.0 = ap (λ o. unwrap_or o 0) first.1 in
      let front : front_car t n ≡ first.0 = ap (λ o. unwrap_or (option_and_then (λ (cars : List ℕ). slice_get cars 0) o) 0) (is.cars n old) ∙ was in
      let now : work_in t (Draining n) ≡ emptying t (sum_by (queued t) (cars_of ts n)) first.0 + dooming t (cars_of ts n) + 4 = (λ i. emptying t (sum_by (queued t) (same_cars n old i)) (front i) + dooming t (same_cars n old i) + 4) in
      let before : work_in view (Draining n) ≡ emptying view (sum_by (queued view) (cars_of ts n)) first.0 + dooming view (cars_of ts n) + 4 = (λ i. emptying view (sum_by (queued view) (cars_of ts n)) (was i) + dooming view (cars_of ts n) + 4) in
      let q = is.sum n old in
      let e = is.set n first.0 old home in
      let u = is.objects n first.0 old home in
      let less = fewer_objects n old in
      omega (arith, now, before, q, e, u, less)

  by_phase : (p : Phase) → IsPhaseOf p ts view.anchor → work_in t p ≤ work_in view p + 3 * k
  by_phase Idle at = omega arith
  by_phase (Draining n) at = draining_adds n at
  by_phase (Moving car) at =
      let front = front_of ts car at in
      let home = first_home ts front.train car law.built.trains.single front.first in
      let q = is.queue front.train car front.old home in
      let e = is.set front.train car front.old home in
      let u = is.objects front.train car front.old home in
      omega (arith, q, e, u)
  by_phase (Sweeping car) at =
      let front = front_of ts car at in
      let u = is.objects front.train car front.old (first_home ts front.train car law.built.trains.single front.first) in
      omega (arith, u)
  by_phase (Doomed n) at = let less = doomed_adds n at.0 in omega (arith, less)

  pub adds_work : work t ≤ work view + 3 * k
  adds_work = subst (λ p. work_in t p ≤ work view + 3 * k) (sym is.phase) (by_phase view.phase law.phase)

-- ---- a source is set, a name bound, bytes changed

reshaped_adds : (view t : SpaceView) (cs : List (ℕ × Change)) → HeapLaw view → IsReshaped view t → t.queues ≡ told view.queues cs → work t ≤ work view + 3 * length cs
reshaped_adds view t cs law same queues = adds_work view t (length cs) law (record {
  phase = same.phase;
  cars = λ n old. ap (λ (s : Trains). cars_at s.trains n) same.trains;
  sum = λ n old.
      let more = sum_both (queued t) (queued view) (heard_by cs) (cars_of view.trains.trains n) longer in
      let most = told_once cs (cars_of view.trains.trains n) (λ q. let own = own_places q n view.trains.trains in let all = law.built.trains.single q in omega (arith, own, all)) in
      omega (arith, more, most);
  queue = λ n e old home. let more = longer e in let few = few_news cs e in omega (arith, more, few);
  set = λ n e old home. let one : remembered t e ≡ remembered view e = ap (λ s. len (unwrap_or (get s e) empty)) same.sets in omega (arith, one);
  objects = λ n e old home. let one : objects_in t e ≡ objects_in view e = shaped_live (get view.cars e) (get t.cars e) (same.cars e) in omega (arith, one);
})
  where
    longer : (e : ℕ) → queued t e ≤ queued view e + heard_by cs e
    longer e = subst (λ q. length (unwrap_or (get q e) []) ≤ queued view e + heard_by cs e) (sym queues) (queue_told view.queues cs e)

heard_one : (aside : ℕ → Bool) (x : RefSource) (car : ℕ) (slot : Option ℕ) → length (heard aside x car slot) ≤ 1
heard_one aside x car slot = by_case (outside car x) (aside car)
  where
    by_case : (b c : Bool) → length {A = ℕ × Change} (if b && not c then (car, record { source = x; slot = slot }) ∷ [] else []) ≤ 1
    by_case true true = omega arith
    by_case true false = omega arith
    by_case false c = omega arith

left_one : (aside : ℕ → Bool) (x : RefSource) (old : Option Addr) → length (left aside x old) ≤ 1
left_one aside x None = omega arith
left_one aside x (Some a) = heard_one aside x a.car None

entered_one : (aside : ℕ → Bool) (x : RefSource) (new : Option Addr) → length (entered aside x new) ≤ 1
entered_one aside x None = omega arith
entered_one aside x (Some a) = heard_one aside x a.car (Some a.slot)

barrier_two : (aside : ℕ → Bool) (x : RefSource) (old new : Option Addr) → length (barrier aside x old new) ≤ 2
barrier_two aside x old new = by_case (in_one_car old new)
  where
    by_case : (b : Bool) → length (if b then entered aside x new else left aside x old ++ entered aside x new) ≤ 2
    by_case true = let one = entered_one aside x new in omega (arith, one)
    by_case false = let one = entered_one aside x new in let two = left_one aside x old in let both = length-append (left aside x old) (entered aside x new) in omega (arith, one, two, both)

-- a source that becomes null is heard of by one car at most
barrier_one : (aside : ℕ → Bool) (x : RefSource) (old : Option Addr) → length (barrier aside x old None) ≤ 1
barrier_one aside x None = omega arith
barrier_one aside x (Some a) = let one = left_one aside x (Some a) in let both = length-append (left aside x (Some a)) [] in omega (arith, one, both)

module _ (view : SpaceView) (law : HeapLaw view) where
  spread_adds : (x : RefSource) (to : Option Addr) → work (spread view x to) ≤ work view + 3 * length (barrier (is_aside (with_stored view x to)) x (stored view x) to)
  spread_adds x to = reshaped_adds view (spread view x to) (barrier (is_aside (with_stored view x to)) x (stored view x) to) law (reshaped_spread view x to) (same_queues x to)
    where
      same_queues : (x : RefSource) (to : Option Addr) → (spread view x to).queues ≡ told view.queues (barrier (is_aside (with_stored view x to)) x (stored view x) to)
      same_queues (Root n) None = refl
      same_queues (Root n) (Some a) = refl
      same_queues (Handle c r) to = refl
      same_queues (Field a i) to = refl

  spread_adds_six : (x : RefSource) (to : Option Addr) → work (spread view x to) ≤ work view + 6
  spread_adds_six x to = let more = spread_adds x to in let two = barrier_two (is_aside (with_stored view x to)) x (stored view x) to in omega (arith, more, two)

  spread_adds_three : (x : RefSource) → work (spread view x None) ≤ work view + 3
  spread_adds_three x = let more = spread_adds x None in let one = barrier_one (is_aside (with_stored view x None)) x (stored view x) in omega (arith, more, one)

  bytes_add : (a : Addr) (at : ℕ) (bytes : List ℕ) → HasBytesAt view.cars a at (length bytes) → work (with_bytes_at view a at bytes) ≤ work view + 6
  bytes_add a at bytes has =
      let same = reshaped_object view a (λ object. cars.with_bytes object at bytes) (λ object is. bytes_shaped object at bytes (subst (λ o. IsSomeAnd o (λ (object : Object). at + length bytes ≤ length object.bytes)) is has)) in
      let more = reshaped_adds view (with_bytes_at view a at bytes) [] law same refl in
      omega (arith, more)

  name_adds : (name : List ℕ) (number : ℕ) (a : Addr) → work (with_name view name number a) ≤ work view + 6
  name_adds name number a =
      let now = record view { roots = insert view.roots name (number, a) } in
      let cs = barrier (is_aside now) (Root number) None (Some a) in
      let same = reshaped_news view now (Root number) None (Some a) (reshaped_itself view now refl refl refl refl refl refl refl) in
      let more = reshaped_adds view (with_name view name number a) cs law same refl in
      let two = barrier_two (is_aside now) (Root number) None (Some a) in
      omega (arith, more, two)

  unname_adds : (name : List ℕ) (number : ℕ) (a : Addr) → work (without_name view name number a) ≤ work view + 6
  unname_adds name number a =
      let now = record view { roots = remove view.roots name } in
      let cs = barrier (is_aside now) (Root number) (Some a) None in
      let same = reshaped_news view now (Root number) (Some a) None (reshaped_itself view now refl refl refl refl refl refl refl) in
      let more = reshaped_adds view (without_name view name number a) cs law same refl in
      let two = barrier_two (is_aside now) (Root number) (Some a) None in
      omega (arith, more, two)

-- the registers of a client are emptied, one after the other
emptied_adds : (view : SpaceView) (client n : ℕ) → HeapLaw view → client < CLIENTS → n ≤ REGISTERS → HeapLaw (emptied view client n) × (work (emptied view client n) ≤ work view + 3 * n)
emptied_adds view client zero law few within = (law, omega arith)
emptied_adds view client (suc n) law few within =
    let before = emptied_adds view client n law few (omega (arith, within)) in
    let at : n < REGISTERS = omega (arith, within) in
    let more = spread_adds_three (emptied view client n) before.0 (Handle client n) in
    let was = before.1 in
    (spread_keeps_law (emptied view client n) (Handle client n) None before.0 (few, at) tt tt, omega (arith, more, was))

-- ---- a birth

-- the car in which an object fits is the tail of its train
pub tail_found : (view : SpaceView) (train room c : ℕ) → tail_for view train room ≡ Some c → tail view.trains.trains train ≡ Some c
tail_found view train room c is = by_tail (tail view.trains.trains train) is
  where
    by_room : (e : ℕ) (b : Bool) → (if b then Some e else None) ≡ Some c → e ≡ c
    by_room e true is = some_same e c is
    by_room e false is = absurd (none_some c is)

    by_car : (e : ℕ) (o : Option Car) → option_and_then (λ (car : Car). if has_room car room then Some e else None) o ≡ Some c → e ≡ c
    by_car e None is = absurd (none_some c is)
    by_car e (Some car) is = by_room e (has_room car room) is

    by_tail : (o : Option ℕ) → option_and_then (if_fits view room) o ≡ Some c → o ≡ Some c
    by_tail None is = is
    by_tail (Some e) is = ap Some (by_car e (get view.cars e) is)

module _ (view : SpaceView) (number : ℕ) (object : Object) (law : HeapLaw view) (vacant : get view.cars number ≡ None) where
  abbrev y : ℕ
  y = youngest view.trains.trains

  homeless : train_of view.trains.trains number ≡ None
  homeless = none_is (train_of view.trains.trains number) (law.built.linked number ∙ ap is_some vacant)

  -- the number of the new car is that of no car of a train
  pub other_number : (n e : ℕ) → train_of view.trains.trains e ≡ Some n → (number == e) ≡ false
  other_number n e home = false_from_ne_true (number == e) (λ same. none_some n (sym homeless ∙ ap (train_of view.trains.trains) (eqb-true number e same) ∙ home))

  -- and the tail of the open train is no car of the oldest
  pub other_tail : (n c e : ℕ) → IsOldest view.trains.trains n → tail view.trains.trains y ≡ Some c → train_of view.trains.trains e ≡ Some n → (c == e) ≡ false
  other_tail n c e old last home =
      false_from_ne_true (c == e) (λ same.
      let open_home = tail_home view.trains.trains y c law.built.trains.single last in
      let one : n ≡ y = some_same n y (sym home ∙ ap (train_of view.trains.trains) (sym (eqb-true c e same)) ∙ open_home) in
      both_ways (n == y) old.1 (one_is n y one))
    where
      one_is : (m n : ℕ) → m ≡ n → (m == n) ≡ true
      one_is m n is = eq-eqb m n is

  put_adds : (d : Option ℕ) → tail_for view y (object_room object) ≡ d → AddsQueued view (with_count (put_in view y d number object)) 0
  put_adds None is = record {
    phase = refl;
    cars = λ n old. cars_appended view.trains.trains y number n old.1;
    sum = λ n old. let most = no_less_items (queued t) (queued view) (cars_of view.trains.trains n) (λ e among. queue_most n e (among_home view.trains.trains n e law.built.trains.single among)) in omega (arith, most);
    queue = λ n e old home. let most = queue_most n e home in omega (arith, most);
    set = λ n e old home. let one : remembered t e ≡ remembered view e = ap (λ o. len (unwrap_or o empty)) (at_insert view.sets number empty e ∙ cond-false _ _ _ (other_number n e home)) in omega (arith, one);
    objects = λ n e old home. let one : objects_in t e ≡ objects_in view e = ap live_in (at_insert view.cars number (with_birth (new_car number) object) e ∙ cond-false _ _ _ (other_number n e home)) in omega (arith, one);
  }
    where
      t : SpaceView
      t = with_count (put_in view y None number object)

      queue_most : (n e : ℕ) → train_of view.trains.trains e ≡ Some n → queued t e ≤ queued view e
      queue_most n e home = let one : queued t e ≡ queued view e = ap (λ o. length (unwrap_or o [])) (at_insert view.queues number [] e ∙ cond-false _ _ _ (other_number n e home)) in omega (arith, one)
  put_adds (Some c) is = record {
    phase = refl;
    cars = λ n old. refl;
    sum = λ n old. omega arith;
    queue = λ n e old home. omega arith;
    set = λ n e old home. omega arith;
    objects = λ n e old home. by_car e (other_tail n c e old (tail_found view y (object_room object) c is) home) (get view.cars c);
  }
    where
      by_car : (e : ℕ) → (c == e) ≡ false → (o : Option Car) → live_in (get (put_car view.cars c o (λ it. with_birth it object)) e) ≤ live_in (get view.cars e)
      by_car e apart None = omega arith
      by_car e apart (Some car) = let one : live_in (get (insert view.cars c (with_birth car object)) e) ≡ live_in (get view.cars e) = ap live_in (at_insert view.cars c (with_birth car object) e ∙ cond-false _ _ _ apart) in omega (arith, one)

  born_in_adds : work (born_in view number object) ≤ work view
  born_in_adds =
      let d = tail_for view y (object_room object) in
      let more = adds_work view (with_count (put_in view y d number object)) 0 law (put_adds d refl) in
      omega (arith, more)

-- the open train has a car where objects were born in it
pub has_car : (view : SpaceView) → HeapLaw view → 0 < view.trains.births → HasCar view.trains.trains (youngest view.trains.trains)
has_car view law some = by_case (cars_at view.trains.trains (youngest view.trains.trains)) law.built.births
  where
    by_case : (o : Option (List ℕ)) → view.trains.births ≤ sum_by (standing_in view) (unwrap_or o []) → IsSomeAnd o (λ cars. 0 < length cars)
    by_case None few = let zero_sum : sum_by (standing_in view) [] ≡ 0 = refl in absurd (omega (arith, few, some, zero_sum))
    by_case (Some cars) few = some_item (standing_in view) cars (omega (arith, few, some))

-- a new open train
opening_adds : (view : SpaceView) (law : HeapLaw view) (has : HasCar view.trains.trains (youngest view.trains.trains)) → work (opened view law has) ≤ work view
opening_adds view law has = let more = adds_work view (opened view law has) 0 law now in omega (arith, more)
  where
    same : (n : ℕ) (o : Option (List ℕ)) → cars_at view.trains.trains n ≡ o → IsSomeAnd o (λ cars. 0 < length cars) → cars_at (rotated view.trains.trains) n ≡ cars_at view.trains.trains n
    same n None is some = absurd some
    same n (Some cars) is some = cars_at_rotated view.trains.trains law.built.trains.rising n cars is ∙ sym is

    now : AddsQueued view (opened view law has) 0
    now = record {
      phase = refl;
      cars = λ n old. same n (cars_at view.trains.trains n) refl (oldest_has 0 n view.trains.trains law.built.trains.rising old.0);
      sum = λ n old. omega arith;
      queue = λ n e old home. omega arith;
      set = λ n e old home. omega arith;
      objects = λ n e old home. omega arith;
    }

born_adds : (view : SpaceView) (number : ℕ) (object : Object) → HeapLaw view → get view.cars number ≡ None → work (born view number object) ≤ work view
born_adds view number object law vacant = by_births (nat_le 1024 view.trains.births) refl
  where
    by_births : (b : Bool) → nat_le 1024 view.trains.births ≡ b → work (born_in (if b then record view { trains = record { trains = rotated view.trains.trains; births = 0 } } else view) number object) ≤ work view
    by_births true full =
        let has = has_car view law (let many = leb-true 1024 view.trains.births full in omega (arith, many)) in
        let more = born_in_adds (opened view law has) number object (opening_keeps_law view law has) vacant in
        let before = opening_adds view law has in
        omega (arith, more, before)
    by_births false few = born_in_adds view number object law vacant

-- ---- every command

spent_adds : (view : SpaceView) → work (spent view) ≡ work view
spent_adds view = by_phase view.phase
  where
    by_phase : (p : Phase) → work_in (spent view) p ≡ work_in view p
    by_phase Idle = refl
    by_phase (Draining n) = refl
    by_phase (Moving car) = refl
    by_phase (Sweeping car) = refl
    by_phase (Doomed n) = refl

new_adds_six : (view : SpaceView) (client reg count number : ℕ) (bytes : List ℕ) → HeapLaw view → IsVacant view.cars number
    → (nat_lt FIELDS count || nat_lt OBJECT_BYTES (length bytes)) ≡ false → nat_lt LAST_ID view.next ≡ false → work (object_made view client reg count number bytes) ≤ work view + 6
new_adds_six view client reg count number bytes law vacant fits more =
    let both = or_parts (nat_lt FIELDS count) (nat_lt OBJECT_BYTES (length bytes)) fits in
    let room = ltb-false LAST_ID view.next more in
    let now = spent_law view law room in
    let object = fresh view count bytes in
    let gives = born_gives (spent view) number object now (may_be_born view law room count bytes (ltb-false FIELDS count both.0) (ltb-false OBJECT_BYTES (length bytes) both.1)) vacant in
    let same = spent_adds view in
    let birth = born_adds (spent view) number object now vacant.vacant in
    let six = spread_adds_six (born (spent view) number object) gives.law (Handle client reg) (Some (birthplace (spent view) number object)) in
    omega (arith, same, birth, six)

module _ (view : SpaceView) (law : HeapLaw view) (client : ℕ) (few : client < CLIENTS) where
  -- six for each, but for the one that empties all registers
  rows_add : (picks : Picks) → IsVacant view.cars picks.car → OfRows view (λ t. work t ≤ work view + 6) (Unit {0}) ⊥ client picks
  rows_add picks vacant = record {
    still = omega arith;
    spread = spread_adds_six view law;
    bytes = bytes_add view law;
    bound = name_adds view law;
    unbound = unname_adds view law;
    made = λ may reg count bytes. new_holds view (λ t. work t ≤ work view + 6) (omega arith) client reg count picks.car bytes (new_adds_six view client reg count picks.car bytes law vacant);
    emptied = λ none. absurd none;
  }

  six : (cmd : Cmd) (picks : Picks) → ArePicked view picks → is_close cmd ≡ false → work (row view client cmd picks).1 ≤ work view + 6
  six cmd picks picked other = row_holds view (λ t. work t ≤ work view + 6) (Unit {0}) ⊥ client picks (rows_add picks picked.car) cmd (λ new. tt) (λ close. true≢false (sym close ∙ other))

  pub command_adds : (cmd : Cmd) (picks : Picks) → ArePicked view picks → work (row view client cmd picks).1 ≤ work view + raises cmd
  command_adds Close picks picked = let all = (emptied_adds view client REGISTERS law few (omega arith)).1 in omega (arith, all)
  command_adds cmd picks picked = six cmd picks picked refl
