-- Sweeping an object, and freeing a car of a doomed train that keeps another, lower the work that is left.
use Rattle.std.proofs.Common.{◌≡◌, ⊎_elim, ℕ, ◌+◌, ◌≤◌, ◌==◌, if◌then◌else◌, Bool, true, false, cond, refl, ap, sym, subst, ◌∙◌, List, [], ◌∷◌, length, Option, Some, None, arith}
use Rattle.std.specs.Option.{unwrap_or}
use Rattle.std.specs.FinMap.{get}
use Rattle.std.proofs.lemmas.Bool.{eqb-true, eq-eqb, cond-true, true≢false}
use Rattle.std.proofs.lemmas.List.Sums.{sum_by-cons}
use Rattle.pm_types.specs.declared.address.Addr.{Addr}
use Rattle.pm_types.specs.declared.object.Object.{Object}
use Rattle.pm_types.specs.declared.object.Slot.{Slot}
use Rattle.pm_types.specs.declared.object.Slot.TheVariants.{Live}
use Rattle.pm_cars.specs.Cars.{one_live, live_count, object_of, without_slot}
use Rattle.pm_cars.proofs.Rooms.{total_remove, counted}
use Rattle.pm_trains.specs.Trains.{cars_at, is_among}
use Rattle.pm_view.specs.declared.phase.Phase.TheVariants.{Sweeping, Doomed}
use Rattle.pm_view.specs.View.{SpaceView}
use Rattle.pm_view.specs.Reading.{object_at, cars_of}
use Rattle.pm_view.specs.Counts.{live_in}
use Rattle.pm_view.specs.Law.{IsPhaseOf, IsOldest, HeapLaw}
use Rattle.pm_view.specs.Rows.{put_car}
use Rattle.pm_view.specs.Collecting.{swept_some, swept, without_car, completing, freed_of_train}
use Rattle.pm_view.specs.Work.{objects_in, dooming, work_in, work}
use Rattle.pm_law_commands.proofs.RowLemmas.News.{at_insert}
use Rattle.pm_law_commands.proofs.RowLemmas.Places.{slot_of}
use Rattle.pm_law_commands.proofs.RowLemmas.Sums.{no_less, grown}
use Rattle.pm_law_collect.proofs.PhasesLemmas.Small.{some_same, none_some}
use Rattle.pm_law_collect.proofs.PhasesLemmas.Comes.{IsSweeping, IsFirstDoomed, IsFreeingDoomed}
use Rattle.pm_law_collect.proofs.PhasesLemmas.FirstGone.{own_less}
use Rattle.pm_law_collect.proofs.PhasesLemmas.Fronts.{at_remove, first_among, first_cars}
use Rattle.pm_law_collect.proofs.PhasesLemmas.Lowest.{IsLive, lowest_is}

-- ---- an object is swept

counted_live : (o : Option Slot) (object : Object) → o ≡ Some (Live object) → counted one_live o ≡ 1
counted_live None object is = absurd (none_some (Live object) is)
counted_live (Some w) object is = ap one_live (some_same w (Live object) is)

module _ (view : SpaceView) (a : Addr) (is : IsSweeping view a) where
  live : IsLive view a
  live = lowest_is view a is.low

  abbrev t : SpaceView
  t = swept_some view a (Some live.object)

  here : object_at view.cars a ≡ Some live.object
  here = ap (λ o. object_of (slot_of o a.slot)) live.stands ∙ ap object_of live.there

  cars_then : (e : ℕ) → get t.cars e ≡ cond (a.car == e) (Some (without_slot live.car a.slot)) (get view.cars e)
  cars_then e = ap (λ o. get (put_car view.cars a.car o (λ car. without_slot car a.slot)) e) live.stands ∙ at_insert view.cars a.car (without_slot live.car a.slot) e

  fewer_here : objects_in t a.car + 1 ≡ objects_in view a.car
  fewer_here =
      let sums = total_remove one_live live.car.slots a.slot in
      let one = counted_live (get live.car.slots a.slot) live.object live.there in
      let now : objects_in t a.car ≡ live_count (without_slot live.car a.slot) = ap live_in (cars_then a.car ∙ cond-true _ _ _ (eq-eqb a.car a.car refl)) in
      let was : objects_in view a.car ≡ live_count live.car = ap live_in live.stands in
      omega (arith, sums, one, now, was)

  no_more : (e : ℕ) → objects_in t e ≤ objects_in view e
  no_more e = by_case (a.car == e) refl
    where
      by_case : (b : Bool) → (a.car == e) ≡ b → objects_in t e ≤ objects_in view e
      by_case true same = subst (λ e. objects_in t e ≤ objects_in view e) (eqb-true a.car e same) (let less = fewer_here in omega (arith, less))
      by_case false same = let still = ap live_in (cars_then e ∙ ap (λ b. cond b (Some (without_slot live.car a.slot)) (get view.cars e)) same) in omega (arith, still)

  in_car : work_in t (Sweeping a.car) + 1 ≤ work_in view (Sweeping a.car)
  in_car = let less = fewer_here in omega (arith, less)

  in_train : (train : ℕ) → is_among a.car (cars_of view.trains.trains train) ≡ true → work_in t (Doomed train) + 1 ≤ work_in view (Doomed train)
  in_train train among = let less = grown (objects_in t) (objects_in view) a.car (cars_of view.trains.trains train) no_more (let less = fewer_here in omega (arith, less)) among in omega (arith, less)

  pub swept_lowers : work (swept view a) + 1 ≤ work view
  swept_lowers =
      subst (λ o. work (swept_some view a o) + 1 ≤ work view) (sym here)
      (⊎_elim
      (λ (at : view.phase ≡ Sweeping a.car). subst (λ p. work_in t p + 1 ≤ work_in view p) (sym at) in_car)
      (λ (at : (train : ℕ) × IsFirstDoomed view train a.car). subst (λ p. work_in t p + 1 ≤ work_in view p) (sym at.1.doomed) (in_train at.0 (first_among (cars_at view.trains.trains at.0) a.car at.1.first)))
      is.swept)

-- ---- a car of a doomed train goes

module _ (view : SpaceView) (T car : ℕ) (law : HeapLaw view) (is : IsFreeingDoomed view T car) (rest : List ℕ) (cars : cars_at view.trains.trains T ≡ Some (car ∷ rest)) where
  abbrev less : SpaceView
  less = without_car view T car

  old : IsOldest view.trains.trains T
  old = (subst (λ p. IsPhaseOf p view.trains.trains view.anchor) is.doomed.doomed law.phase).0

  fewer : (e : ℕ) → objects_in less e ≤ objects_in view e
  fewer e = subst (λ o. live_in o ≤ objects_in view e) (sym (at_remove view.cars car e)) (by_case (car == e))
    where
      by_case : (b : Bool) → live_in (cond b None (get view.cars e)) ≤ objects_in view e
      by_case true = omega arith
      by_case false = omega arith

  train_less : work_in less (Doomed T) + 1 ≤ work_in view (Doomed T)
  train_less =
      let sums = no_less (objects_in less) (objects_in view) rest fewer in
      let head = sum_by-cons (objects_in view) car rest in
      let now : work_in less (Doomed T) ≡ dooming less rest = ap (dooming less) (own_less view.trains.trains T car rest law.built.trains.rising law.built.trains.filled law.built.trains.single old cars) in
      let was : work_in view (Doomed T) ≡ dooming view (car ∷ rest) = ap (λ o. dooming view (unwrap_or o [])) cars in
      let longer : length (car ∷ rest) ≡ length rest + 1 = omega arith in
      omega (arith, sums, head, now, was, longer)

  by_rest : (b : Bool) → b ≡ false → work (if b then completing less else less) + 1 ≤ work view
  by_rest true goes = absurd (true≢false goes)
  by_rest false goes = subst (λ p. work_in less p + 1 ≤ work_in view p) (sym is.doomed.doomed) train_less

  last_lowers : (length (cars_of view.trains.trains T) == 1) ≡ false → work (freed_of_train view T car) + 1 ≤ work view
  last_lowers goes = by_rest (length (cars_of view.trains.trains T) == 1) goes

pub freed_lowers : (view : SpaceView) (T car : ℕ) → HeapLaw view → IsFreeingDoomed view T car → (length (cars_of view.trains.trains T) == 1) ≡ false → work (freed_of_train view T car) + 1 ≤ work view
freed_lowers view T car law is goes = let cars = first_cars (cars_at view.trains.trains T) car is.doomed.first in last_lowers view T car law is cars.0 cars.1 goes
