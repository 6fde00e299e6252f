-- How many identities and how many trains there are, by the objects that stand.
use Rattle.std.proofs.Common.{◌≡◌, ◌≤◌, ◌<◌, ◌+◌, ℕ, zero, suc, ◌==◌, ◌||◌, nat_eq, Bool, true, false, cond, if◌then◌else◌, refl, ap, sym, subst, ◌∙◌, List, [], ◌∷◌, length, Option, Some, None, is_some, arith}
use Rattle.std.specs.Option.{option_map}
use Rattle.std.specs.List.{IsDistinct, list_any, sum_by}
use Rattle.std.specs.FinMap.{get}
use Rattle.std.proofs.lemmas.Bool.{eqb-true, eq-eqb, true≢false, false_from_ne_true, cond-false}
use Rattle.std.proofs.lemmas.Bool.Decides.{nat_tests}
use Rattle.std.proofs.lemmas.List.Sums.{sum_by-cons}
use Rattle.std.proofs.lemmas.Map.Steps.{length-le_from_distinct_below}
use Rattle.pm_types.specs.declared.address.Addr.{Addr}
use Rattle.pm_types.specs.declared.object.Object.{Object}
use Rattle.pm_cars.specs.Cars.{Car}
use Rattle.pm_trains.specs.Trains.{Train, is_among, train_of, oldest}
use Rattle.pm_trains.specs.Sound.{Rise, Filled, places, all_cars}
use Rattle.pm_trains.proofs.Cars.{places_cons, not_among, lost}
use Rattle.pm_view.specs.declared.phase.Phase.{Phase}
use Rattle.pm_view.specs.declared.phase.Phase.TheVariants.{Idle, Draining, Moving, Sweeping, Doomed}
use Rattle.pm_view.specs.View.{SpaceView}
use Rattle.pm_view.specs.Reading.{is_aside, aside_in, from_in, cars_of, object_at}
use Rattle.pm_view.specs.Counts.{live_in, standing_in, standing_of, standing, IsStandingAt}
use Rattle.pm_view.specs.Law.{HeapLaw, IsFront, IsPhaseOf}
use Rattle.pm_law_commands.proofs.RowLemmas.OpenTrain.{among_home, first_home}
use Rattle.pm_law_collect.proofs.PhasesLemmas.Fronts.{front_of}
use Rattle.pm_law_collect.proofs.PhasesLemmas.Small.{some_same, none_some, or_left}
use Rattle.pm_law_course.proofs.Counting.{of_cars, as_many_cars}
use Rattle.pm_law_course.proofs.CountLemmas.Once.{one_more_once, times}
use Rattle.pm_law_course.proofs.CountLemmas.Identities.{all_once, stands_among}
use Rattle.pm_law_course.proofs.CountLemmas.Trains.{all_counted, every_once, home_over}

-- a number that is not 0, by the test and by the order
over_zero : (n : ℕ) → (n == 0) ≡ false → 0 < n
over_zero n apart = grind (arith, nat_tests)

no_zero : (n : ℕ) → 0 < n → (n == 0) ≡ false
no_zero n over = grind (arith, nat_tests)

-- one train more, which has an object where another is behind it
one_behind : (behind own others : ℕ) → (0 < behind → 0 < own) → behind ≤ others + 1 → behind + 1 ≤ own + others + 1
one_behind zero own others some few = omega arith
one_behind (suc n) own others some few = let one = some (omega arith) in omega (arith, one, few)

module _ (view : SpaceView) (law : HeapLaw view) where
  abbrev ts : List Train
  ts = view.trains.trains

  -- ---- identities

  -- an identity that stands was given
  given : (q : ℕ) (a : Addr) → IsStandingAt view q a → (0 < q) × (q < view.next)
  given q a stands = by_object (object_at view.cars a) refl stands.here
    where
      by_object : (o : Option Object) → object_at view.cars a ≡ o → option_map (λ (o : Object). o.id) o ≡ Some q → (0 < q) × (q < view.next)
      by_object None at is = absurd (none_some q is)
      by_object (Some object) at is =
          let known = law.built.objects a object at in
          let same = some_same object.id q is in
          (subst (λ q. 0 < q) same known.first, subst (λ q. q < view.next) same known.given)

  pub fewer_than_given : standing view < view.next
  fewer_than_given =
      let ids = of_cars view (all_cars ts) in
      let none : list_any (nat_eq 0) ids ≡ true → ⊥ = λ is. let there = stands_among view law (all_cars ts) 0 is in let over = (given 0 there.0 there.1.0).0 in omega (arith, over) in
      let once : IsDistinct nat_eq (0 ∷ ids) = one_more_once 0 ids none (all_once view law (all_cars ts) (every_once ts law.built.trains.single)) in
      let most = length-le_from_distinct_below (0 ∷ ids) view.next once (λ q is. below q (nat_eq q 0) refl is) in
      let many = as_many_cars view (all_cars ts) in
      let all = all_counted view ts in
      omega (arith, most, many, all)
    where
      below : (q : ℕ) (b : Bool) → nat_eq q 0 ≡ b → (b || list_any (nat_eq q) (of_cars view (all_cars ts))) ≡ true → q < view.next
      below q true same is = let zero' = eqb-true q 0 same in let one = law.built.next.0 in omega (arith, zero', one)
      below q false apart is = let there = stands_among view law (all_cars ts) q is in (given q there.0 there.1.0).1

  -- ---- trains

  -- a car that is set aside or the from-car is in the oldest train that has a car
  module _ (c m : ℕ) (home : train_of ts c ≡ Some m) (other : oldest ts ≡ Some m → ⊥) where
    not_front : (f : ℕ) → IsFront ts f → (f == c) ≡ false
    not_front f front =
        let at = front_of ts f front in
        false_from_ne_true (f == c) (λ same.
        let there : Some at.train ≡ Some m = sym (first_home ts at.train f law.built.trains.single at.first) ∙ ap (train_of ts) (eqb-true f c same) ∙ home in
        other (at.old.0 ∙ there))

    free : (p : Phase) (anchor : Option (Addr × ℕ)) → IsPhaseOf p ts anchor → aside_in p ts c ≡ false
    free Idle anchor at = refl
    free (Draining n) anchor at = refl
    free (Moving f) anchor at = refl
    free (Sweeping f) anchor at = not_front f at
    free (Doomed n) anchor at = false_from_ne_true (is_among c (cars_of ts n)) (λ among. other (at.0.0 ∙ sym (among_home ts n c law.built.trains.single among) ∙ home))

    not_from : (p : Phase) (anchor : Option (Addr × ℕ)) → IsPhaseOf p ts anchor → from_in p c ≡ false
    not_from Idle anchor at = refl
    not_from (Draining n) anchor at = refl
    not_from (Moving f) anchor at = not_front f at
    not_from (Sweeping f) anchor at = not_front f at
    not_from (Doomed n) anchor at = refl

    -- so a car of any other train has an object that stands
    stands_elsewhere : 0 < standing_in view c
    stands_elsewhere = by_car (get view.cars c) refl (ap is_some (sym home) ∙ law.built.linked c)
      where
        kept : is_aside view c ≡ false
        kept = free view.phase view.anchor law.phase

        by_car : (o : Option Car) → get view.cars c ≡ o → true ≡ is_some o → 0 < standing_in view c
        by_car None at some = absurd (true≢false some)
        by_car (Some car) at some =
            let live = (law.built.cars c car at).live (not_from view.phase view.anchor law.phase) kept in
            subst (λ n. 0 < n) (sym (λ i. cond (kept i) 0 (live_in (at i)))) live

  -- the first train is the oldest where another one has a car, so each car of another has an object that stands
  module _ (t : Train) (us : List Train) (is : ts ≡ t ∷ us) (rising : Rise 0 (t ∷ us)) (filled : Filled (t ∷ us)) (single : (q : ℕ) → places q (t ∷ us) ≤ 1) where
    module _ (c m : ℕ) (home : train_of us c ≡ Some m) where
      not_first : (b : Bool) → is_among c t.cars ≡ b → (if b then Some t.number else train_of us c) ≡ Some m
      not_first false other = home
      not_first true here = by_times (times c t.cars == 0) refl
        where
          by_times : (z : Bool) → (times c t.cars == 0) ≡ z → Some t.number ≡ Some m
          by_times true none = absurd (true≢false (sym here ∙ not_among c t.cars (eqb-true (times c t.cars) 0 none)))
          by_times false over =
              let sum = places_cons c t us in
              let one = single c in
              let once : 0 < times c t.cars = over_zero (times c t.cars) over in
              absurd (none_some m (sym (lost c us (omega (arith, sum, one, once))) ∙ home))

      some_train : (us : List Train) → train_of us c ≡ Some m → 0 < length us
      some_train [] home = absurd (none_some m home)
      some_train (u ∷ us) home = omega arith

      not_oldest : oldest ts ≡ Some m → ⊥
      not_oldest old =
          let has = filled.0 (some_train us home) in
          let same : Some t.number ≡ Some m = sym (ap oldest is ∙ cond-false _ _ _ (no_zero (length t.cars) has)) ∙ old in
          let equal = some_same t.number m same in
          let over = home_over t.number c m us rising.1 home in
          omega (arith, equal, over)

      stands_behind : 0 < standing_in view c
      stands_behind = stands_elsewhere c m (ap (λ xs. train_of xs c) is ∙ not_first (is_among c t.cars) refl) not_oldest

    in_others : (c : ℕ) → is_some (train_of us c) ≡ true → 0 < standing_in view c
    in_others c some = by_home (train_of us c) refl some
      where
        by_home : (o : Option ℕ) → train_of us c ≡ o → is_some o ≡ true → 0 < standing_in view c
        by_home None home some = absurd (true≢false (sym some))
        by_home (Some m) home some = stands_behind c m home

  -- an object stands in a train that has a car, where one does in each of its cars
  one_stands : (cars : List ℕ) → 0 < length cars → ((c : ℕ) → is_among c cars ≡ true → 0 < standing_in view c) → 0 < sum_by (standing_in view) cars
  one_stands [] some each = absurd (omega (arith, some))
  one_stands (c ∷ cars) some each =
      let sum = sum_by-cons (standing_in view) c cars in
      let one = each c (or_left (c == c) _ (eq-eqb c c refl)) in
      omega (arith, sum, one)

  few_others : (us : List Train) → Filled us → ((c : ℕ) → is_some (train_of us c) ≡ true → 0 < standing_in view c) → length us ≤ sum_by (standing_of view) us + 1
  few_others [] filled each = omega arith
  few_others (u ∷ us) filled each =
      let sum = sum_by-cons (standing_of view) u us in
      let rest = few_others us filled.1 (λ c some. each c (later c (is_among c u.cars) some)) in
      let own : 0 < length us → 0 < standing_of view u = λ more. one_stands u.cars (filled.0 more) (λ c among. each c (ap (λ b. is_some (if b then Some u.number else train_of us c)) among)) in
      let counted = one_behind (length us) (standing_of view u) (sum_by (standing_of view) us) own rest in
      omega (arith, sum, counted)
    where
      later : (c : ℕ) (b : Bool) → is_some (train_of us c) ≡ true → is_some (if b then Some u.number else train_of us c) ≡ true
      later c true some = refl
      later c false some = some

  pub few_trains : length ts ≤ standing view + 2
  few_trains = by_trains ts refl law.built.trains.rising law.built.trains.filled law.built.trains.single
    where
      by_trains : (trains : List Train) → ts ≡ trains → Rise 0 trains → Filled trains → ((q : ℕ) → places q trains ≤ 1) → length trains ≤ sum_by (standing_of view) trains + 2
      by_trains [] is rising filled single = omega arith
      by_trains (t ∷ us) is rising filled single =
          let sum = sum_by-cons (standing_of view) t us in
          let rest = few_others us filled.1 (in_others t us is rising filled single) in
          omega (arith, sum, rest)
