-- How great the parts of the rank may be.
use Rattle.std.proofs.Common.{◌≡◌, ◌≤◌, ◌<◌, ◌+◌, ◌*◌, ℕ, ◌==◌, ⊎_elim, true, false, cond, refl, ap, sym, subst, ◌∙◌, List, [], ◌∷◌, length, Option, Some, None, is_some, arith}
use Rattle.std.specs.Option.{unwrap_or}
use Rattle.std.specs.List.{sum_by}
use Rattle.std.specs.FinMap.{get}
use Rattle.std.proofs.lemmas.Bool.{eq-eqb, true≢false, cases_lt, cond-false}
use Rattle.std.proofs.lemmas.Bool.Decides.{nat_tests}
use Rattle.std.proofs.lemmas.List.Sums.{sum_by-cons}
use Rattle.pm_types.specs.declared.address.Addr.{Addr}
use Rattle.pm_cars.specs.Cars.{Car, live_count}
use Rattle.pm_trains.specs.Trains.{is_among, train_of, youngest}
use Rattle.pm_trains.specs.Sound.{Filled, places}
use Rattle.pm_trains.proofs.Cars.{places_cons}
use Rattle.pm_trains.proofs.Found.{last_greatest}
use Rattle.pm_view.specs.declared.phase.Phase.{Phase}
use Rattle.pm_view.specs.declared.phase.Phase.TheVariants.{Idle, Draining, Moving, Sweeping, Doomed}
use Rattle.pm_view.specs.View.{SpaceView}
use Rattle.pm_view.specs.Reading.{object_at, cars_of, aside_in, from_in, is_from}
use Rattle.pm_view.specs.Counts.{live_in, standing_in, standing_of}
use Rattle.pm_view.specs.Law.{HeapLaw, IsPhaseOf}
use Rattle.pm_law_commands.proofs.RowLemmas.Places.{object_has_car}
use Rattle.pm_law_collect.proofs.PhasesLemmas.Small.{none_some, turned, or_left, or_right}
use Rattle.pm_view.specs.Ranking.{Fits, content, way, place_of, is_emptying, up_to, rank}
use Rattle.pm_law_bound.proofs.RankLemmas.Values.{below_next}
use Rattle.pm_law_bound.proofs.RankLemmas.Trains.{some_is, IsHead, some_head, some_behind, head_old, head_up_to, over_up_to, rank_up, rank_over, oldest_first, head_cars, own}

-- ---- lists of cars

some_place : (car : ℕ) (cars : List ℕ) → 1 ≤ place_of car cars
some_place car [] = omega arith
some_place car (c ∷ cs) = grind (arith, nat_tests)

place_most : (car : ℕ) (cars : List ℕ) → is_among car cars ≡ true → place_of car cars ≤ length cars
place_most car [] among = absurd (true≢false (sym among))
place_most car (c ∷ cs) among = let rest = place_most car cs in grind (arith, nat_tests, rest, among)

-- where each number of a list is 0 their sum is
pub no_sum : (f : ℕ → ℕ) (xs : List ℕ) → ((x : ℕ) → is_among x xs ≡ true → f x ≡ 0) → sum_by f xs ≡ 0
no_sum f [] none = refl
no_sum f (x ∷ xs) none =
    let here = none x (or_left (x == x) _ (eq-eqb x x refl)) in
    let rest = no_sum f xs (λ y there. none y (or_right (x == y) there)) in
    omega (arith, sum_by-cons f x xs, here, rest)

-- and where each has one in one of two sums they are no more than both
few_cars : (f g : ℕ → ℕ) (xs : List ℕ) → ((x : ℕ) → is_among x xs ≡ true → 1 ≤ f x + g x) → length xs ≤ sum_by f xs + sum_by g xs
few_cars f g [] each = omega arith
few_cars f g (x ∷ xs) each =
    let here = each x (or_left (x == x) _ (eq-eqb x x refl)) in
    let rest = few_cars f g xs (λ y there. each y (or_right (x == y) there)) in
    omega (arith, sum_by-cons f x xs, sum_by-cons g x xs, here, rest)

-- ---- the first train

-- no train is given up in this phase
abbrev pub IsSpared : Phase → Type 0
IsSpared p = (n : ℕ) → p ≡ Doomed n → ⊥

pub spared_still : (p : Phase) → is_emptying p ≡ false → IsSpared p
spared_still p still n is = true≢false (sym (ap is_emptying is) ∙ still)

module _ (view : SpaceView) (law : HeapLaw view) where
  -- the first train that stands
  abbrev pub first_train : IsHead view.trains.trains
  first_train = some_head view.trains.trains law.built.trains.standing

  module _ (at : IsHead view.trains.trains) where
    pub first_given : at.head.number ≤ youngest view.trains.trains
    first_given = last_greatest 0 at.head.number at.head.cars view.trains.trains law.built.trains.rising (head_cars view law at)

    -- an anchor's train is the first
    pub anchor_home : (a : Addr) (to : ℕ) → view.anchor ≡ Some (a, to) → train_of view.trains.trains a.car ≡ Some at.head.number
    anchor_home a to stands =
        let anchor = law.anchor a to stands in
        let object = some_is (object_at view.cars a) anchor.live in
        let home = some_is (train_of view.trains.trains a.car) (law.built.linked a.car ∙ object_has_car view.cars a object.0 object.1) in
        home.1 ∙ ap Some (sym (oldest_first view law at home.0 (sym anchor.old ∙ home.1)))

    -- an anchor's car is in it
    pub anchor_among : (a : Addr) (to : ℕ) → view.anchor ≡ Some (a, to) → is_among a.car at.head.cars ≡ true
    anchor_among a to stands = (own view law at a.car).1 (anchor_home a to stands)

    -- the first train has no more objects than fit
    pub content_few : (n m : ℕ) → Fits view n m → at.head.number ≤ n → content view at.head ≤ m
    content_few n m fits low = let old = head_old view law at n low in let few = fits.few in let given = fits.given in grind (arith, nat_tests, old, few, given)

    -- a car of it has an object that stands, or is the one that is emptied or swept
    one_stands : IsSpared view.phase → (c : ℕ) → is_among c at.head.cars ≡ true → 1 ≤ standing_in view c + cond (is_from view c) 1 0
    one_stands spared c here = let some = by_car (get view.cars c) refl (sym (law.built.linked c) ∙ ap is_some ((own view law at c).0 here)) in grind (arith, nat_tests, some)
      where
        aside : (p : Phase) → IsSpared p → from_in p c ≡ false → aside_in p view.trains.trains c ≡ false
        aside Idle spared from = refl
        aside (Draining n) spared from = refl
        aside (Moving car) spared from = refl
        aside (Sweeping car) spared from = from
        aside (Doomed n) spared from = absurd (spared n refl)

        by_car : (o : Option Car) → get view.cars c ≡ o → is_some o ≡ true → is_from view c ≡ false → 1 ≤ standing_in view c
        by_car None is some from = absurd (true≢false (sym some))
        by_car (Some car) is some from =
            let free = aside view.phase spared from in
            let one : standing_in view c ≡ live_count car = cond-false _ _ _ free ∙ ap live_in is in
            omega (arith, (law.built.cars c car is).live from free, one)

    once : (car : ℕ) → sum_by (λ c. cond (car == c) 1 0) at.head.cars ≤ 1
    once car =
        let all : places car view.trains.trains ≡ places car (at.head ∷ at.rest) = ap (places car) at.is in
        let here = places_cons car at.head at.rest in
        let same : sum_by (λ c. cond (car == c) 1 0) at.head.cars ≡ sum_by (λ c. cond (c == car) 1 0) at.head.cars = (λ i. sum_by (λ c. cond (turned car c i) 1 0) at.head.cars) in
        omega (arith, law.built.trains.single car, all, here, same)

    -- that is one car, and none where no car is emptied or swept
    one_from : (p : Phase) → sum_by (λ c. cond (from_in p c) 1 0) at.head.cars ≤ cond (is_emptying p) 1 0
    one_from Idle = let none = no_sum (λ c. 0) at.head.cars (λ c here. refl) in omega (arith, none)
    one_from (Draining n) = let none = no_sum (λ c. 0) at.head.cars (λ c here. refl) in omega (arith, none)
    one_from (Doomed n) = let none = no_sum (λ c. 0) at.head.cars (λ c here. refl) in omega (arith, none)
    one_from (Moving car) = once car
    one_from (Sweeping car) = once car

    -- so a car's place is at most its objects, or one more while a car of it goes
    pub cars_few : IsSpared view.phase → length at.head.cars ≤ standing_of view at.head + cond (is_emptying view.phase) 1 0
    cars_few spared = let few = few_cars (standing_in view) (λ c. cond (is_from view c) 1 0) at.head.cars (one_stands spared) in let one = one_from view.phase in omega (arith, few, one)

    pub place_few : IsSpared view.phase → (c : ℕ) → is_among c at.head.cars ≡ true → place_of c at.head.cars ≤ standing_of view at.head + cond (is_emptying view.phase) 1 0
    place_few spared c here = let most = place_most c at.head.cars here in let few = cars_few spared in omega (arith, most, few)

    -- the way is at most one more than the objects
    pub way_few : way view at.head view.anchor ≤ content view at.head + 1
    way_few = by_anchor view.anchor refl
      where
        spared : (a : Addr) (to : ℕ) → view.anchor ≡ Some (a, to) → IsSpared view.phase
        spared a to stands n is = none_some {A = Addr × ℕ} (a, to) (sym (subst (λ p. IsPhaseOf p view.trains.trains view.anchor) is law.phase).1 ∙ stands)

        by_anchor : (o : Option (Addr × ℕ)) → view.anchor ≡ o → way view at.head o ≤ content view at.head + 1
        by_anchor None is = grind (arith, nat_tests)
        by_anchor (Some anchor) is =
            let place = place_few (spared anchor.0 anchor.1 is) anchor.0.car (anchor_among anchor.0 anchor.1 is) in
            grind (arith, nat_tests, place)

    -- where no car is emptied or set aside the first train has an object, or still takes a birth
    pub content_some : is_emptying view.phase ≡ false → 1 ≤ content view at.head
    content_some still =
        let births : at.head.number ≡ youngest view.trains.trains → view.trains.births ≤ standing_of view at.head =
        λ same. subst (λ cars. view.trains.births ≤ sum_by (standing_in view) cars) (ap (cars_of view.trains.trains) (sym same) ∙ ap (λ o. unwrap_or o []) (head_cars view law at)) law.built.births in
        let some : (at.head.number == youngest view.trains.trains) ≡ false → 0 < length at.head.cars =
        λ other. (subst Filled at.is law.built.trains.filled).0 (some_behind at.head at.rest (subst (λ ts. (at.head.number == youngest ts) ≡ false) at.is other)) in
        let few = cars_few (spared_still view.phase still) in
        grind (arith, nat_tests, still, births, some, few)

    -- so a car goes until one leaves it
    pub way_some : 1 ≤ way view at.head view.anchor
    way_some = by_anchor view.anchor
      where
        by_anchor : (o : Option (Addr × ℕ)) → 1 ≤ way view at.head o
        by_anchor (Some anchor) = some_place anchor.0.car at.head.cars
        by_anchor None = let some = content_some in grind (arith, nat_tests, some)

  -- the rank is below the bound of as many trains and objects
  pub rank_below : (n m : ℕ) → Fits view n m → 0 < length (up_to n view.trains.trains) → rank view n m < length (up_to n view.trains.trains) * ((m + 2) * (m + 2))
  rank_below n m fits some =
      ⊎_elim
      (λ over. absurd (let none = ap length (over_up_to view law first_train n over) in omega (arith, none, some)))
      (λ low.
      let few = content_few first_train n m fits low in
      let below = below_next m (length (up_to n first_train.rest)) (content view first_train.head) (way view first_train.head view.anchor) few (omega (arith, few, way_few first_train)) in
      subst (λ ts. rank view n m < length ts * ((m + 2) * (m + 2))) (sym (head_up_to view law first_train n low)) (omega (arith, below, rank_up view law first_train n m low)))
      (cases_lt n first_train.head.number)

  -- so it is never over it
  pub rank_most : (n m : ℕ) → Fits view n m → rank view n m ≤ length (up_to n view.trains.trains) * ((m + 2) * (m + 2))
  rank_most n m fits =
      ⊎_elim
      (λ over. let none = rank_over view law first_train n m over in omega (arith, none))
      (λ low. let below = rank_below n m fits (let long = ap length (head_up_to view law first_train n low) in omega (arith, long)) in omega (arith, below))
      (cases_lt n first_train.head.number)

  -- and it is 0 just where no train is up to the number
  pub none_left : (n m : ℕ) → rank view n m ≡ 0 → up_to n view.trains.trains ≡ []
  none_left n m none =
      ⊎_elim
      (λ over. over_up_to view law first_train n over)
      (λ low. let up = rank_up view law first_train n m low in let some = way_some first_train in absurd (omega (arith, none, up, some)))
      (cases_lt n first_train.head.number)
