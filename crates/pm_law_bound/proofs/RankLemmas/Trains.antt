-- The first train, the rank by it, and how the trains change: one gains a car, one is opened, or the first car goes.
use Rattle.std.proofs.Common.{◌≡◌, ◌≤◌, ◌<◌, ◌+◌, ◌-◌, ℕ, ◌==◌, ◌&&◌, ◌↔◌, nat_le, nat_lt, Bool, true, false, cond, if◌then◌else◌, refl, ap, sym, subst, ◌∙◌, List, [], ◌∷◌, ◌++◌, length, drop, Option, Some, None, is_some, arith}
use Rattle.std.specs.Option.{IsSome}
use Rattle.std.proofs.lemmas.Bool.{eq-eqb, lt-ltb, le-leb, lt-leb, true≢false, cond-true, cond-false}
use Rattle.std.proofs.lemmas.Bool.Decides.{nat_tests}
use Rattle.pm_trains.specs.Trains.{Train, cars_at, is_among, train_of, oldest, empty_train, with_cars, appended, without_empty, without_first, rotated, youngest}
use Rattle.pm_trains.specs.Sound.{Rise, Filled}
use Rattle.pm_trains.proofs.Found.{stands_over}
use Rattle.pm_trains.proofs.Filling.{same_emptied}
use Rattle.pm_view.specs.View.{SpaceView}
use Rattle.pm_view.specs.Counts.{standing_of, old_in, old}
use Rattle.pm_view.specs.Law.{HeapLaw}
use Rattle.pm_law_course.proofs.Counting.{any_left}
use Rattle.pm_law_course.proofs.CountLemmas.Trains.{own_home}
use Rattle.pm_view.specs.Ranking.{content, way, place_of, up_to, value, rank_of, rank}

pub some_is : {A : Type 0} (o : Option A) → is_some o ≡ true → (x : A) × (o ≡ Some x)
some_is None some = absurd (true≢false (sym some))
some_is (Some x) some = (x, refl)

-- a list of trains with its first one
pub record IsHead (ts : List Train) : Type 0 where
  pub head : Train
  pub rest : List Train
  pub is : ts ≡ head ∷ rest

-- some train is the first
pub some_head : (ts : List Train) → 0 < length ts → IsHead ts
some_head [] some = absurd (omega arith)
some_head (t ∷ ts) some = record { head = t; rest = ts; is = refl }

-- the oldest train that has a car is the first
oldest_head : (old : ℕ) (t : Train) (ts : List Train) → Filled (t ∷ ts) → oldest (t ∷ ts) ≡ Some old → t.number ≡ old
oldest_head old t [] filled is = grind (arith, nat_tests)
oldest_head old t (u ∷ us) filled is = let has = filled.0 in grind (arith, nat_tests, has)

-- no train behind one that is over a number is up to it
pub none_up_to : (low n : ℕ) (ts : List Train) → Rise low ts → n ≤ low → up_to n ts ≡ []
none_up_to low n [] rising over = refl
none_up_to low n (t ∷ ts) rising over = cond-false _ _ _ (lt-leb t.number n (omega (arith, rising.0, over))) ∙ none_up_to t.number n ts rising.1 (omega (arith, rising.0, over))

pub none_old : (view : SpaceView) (low n : ℕ) (ts : List Train) → Rise low ts → n ≤ low → old_in view n ts ≡ 0
none_old view low n [] rising over = refl
none_old view low n (t ∷ ts) rising over = let rest = none_old view t.number n ts rising.1 (omega (arith, rising.0, over)) in grind (arith, nat_tests, rest)

-- behind the first train stands another one unless it is the open one
pub some_behind : (t : Train) (rest : List Train) → (t.number == youngest (t ∷ rest)) ≡ false → 0 < length rest
some_behind t [] other = grind (arith, nat_tests, other)
some_behind t (u ∷ rest) other = omega arith

module _ (view : SpaceView) (law : HeapLaw view) (at : IsHead view.trains.trains) where
  abbrev T : ℕ
  T = at.head.number

  pub rise : Rise 0 (at.head ∷ at.rest)
  rise = subst (Rise 0) at.is law.built.trains.rising

  -- the objects of the trains up to a number are its own, and those of the ones behind it
  pub head_old : (n : ℕ) → T ≤ n → old view n ≡ standing_of view at.head + old_in view n at.rest
  head_old n low = ap (old_in view n) at.is ∙ ap (λ m. m + old_in view n at.rest) (cond-true _ (standing_of view at.head) 0 (le-leb T n low))

  -- it and those behind it, where it is numbered up to a number, and none where it is over it
  pub head_up_to : (n : ℕ) → T ≤ n → up_to n view.trains.trains ≡ at.head ∷ up_to n at.rest
  head_up_to n low = ap (up_to n) at.is ∙ cond-true _ (at.head ∷ up_to n at.rest) (up_to n at.rest) (le-leb T n low)

  pub over_up_to : (n : ℕ) → n < T → up_to n view.trains.trains ≡ []
  over_up_to n over = ap (up_to n) at.is ∙ cond-false _ (at.head ∷ up_to n at.rest) (up_to n at.rest) (lt-leb T n over) ∙ none_up_to T n at.rest rise.1 (omega (arith, over))

  -- and so the rank
  pub rank_up : (n m : ℕ) → T ≤ n → rank view n m ≡ value m (length (up_to n at.rest)) (content view at.head) (way view at.head view.anchor)
  rank_up n m low = ap (rank_of view m) (head_up_to n low)

  pub rank_over : (n m : ℕ) → n < T → rank view n m ≡ 0
  rank_over n m over = ap (rank_of view m) (over_up_to n over)

  -- the oldest train that has a car is it
  pub oldest_first : (old : ℕ) → oldest view.trains.trains ≡ Some old → T ≡ old
  oldest_first old is = oldest_head old at.head at.rest (subst Filled at.is law.built.trains.filled) (ap oldest (sym at.is) ∙ is)

  pub head_cars : cars_at view.trains.trains T ≡ Some at.head.cars
  head_cars = ap (λ ts. cars_at ts T) at.is ∙ ap (λ b. if b then Some at.head.cars else cars_at at.rest T) (eq-eqb T T refl)

  -- a car is one of its cars just where it is its train
  pub own : (c : ℕ) → (is_among c at.head.cars ≡ true) ↔ (train_of view.trains.trains c ≡ Some T)
  own c = own_home T c at.head.cars view.trains.trains law.built.trains.rising (law.built.trains.single c) head_cars

  -- no train that stands has a lower number
  pub first_least : (g : ℕ) → IsSome (cars_at view.trains.trains g) → T ≤ g
  first_least g stands =
      let cars = some_is (cars_at view.trains.trains g) stands in
      let over = stands_over (T - 1) g cars.0 view.trains.trains (subst (Rise (T - 1)) (sym at.is) (omega (arith, rise.0), rise.1)) cars.1 in
      omega (arith, over)

-- ---- trains that gain a car or a train

-- the same train is the first, and no more are behind it up to a number that was given
pub record IsLike (ts us : List Train) (at : IsHead ts) : Type 0 where
  pub first : IsHead us
  pub number : first.head.number ≡ at.head.number
  pub few : (n : ℕ) → n ≤ youngest ts → length (up_to n first.rest) ≤ length (up_to n at.rest)

-- and no car of it changes its place
pub record Grows (ts us : List Train) (at : IsHead ts) : Type 0 where
  pub like : IsLike ts us at
  pub place : (car : ℕ) → is_among car at.head.cars ≡ true → (is_among car like.first.head.cars ≡ true) × (place_of car like.first.head.cars ≡ place_of car at.head.cars)

-- as many trains are up to a number where one has other cars
up_to_changed : (n m : ℕ) (change : List ℕ → List ℕ) (ts : List Train) → length (up_to n (with_cars m change ts)) ≡ length (up_to n ts)
up_to_changed n m change [] = refl
up_to_changed n m change (t ∷ ts) = let rest = up_to_changed n m change ts in grind (arith, nat_tests, rest)

-- and the same ones where one is added that is over it
up_to_pushed : (n m : ℕ) (ts : List Train) → n < m → up_to n (ts ++ empty_train m ∷ []) ≡ up_to n ts
up_to_pushed n m [] over = cond-false _ (empty_train m ∷ []) [] (lt-leb m n over)
up_to_pushed n m (t ∷ ts) over = ap (λ us. cond (nat_le t.number n) (t ∷ us) us) (up_to_pushed n m ts over)

-- a car keeps its place where others are put behind
place_behind : (car : ℕ) (cars more : List ℕ) → is_among car cars ≡ true → place_of car (cars ++ more) ≡ place_of car cars
place_behind car [] more among = absurd (true≢false (sym among))
place_behind car (c ∷ cars) more among = let rest = place_behind car cars more in grind (arith, nat_tests, rest, among)

module _ (ts : List Train) (at : IsHead ts) where
  abbrev pub grows_same : (us : List Train) → us ≡ ts → Grows ts us at
  grows_same us same = record {
    like = record { first = record { head = at.head; rest = at.rest; is = same ∙ at.is }; number = refl; few = λ n given. omega arith };
    place = λ car among. (among, refl);
  }

  pub grows_appended : (us : List Train) → Grows ts us at → (m car : ℕ) → Grows ts (appended m car us) at
  grows_appended us grows m car = by_number (first.head.number == m) (ap (with_cars m (λ cars. cars ++ car ∷ [])) first.is)
    where
      first : IsHead us
      first = grows.like.first

      by_number : (b : Bool) → appended m car us ≡ (if b then record first.head { cars = first.head.cars ++ car ∷ [] } ∷ first.rest else first.head ∷ appended m car first.rest) → Grows ts (appended m car us) at
      by_number true is = record {
        like = record { first = record { head = record first.head { cars = first.head.cars ++ car ∷ [] }; rest = first.rest; is = is }; number = grows.like.number; few = grows.like.few };
        place = λ c among.
            let was = grows.place c among in
            (any_left (λ x. x == c) first.head.cars (car ∷ []) was.0, place_behind c first.head.cars (car ∷ []) was.0 ∙ was.1);
      }
      by_number false is = record {
        like = record {
          first = record { head = first.head; rest = appended m car first.rest; is = is };
          number = grows.like.number;
          few = λ n given. let as_many = up_to_changed n m (λ cars. cars ++ car ∷ []) first.rest in let few = grows.like.few n given in omega (arith, as_many, few);
        };
        place = grows.place;
      }

  pub grows_rotated : Grows ts (rotated ts) at
  grows_rotated = record {
    like = record {
      first = record { head = at.head; rest = at.rest ++ empty_train (youngest ts + 1) ∷ []; is = ap (λ us. us ++ empty_train (youngest ts + 1) ∷ []) at.is };
      number = refl;
      few = λ n given. let as_many = ap (λ (us : List Train). length us) (up_to_pushed n (youngest ts + 1) at.rest (omega (arith, given))) in omega (arith, as_many);
    };
    place = λ car among. (among, refl);
  }

-- ---- the first car of the first train goes

module _ (ts : List Train) (at : IsHead ts) (filled : Filled ts) (other : (at.head.number == youngest ts) ≡ false) (car : ℕ) (rest : List ℕ) (cars : at.head.cars ≡ car ∷ rest) where
  abbrev kept : List ℕ → List Train → List Train
  kept cars behind = if nat_lt 0 (length at.rest) && (length cars == 0) then behind else record at.head { cars = cars } ∷ behind

  -- the train has the others, or goes with its last one
  pub freed : without_first at.head.number ts ≡ (if length rest == 0 then at.rest else record at.head { cars = rest } ∷ at.rest)
  freed =
      ap (without_first at.head.number) at.is
      ∙ ap (λ b. without_empty (if b then record at.head { cars = drop 1 at.head.cars } ∷ at.rest else at.head ∷ with_cars at.head.number (λ cars. drop 1 cars) at.rest)) (eq-eqb at.head.number at.head.number refl)
      ∙ ap (λ cars. kept (drop 1 cars) (without_empty at.rest)) cars
      ∙ ap (kept rest) (same_emptied at.rest (subst Filled at.is filled).1)
      ∙ ap (λ b. if b && (length rest == 0) then at.rest else record at.head { cars = rest } ∷ at.rest) (lt-ltb 0 (length at.rest) (some_behind at.head at.rest (subst (λ ts. (at.head.number == youngest ts) ≡ false) at.is other)))

  abbrev pub lighter_like : (us : List Train) → us ≡ record at.head { cars = rest } ∷ at.rest → IsLike ts us at
  lighter_like us is = record { first = record { head = record at.head { cars = rest }; rest = at.rest; is = is }; number = refl; few = λ n given. omega arith }
