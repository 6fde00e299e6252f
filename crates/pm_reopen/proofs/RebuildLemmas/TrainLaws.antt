-- The trains once all cars are in.
use Rattle.std.proofs.Common.{◌≡◌, ℕ, suc, ◌+◌, ◌<◌, ◌≤◌, ◌==◌, Bool, true, false, List, [], ◌∷◌, ◌++◌, length, Option, Some, None, IsSome, IsSomeAnd, is_some, refl, sym, ap, subst, ◌∙◌, arith, drop, map, append_assoc, if◌then◌else◌}
use Rattle.std.proofs.Math.ListN.{drop_of_length-le}
use Rattle.std.specs.List.{AllByRecursion}
use Rattle.std.specs.Option.{option_map}
use Rattle.std.proofs.lemmas.List.{length-append}
use Rattle.pm_trains.proofs.Cars.{home_kept, home_rotated}
use Rattle.pm_trains.proofs.Found.{cars_changed, last_changed, last_pushed}
use Rattle.std.proofs.lemmas.Bool.{eqb-true}
use Rattle.pm_trains.specs.Trains.{Train, Trains, cars_at, HasCar, train_of, youngest, last_number, appended, rotated, first_trains, empty_train}
use Rattle.pm_trains.specs.Changes.{opened}
use Rattle.pm_trains.proofs.Order.{differ, agree}
use Rattle.pm_copies.specs.Opened.{before, grouped, numbered}
use Rattle.pm_law_copies.proofs.Lists.{all_append, all_mapped}
use Rattle.pm_cars.specs.Cars.{CarAndSpare}
use Rattle.pm_copies.specs.Built.{Placed, place_of, CarsDiffer}
use Rattle.pm_reopen.specs.Rebuild.Lists.{placed_of}
use Rattle.pm_reopen.specs.Rebuild.Trains.{goes_on, with_kept, closed, with_all_kept, HaveOwnNumbers, AreNew}

-- ---- the trains of a list of cars, seen from a train that stands before them

-- these cars of this train, before the first train of these: in it, where it is that train
abbrev joined : ℕ → List ℕ → List Train → List Train
joined train cs [] = record { number = train; cars = cs } ∷ []
joined train cs (t ∷ ts) = if t.number == train then record { number = t.number; cars = cs ++ t.cars } ∷ ts else record { number = train; cars = cs } ∷ t ∷ ts

one_joined : (train car : ℕ) (ts : List Train) → joined train (car ∷ []) ts ≡ before train car ts
one_joined train car [] = refl
one_joined train car (t ∷ ts) = elim (t.number == train) as (λ b. (if b then record { number = t.number; cars = car ∷ t.cars } ∷ ts else record { number = train; cars = car ∷ [] } ∷ t ∷ ts) ≡ (if b then record t { cars = car ∷ t.cars } ∷ ts else record { number = train; cars = car ∷ [] } ∷ t ∷ ts)) [ true ↦ refl | false ↦ refl ]

itself : (n : ℕ) → (n == n) ≡ true
itself n = agree n n refl

chosen : {X : Type 0} (b : Bool) (x y : X) → b ≡ true → (if b then x else y) ≡ x
chosen true x y is = refl
chosen false x y is = cc

passed : {X : Type 0} (b : Bool) (x y : X) → b ≡ false → (if b then x else y) ≡ y
passed true x y is = cc
passed false x y is = refl

more_joined : (train car : ℕ) (cs : List ℕ) (ts : List Train) → joined train cs (before train car ts) ≡ joined train (cs ++ car ∷ []) ts
more_joined train car cs [] = chosen (train == train) _ _ (itself train)
more_joined train car cs (t ∷ ts) = elim (t.number == train) as (λ b. (t.number == train) ≡ b → joined train cs (if b then record t { cars = car ∷ t.cars } ∷ ts else record { number = train; cars = car ∷ [] } ∷ t ∷ ts) ≡ (if b then record { number = t.number; cars = (cs ++ car ∷ []) ++ t.cars } ∷ ts else record { number = train; cars = cs ++ car ∷ [] } ∷ t ∷ ts)) [
  | true ↦ λ is. chosen (t.number == train) _ _ is ∙ ap (λ cars. record { number = t.number; cars = cars } ∷ ts) (sym (append_assoc cs (car ∷ []) t.cars))
  | false ↦ λ is. chosen (train == train) _ _ (itself train)
] refl

apart_joined : (train other car : ℕ) (cs : List ℕ) (ts : List Train) → (train == other) ≡ false → joined train cs (before other car ts) ≡ record { number = train; cars = cs } ∷ before other car ts
apart_joined train other car cs [] apart = passed (other == train) _ _ (turned train other apart)
  where
    turned : (m n : ℕ) → (m == n) ≡ false → (n == m) ≡ false
    turned m n is = differ n m (λ same. let clash : true ≡ false = sym (agree m n (sym same)) ∙ is in cc)
apart_joined train other car cs (t ∷ ts) apart = elim (t.number == other) as (λ b. (t.number == other) ≡ b → joined train cs (if b then record t { cars = car ∷ t.cars } ∷ ts else record { number = other; cars = car ∷ [] } ∷ t ∷ ts) ≡ record { number = train; cars = cs } ∷ (if b then record t { cars = car ∷ t.cars } ∷ ts else record { number = other; cars = car ∷ [] } ∷ t ∷ ts)) [
  | true ↦ λ is. passed (t.number == train) _ _ (differ t.number train (λ same. let clash : true ≡ false = sym (agree train other (sym same ∙ eqb-true t.number other is)) ∙ apart in cc))
  | false ↦ λ is. passed (other == train) _ _ (differ other train (λ same. let clash : true ≡ false = sym (agree train other (sym same)) ∙ apart in cc))
] refl

-- ---- the last train

last_of : (low : ℕ) (front : List Train) (t : Train) → last_number low (front ++ t ∷ []) ≡ t.number
last_of low [] t = refl
last_of low (first ∷ front) t = last_of first.number front t

into_last : (n car : ℕ) (cs : List ℕ) (front : List Train) → AllByRecursion (λ (t : Train). t.number < n) front
    → appended n car (front ++ record { number = n; cars = cs } ∷ []) ≡ front ++ record { number = n; cars = cs ++ car ∷ [] } ∷ []
into_last n car cs [] low = chosen (n == n) _ _ (itself n)
into_last n car cs (t ∷ front) low = passed (t.number == n) _ _ (differ t.number n (λ same. let less = low.0 in absurd (omega (arith, less, same)))) ∙ ap (λ rest. t ∷ rest) (into_last n car cs front low.1)

all_lower : (m n : ℕ) (front : List Train) → m ≤ n → AllByRecursion (λ (t : Train). t.number < m) front → AllByRecursion (λ (t : Train). t.number < n) front
all_lower m n [] low all = tt
all_lower m n (t ∷ front) low all = (let less = all.0 in omega (arith, less, low), all_lower m n front low all.1)

-- ---- all cars

in_order : (front : List Train) (n : ℕ) (cs : List ℕ) (train : ℕ) (kept : List (ℕ × ℕ)) → AllByRecursion (λ (t : Train). t.number < n) front
    → with_all_kept (Some train) kept (record { trains = front ++ record { number = n; cars = cs } ∷ []; births = 0 }) ≡ record { trains = front ++ numbered n (joined train cs (grouped kept)); births = 0 }
in_order front n cs train [] low =
    let last = last_of 0 front (record { number = n; cars = cs }) in
    let next : last_number 0 (front ++ record { number = n; cars = cs } ∷ []) + 1 ≡ suc n = omega (arith, last) in
    ap (λ ts. record { trains = ts; births = 0 }) (ap (λ m. (front ++ record { number = n; cars = cs } ∷ []) ++ empty_train m ∷ []) next ∙ append_assoc front (record { number = n; cars = cs } ∷ []) (empty_train (suc n) ∷ []))
in_order front n cs train (k ∷ kept) low =
    let now : Trains = record { trains = front ++ record { number = n; cars = cs } ∷ []; births = 0 } in
    let last : last_number 0 (front ++ record { number = n; cars = cs } ∷ []) ≡ n = last_of 0 front (record { number = n; cars = cs }) in
    elim (train == k.0) as (λ b. (train == k.0) ≡ b → with_all_kept (Some k.0) kept (if b then record now { trains = appended (youngest now.trains) k.1 now.trains } else opened now k.1) ≡ record { trains = front ++ numbered n (joined train cs (before k.0 k.1 (grouped kept))); births = 0 }) [
      | true ↦ λ is.
          ap (λ ts. with_all_kept (Some k.0) kept (record { trains = ts; births = 0 })) (ap (λ m. appended m k.1 now.trains) last ∙ into_last n k.1 cs front low)
          ∙ in_order front n (cs ++ k.1 ∷ []) k.0 kept low
          ∙ ap (λ ts. record { trains = front ++ numbered n ts; births = 0 }) (sym (more_joined k.0 k.1 cs (grouped kept)) ∙ ap (λ m. joined m cs (before k.0 k.1 (grouped kept))) (sym (eqb-true train k.0 is)))
      | false ↦ λ is.
          let next : youngest now.trains + 1 ≡ suc n = omega (arith, last) in
          let lower : AllByRecursion (λ (t : Train). t.number < suc n) now.trains = all_append (λ (t : Train). t.number < suc n) front (record { number = n; cars = cs } ∷ []) (all_lower n (suc n) front (omega arith) low) (omega arith, tt) in
          ap (λ ts. with_all_kept (Some k.0) kept (record { trains = ts; births = 0 })) (ap (λ m. appended m k.1 (now.trains ++ empty_train m ∷ [])) next ∙ into_last (suc n) k.1 [] now.trains lower)
          ∙ in_order now.trains (suc n) (k.1 ∷ []) k.0 kept lower
          ∙ ap (λ ts. record { trains = ts; births = 0 }) (ap (λ ts. now.trains ++ numbered (suc n) ts) (one_joined k.0 k.1 (grouped kept)) ∙ append_assoc front (record { number = n; cars = cs } ∷ []) (numbered (suc n) (before k.0 k.1 (grouped kept))) ∙ ap (λ ts. front ++ numbered n ts) (sym (apart_joined train k.0 k.1 cs (grouped kept) is)))
    ] refl

-- the trains of all cars are those of the groups of cars, numbered from 1
pub all_in : (kept : List (ℕ × ℕ)) → with_all_kept None kept first_trains ≡ record { trains = numbered 1 (grouped kept); births = 0 }
all_in [] = refl
all_in (k ∷ kept) = in_order [] 1 (k.1 ∷ []) k.0 kept tt ∙ ap (λ ts. record { trains = numbered 1 ts; births = 0 }) (one_joined k.0 k.1 (grouped kept))

-- ---- cars that are in no train yet

pub none_yet : (kept : List (ℕ × ℕ)) → AreNew first_trains.trains kept
none_yet [] = tt
none_yet (k ∷ kept) = (refl, none_yet kept)

turned : (m n : ℕ) → (m == n) ≡ false → (n == m) ≡ false
turned m n is = differ n m (λ same. let clash : true ≡ false = sym (agree m n (sym same)) ∙ is in cc)

-- a car that is in no train is in none either once another one was put in
still_new : (last : Option ℕ) (kept : ℕ × ℕ) (t : Trains) (q : ℕ) → (q == kept.1) ≡ false → train_of t.trains q ≡ None → train_of (with_kept last kept t).trains q ≡ None
still_new last kept t q apart none = elim (goes_on last kept.0) as (λ b. train_of (if b then record t { trains = appended (youngest t.trains) kept.1 t.trains } else opened t kept.1).trains q ≡ None) [
  | true ↦ home_kept q (youngest t.trains) kept.1 t.trains (turned q kept.1 apart) ∙ none
  | false ↦ home_kept q (youngest t.trains + 1) kept.1 (rotated t.trains) (turned q kept.1 apart) ∙ home_rotated q (youngest t.trains + 1) t.trains ∙ none
]

pub all_still_new : (last : Option ℕ) (kept : ℕ × ℕ) (t : Trains) (others : List (ℕ × ℕ)) → AllByRecursion (λ (other : ℕ × ℕ). (other.1 == kept.1) ≡ false) others → AreNew t.trains others → AreNew (with_kept last kept t).trains others
all_still_new last kept t [] apart none = tt
all_still_new last kept t (other ∷ others) apart none = (still_new last kept t other.1 apart.0 none.0, all_still_new last kept t others apart.1 none.1)

-- ---- the youngest train has a car

some_behind : (o : Option (List ℕ)) (car : ℕ) → IsSome o → IsSomeAnd (option_map (λ cars. cars ++ car ∷ []) o) (λ cars. 0 < length cars)
some_behind None car some = cc
some_behind (Some cars) car some = let length_is = length-append cars (car ∷ []) in omega (arith, length_is)

there : (m : ℕ) (ts : List Train) → IsSome (cars_at (ts ++ empty_train m ∷ []) m)
there m [] = ap is_some (chosen (m == m) (Some []) None (itself m))
there m (t ∷ ts) = elim (t.number == m) as (λ b. IsSome (if b then Some t.cars else cars_at (ts ++ empty_train m ∷ []) m)) [ true ↦ refl | false ↦ there m ts ]

pub opened_has : (t : Trains) (car : ℕ) → HasCar (opened t car).trains (youngest (opened t car).trains)
opened_has t car =
    let m = youngest t.trains + 1 in
    let last : youngest (opened t car).trains ≡ m = last_changed 0 m (λ cars. cars ++ car ∷ []) (rotated t.trains) ∙ last_pushed 0 m t.trains in
    let found : cars_at (opened t car).trains m ≡ option_map (λ cars. cars ++ car ∷ []) (cars_at (rotated t.trains) m) = cars_changed m m (λ cars. cars ++ car ∷ []) (rotated t.trains) ∙ chosen (m == m) _ _ (itself m) in
    subst (HasCar (opened t car).trains) (sym last) (subst (λ (o : Option (List ℕ)). IsSomeAnd o (λ cars. 0 < length cars)) (sym found) (some_behind (cars_at (rotated t.trains) m) car (there m t.trains)))

-- ---- the trains of cars that a space is built of

-- the number of each car's train with its own
abbrev pub places : List (ℕ × CarAndSpare) → List (ℕ × ℕ)
places cars = map place_of (map placed_of cars)

pub places_apart : (placed : List Placed) → CarsDiffer placed → HaveOwnNumbers (map place_of placed)
places_apart [] differ = tt
places_apart (one ∷ placed) differ = (all_mapped (λ (other : ℕ × ℕ). (other.1 == one.1.number) ≡ false) place_of placed differ.0, places_apart placed differ.1)

pub walked_to_end : (cars : List (ℕ × CarAndSpare)) (i : ℕ) (last : Option ℕ) (t : Trains) → length cars ≤ i → with_all_kept last (places (drop i cars)) t ≡ closed last t
walked_to_end cars i last t past = ap (λ (left : List (ℕ × CarAndSpare)). with_all_kept last (places left) t) (drop_of_length-le cars past)
