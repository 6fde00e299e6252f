-- The trains that opening makes.
use Rattle.std.proofs.Common.{◌≡◌, ℕ, suc, ◌+◌, ◌<◌, ◌≤◌, ◌==◌, ◌||◌, Bool, true, false, cond, refl, ap, sym, subst, ◌∙◌, List, [], ◌∷◌, ◌++◌, map, length, Some, arith, is_some}
use Rattle.std.specs.List.{flat_map, AllByRecursion, list_any, count_by}
use Rattle.std.specs.Ordering.{nat_cmp, eq_by_cmp}
use Rattle.std.specs.FinMap.{get, get-from_entries}
use Rattle.std.specs.FinMap.Entries.{is_some-find}
use Rattle.std.proofs.lemmas.Cmp.{nat_cmp_total}
use Rattle.std.proofs.lemmas.Bool.{eqb-true}
use Rattle.std.proofs.lemmas.List.Sums.{sum_by-cons}
use Rattle.pm_cars.specs.Cars.{Car}
use Rattle.pm_trains.specs.Trains.{Train, is_among, train_of}
use Rattle.pm_trains.specs.Sound.{Rise, Filled, all_cars, places}
use Rattle.pm_trains.specs.Sound as line
use Rattle.pm_image.specs.declared.car.CarImage.{CarImage}
use Rattle.pm_copies.specs.Listed.{Listed, images}
use Rattle.pm_copies.specs.Accepted.{Differ}
use Rattle.pm_copies.specs.Opened.{has_object, opened_car, opened_entry, opened_cars, kept_car, before, grouped, numbered, opened_trains}
use Rattle.pm_law_copies.proofs.Lists.{nat_turned}

-- the cars of these, without the numbers of their trains
abbrev pub cars_in : List (ℕ × ℕ) → List ℕ
cars_in kept = map (λ (k : ℕ × ℕ). k.1) kept

-- ---- which cars are in which trains

cars_before : (train car : ℕ) (ts : List Train) → all_cars (before train car ts) ≡ car ∷ all_cars ts
cars_before train car [] = refl
cars_before train car (t ∷ ts) = elim (t.number == train) as (λ b. all_cars (cond b (record t { cars = car ∷ t.cars } ∷ ts) (record { number = train; cars = car ∷ [] } ∷ t ∷ ts)) ≡ car ∷ all_cars (t ∷ ts)) [ true ↦ refl | false ↦ refl ]

cars_grouped : (kept : List (ℕ × ℕ)) → all_cars (grouped kept) ≡ cars_in kept
cars_grouped [] = refl
cars_grouped (k ∷ kept) = cars_before k.0 k.1 (grouped kept) ∙ ap (λ rest. k.1 ∷ rest) (cars_grouped kept)

cars_numbered : (n : ℕ) (ts : List Train) → all_cars (numbered n ts) ≡ all_cars ts
cars_numbered n [] = refl
cars_numbered n (t ∷ ts) = ap (λ rest. t.cars ++ rest) (cars_numbered (suc n) ts)

-- a car is in a train where it is in one of the lists
any_append : (p : ℕ → Bool) (xs ys : List ℕ) → list_any p (xs ++ ys) ≡ (list_any p xs || list_any p ys)
any_append p [] ys = refl
any_append p (x ∷ xs) ys = elim (p x) as (λ b. (b || list_any p (xs ++ ys)) ≡ ((b || list_any p xs) || list_any p ys)) [ true ↦ refl | false ↦ any_append p xs ys ]

pub in_a_train : (ts : List Train) (n : ℕ) → is_some (train_of ts n) ≡ is_among n (all_cars ts)
in_a_train [] n = refl
in_a_train (t ∷ ts) n =
    elim (is_among n t.cars) as (λ b. is_some (cond b (Some t.number) (train_of ts n)) ≡ (b || is_among n (all_cars ts))) [ true ↦ refl | false ↦ in_a_train ts n ]
    ∙ sym (any_append (λ c. c == n) t.cars (all_cars ts))

-- ---- which cars stand

pub among_keys : (n : ℕ) (ks : List ℕ) → list_any (eq_by_cmp nat_cmp n) ks ≡ is_among n ks
among_keys n [] = refl
among_keys n (k ∷ ks) = ap (λ b. b || list_any (eq_by_cmp nat_cmp n) ks) (sym (nat_turned k n)) ∙ ap (λ b. (k == n) || b) (among_keys n ks)

-- a car is in a train where it is one of these
pub in_trains : (kept : List (ℕ × ℕ)) (n : ℕ) → is_some (train_of (numbered 1 (grouped kept)) n) ≡ is_among n (cars_in kept)
in_trains kept n = in_a_train (numbered 1 (grouped kept)) n ∙ ap (is_among n) (cars_numbered 1 (grouped kept) ∙ cars_grouped kept)

module _ (all : List CarImage) where
  same_cars : (listed : List Listed) → map (λ (e : ℕ × Car). e.0) (flat_map (opened_entry all) (images listed)) ≡ cars_in (flat_map kept_car listed)
  same_cars [] = refl
  same_cars (one ∷ listed) = elim (has_object one.1.slots) as (λ b. map (λ (e : ℕ × Car). e.0) (cond b ((one.1.number, opened_car all one.1) ∷ []) [] ++ flat_map (opened_entry all) (images listed)) ≡ cars_in (cond b ((one.0, one.1.number) ∷ []) [] ++ flat_map kept_car listed)) [
    | true ↦ ap (λ rest. one.1.number ∷ rest) (same_cars listed)
    | false ↦ same_cars listed
  ]

-- each car that stands is in one train
pub linked : (listed : List Listed) (n : ℕ) → is_some (train_of (opened_trains listed).trains n) ≡ is_some (get (opened_cars (images listed)) n)
linked listed n =
    let es : List (ℕ × Car) = flat_map (opened_entry (images listed)) (images listed) in
    in_trains (flat_map kept_car listed) n
    ∙ sym (ap is_some (get-from_entries nat_cmp_total es n)
    ∙ is_some-find nat_cmp n es
    ∙ among_keys n (map (λ (e : ℕ × Car). e.0) es)
    ∙ ap (is_among n) (same_cars (images listed) listed))

-- ---- no car is in two places

none_of : (n : ℕ) (cars : List CarImage) → AllByRecursion (λ (other : CarImage). (other.number == n) ≡ false) cars → count_by (λ (car : CarImage). car.number == n) cars ≡ 0
none_of n [] all = refl
none_of n (car ∷ cars) all =
    sum_by-cons (λ (car : CarImage). cond (car.number == n) 1 0) car cars
    ∙ (λ i. cond (all.0 i) 1 0 + none_of n cars all.1 i)

once_of : (cars : List CarImage) → Differ cars → (n : ℕ) → count_by (λ (car : CarImage). car.number == n) cars ≤ 1
once_of [] differ n = omega arith
once_of (car ∷ cars) differ n = subst (λ m. m ≤ 1) (sym (sum_by-cons (λ (car : CarImage). cond (car.number == n) 1 0) car cars)) (elim (car.number == n) as (λ b. (car.number == n) ≡ b → cond b 1 0 + count_by (λ (car : CarImage). car.number == n) cars ≤ 1) [
  | true ↦ λ here. let none = ap (λ m. count_by (λ (car : CarImage). car.number == m) cars) (sym (eqb-true car.number n here)) ∙ none_of car.number cars differ.0 in omega (arith, none)
  | false ↦ λ there. let rest = once_of cars differ.1 n in omega (arith, rest)
] refl)

kept_once : (n : ℕ) (listed : List Listed) → count_by (λ c. c == n) (cars_in (flat_map kept_car listed)) ≤ count_by (λ (car : CarImage). car.number == n) (images listed)
kept_once n [] = omega arith
kept_once n (one ∷ listed) =
    let rest = kept_once n listed in
    let there = sum_by-cons (λ (car : CarImage). cond (car.number == n) 1 0) one.1 (images listed) in
    let here = sum_by-cons (λ c. cond (c == n) 1 0) one.1.number (cars_in (flat_map kept_car listed)) in
    elim (has_object one.1.slots) as (λ b. count_by (λ c. c == n) (cars_in (cond b ((one.0, one.1.number) ∷ []) [] ++ flat_map kept_car listed)) ≤ count_by (λ (car : CarImage). car.number == n) (images (one ∷ listed))) [
      | true ↦ omega (arith, rest, there, here)
      | false ↦ omega (arith, rest, there)
    ]

-- ---- numbers rise, and each train but the open one has a car

rise : (low n : ℕ) (ts : List Train) → low < n → Rise low (numbered n ts)
rise low n [] less = (less, tt)
rise low n (t ∷ ts) less = (less, rise n (suc n) ts (omega arith))

abbrev HasSome : Train → Type 0
HasSome t = 0 < length t.cars

some_before : (train car : ℕ) (ts : List Train) → AllByRecursion HasSome ts → AllByRecursion HasSome (before train car ts)
some_before train car [] all = (omega arith, tt)
some_before train car (t ∷ ts) all = elim (t.number == train) as (λ b. AllByRecursion HasSome (cond b (record t { cars = car ∷ t.cars } ∷ ts) (record { number = train; cars = car ∷ [] } ∷ t ∷ ts))) [
  | true ↦ (omega arith, all.1)
  | false ↦ (omega arith, all)
]

some_grouped : (kept : List (ℕ × ℕ)) → AllByRecursion HasSome (grouped kept)
some_grouped [] = tt
some_grouped (k ∷ kept) = some_before k.0 k.1 (grouped kept) (some_grouped kept)

filled : (n : ℕ) (ts : List Train) → AllByRecursion HasSome ts → Filled (numbered n ts)
filled n [] all = ((λ more. absurd (omega (arith, more))), tt)
filled n (t ∷ ts) all = ((λ more. all.0), filled (suc n) ts all.1)

stand : (n : ℕ) (ts : List Train) → 0 < length (numbered n ts)
stand n [] = omega arith
stand n (t ∷ ts) = omega arith

-- trains of these cars are as trains are, where no car is there twice
pub line_sound : (kept : List (ℕ × ℕ)) → ((n : ℕ) → count_by (λ c. c == n) (cars_in kept) ≤ 1) → line.AreSoundTrains (record { trains = numbered 1 (grouped kept); births = 0 })
line_sound kept once = record {
  standing = stand 1 (grouped kept);
  rising = rise 0 1 (grouped kept) (omega arith);
  filled = filled 1 (grouped kept) (some_grouped kept);
  single = λ n.
      let here = ap (count_by (λ c. c == n)) (cars_numbered 1 (grouped kept) ∙ cars_grouped kept) in
      let few = once n in
      omega (arith, here, few);
  bounded = omega arith;
}

pub trains_sound : (listed : List Listed) → Differ (images listed) → line.AreSoundTrains (opened_trains listed)
trains_sound listed differ = line_sound (flat_map kept_car listed) (λ n.
    let few = kept_once n listed in
    let once = once_of (images listed) differ n in
    omega (arith, few, once))
