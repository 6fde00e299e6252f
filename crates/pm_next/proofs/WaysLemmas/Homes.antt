-- The numbers of the trains that were found are those of a set, in its order.
use Rattle.std.proofs.Common.{◌≡◌, ℕ, ◌≤◌, ◌==◌, ◌&&◌, ◌||◌, arith, Bool, true, false, cond, if◌then◌else◌, refl, ap, sym, subst, ◌∙◌, List, [], ◌∷◌, map, Option, Some, None, is_some, Less, Equal}
use Rattle.std.specs.List.{filter, list_any, AllByRecursion}
use Rattle.std.specs.List.Sorted.{IsStrictlySortedBy}
use Rattle.std.specs.Option.{option_and_then}
use Rattle.std.specs.Ordering.{nat_cmp, is_eq}
use Rattle.std.specs.Cmp.{nat_cmp_total, nat_cmp_is, Equal-is}
use Rattle.std.specs.BTreeSet as sorted
use Rattle.std.proofs.lemmas.Bool.{true≢false, eqb-true}
use Rattle.std.proofs.lemmas.List.Kept.{IsStrictlySortedBy-filter}
use Rattle.std.proofs.lemmas.Map.Lookups.{btree_set_from_contains, exact_unsigned}
use Rattle.pm_types.specs.declared.source.RefSource.{RefSource}
use Rattle.pm_types.specs.declared.source.RefSource.TheVariants.{Root, Handle, Field}
use Rattle.pm_trains.specs.Trains.{Train, train_of, is_among}
use Rattle.pm_trains.specs.Sound as line
use Rattle.pm_law_collect.proofs.PhasesLemmas.Small.{some_same}
use Rattle.pm_next.specs.Ways.Ways.{naming_train, is_train, numbered, AreHomes, numbers_in}

abbrev numbers : List Train → List ℕ
numbers ts = map (λ (t : Train). t.number) ts

-- ---- lists

filtered : (p : ℕ → Bool) (ts : List Train) → numbered p ts ≡ filter p (numbers ts)
filtered p [] = refl
filtered p (t ∷ ts) = by_case (p t.number) (filtered p ts)
  where
    by_case : (b : Bool) → numbered p ts ≡ filter p (numbers ts)
        → map (λ (t : Train). t.number) (cond b (t ∷ filter (λ (t : Train). p t.number) ts) (filter (λ (t : Train). p t.number) ts)) ≡ cond b (t.number ∷ filter p (numbers ts)) (filter p (numbers ts))
    by_case true rest = ap (λ ns. t.number ∷ ns) rest
    by_case false rest = rest

-- trains that rise are over what they rise from
above : (low top : ℕ) (ts : List Train) → low ≤ top → line.Rise top ts → AllByRecursion (λ y. nat_cmp low y ≡ Less) (numbers ts)
above low top [] le rise = tt
above low top (t ∷ ts) le rise =
    let over = rise.0 in
    (sym (nat_cmp_is low t.number Less (omega (arith, le, over))), above low t.number ts (omega (arith, le, over)) rise.1)

ascend : (low : ℕ) (ts : List Train) → line.Rise low ts → IsStrictlySortedBy nat_cmp (numbers ts)
unfolding IsStrictlySortedBy
ascend low [] rise = tt
ascend low (t ∷ ts) rise = (above t.number t.number ts (omega arith) rise.1, ascend t.number ts rise.1)

-- an item that is sought is left by a filter just where it passes
left_of : (q p : ℕ → Bool) (n : ℕ) → ((x : ℕ) → q x ≡ true → x ≡ n) → (xs : List ℕ) → list_any q (filter p xs) ≡ (p n && list_any q xs)
left_of q p n one [] = none (p n)
  where
    none : (b : Bool) → false ≡ (b && false)
    none true = refl
    none false = refl
left_of q p n one (x ∷ xs) = by_case (p x) refl (q x) refl (left_of q p n one xs)
  where
    with_true : (a : Bool) → a ≡ true → true ≡ (a && true)
    with_true true is = refl
    with_true false is = absurd (true≢false (sym is))

    with_false : (a b : Bool) → a ≡ false → false ≡ (a && b)
    with_false true b is = absurd (true≢false is)
    with_false false b is = refl

    by_case : (b : Bool) → p x ≡ b → (d : Bool) → q x ≡ d → list_any q (filter p xs) ≡ (p n && list_any q xs) → list_any q (cond b (x ∷ filter p xs) (filter p xs)) ≡ (p n && (d || list_any q xs))
    by_case true passes true found rest = ap (λ b. b || list_any q (filter p xs)) found ∙ with_true (p n) (ap p (sym (one x found)) ∙ passes)
    by_case true passes false found rest = ap (λ b. b || list_any q (filter p xs)) found ∙ rest
    by_case false fails true found rest =
        let out : p n ≡ false = ap p (sym (one x found)) ∙ fails in
        rest ∙ sym (with_false (p n) (list_any q xs) out) ∙ with_false (p n) true out
    by_case false fails false found rest = rest

-- ---- the trains of sources stand

abbrev is : ℕ → ℕ → Bool
is n x = is_eq (nat_cmp n x)

is_one : (n x : ℕ) → is n x ≡ true → x ≡ n
is_one n x same = sym (exact_unsigned n x ((Equal-is (nat_cmp n x)).0 same))

is_itself : (n x : ℕ) → x ≡ n → is n x ≡ true
is_itself n x same = ap is_eq (sym (nat_cmp_is n x Equal (sym same)))

-- a train in which a car stands is among the trains
stands : (n : ℕ) (ts : List Train) (c : ℕ) → train_of ts c ≡ Some n → list_any (is n) (numbers ts) ≡ true
stands n [] c home = absurd (true≢false (sym (ap is_some home)))
stands n (t ∷ ts) c home = by_case (is_among c t.cars) home (stands n ts c)
  where
    first : (a b : Bool) → a ≡ true → (a || b) ≡ true
    first true b here = refl
    first false b here = absurd (true≢false (sym here))

    later : (a b : Bool) → b ≡ true → (a || b) ≡ true
    later true b there = refl
    later false b there = there

    by_case : (b : Bool) → (if b then Some t.number else train_of ts c) ≡ Some n → (train_of ts c ≡ Some n → list_any (is n) (numbers ts) ≡ true) → (is n t.number || list_any (is n) (numbers ts)) ≡ true
    by_case true home rest = first (is n t.number) (list_any (is n) (numbers ts)) (is_itself n t.number (some_same t.number n home))
    by_case false home rest = later (is n t.number) (list_any (is n) (numbers ts)) (rest home)

module _ (ts : List Train) (train n : ℕ) where
  source_stands : (source : RefSource) → is_train (naming_train ts train source) n ≡ true → list_any (is n) (numbers ts) ≡ true
  source_stands (Root m) of_it = absurd (true≢false (sym of_it))
  source_stands (Handle c r) of_it = absurd (true≢false (sym of_it))
  source_stands (Field a i) of_it = by_home (train_of ts a.car) refl of_it
    where
      by_test : (home : ℕ) → train_of ts a.car ≡ Some home → (b : Bool) → is_train (cond b None (Some home)) n ≡ true → list_any (is n) (numbers ts) ≡ true
      by_test home at true of_it = absurd (true≢false (sym of_it))
      by_test home at false of_it = stands n ts a.car (at ∙ ap Some (eqb-true home n of_it))

      by_home : (o : Option ℕ) → train_of ts a.car ≡ o → is_train (option_and_then (λ home. cond (home == train) None (Some home)) o) n ≡ true → list_any (is n) (numbers ts) ≡ true
      by_home None at of_it = absurd (true≢false (sym of_it))
      by_home (Some home) at of_it = by_test home at (home == train) of_it

  any_stands : (sources : List RefSource) → list_any (λ source. is_train (naming_train ts train source) n) sources ≡ true → list_any (is n) (numbers ts) ≡ true
  any_stands [] of_one = absurd (true≢false (sym of_one))
  any_stands (x ∷ xs) of_one = by_case (is_train (naming_train ts train x) n) refl of_one (any_stands xs)
    where
      by_case : (b : Bool) → is_train (naming_train ts train x) n ≡ b → (b || list_any (λ source. is_train (naming_train ts train source) n) xs) ≡ true
          → (list_any (λ source. is_train (naming_train ts train source) n) xs ≡ true → list_any (is n) (numbers ts) ≡ true) → list_any (is n) (numbers ts) ≡ true
      by_case true here of_one rest = source_stands x here
      by_case false here of_one rest = rest of_one

-- ---- the set

module _ (ts : List Train) (rising : line.Rise 0 ts) (train : ℕ) (sources : List RefSource) (homes : sorted.BTreeSet ℕ) (ordered : sorted.IsOrdered nat_cmp homes) (are : AreHomes ts train sources homes) where
  abbrev passes : ℕ → Bool
  passes = sorted.contains nat_cmp homes

  abbrev listed : sorted.BTreeSet ℕ
  listed = record { keys = numbers_in homes ts }

  listed_ordered : sorted.IsOrdered nat_cmp listed
  listed_ordered = subst (IsStrictlySortedBy nat_cmp) (sym (filtered passes ts)) (IsStrictlySortedBy-filter nat_cmp passes (numbers ts) (ascend 0 ts rising))

  same : (n : ℕ) → passes n ≡ sorted.contains nat_cmp listed n
  same n = by_case (passes n) refl ∙ sym (ap (list_any (is n)) (filtered passes ts) ∙ left_of (is n) passes n (is_one n) (numbers ts))
    where
      by_case : (b : Bool) → passes n ≡ b → passes n ≡ (passes n && list_any (is n) (numbers ts))
      by_case true found = found ∙ (λ i. sym found i && sym (any_stands ts train n sources (sym (are n) ∙ found)) i)
      by_case false none = none ∙ sym (ap (λ b. b && list_any (is n) (numbers ts)) none)

  pub keys_are : homes.keys ≡ numbers_in homes ts
  keys_are = btree_set_from_contains nat_cmp_total homes listed ordered listed_ordered same exact_unsigned
