-- Sources inside a train that are passed car by car.
use Rattle.std.proofs.Common.{◌≡◌, ℕ, ◌+◌, ◌<◌, ◌≤◌, arith, Bool, true, false, cond, not, refl, ap, sym, subst, ◌∙◌, List, Option, Some, None, is_some}
use Rattle.std.specs.declared.cmp.Ordering.{Ordering}
use Rattle.std.specs.declared.cmp.Ordering.TheVariants.{Less, Equal, Greater}
use Rattle.std.specs.Ordering.{nat_cmp, is_le, ordering_then, ordering_reverse}
use Rattle.std.specs.FinMap.{get}
use Rattle.std.proofs.lemmas.Bool.{true≢false}
use Rattle.std.proofs.lemmas.Bool.Decides.{nat_tests}
use Rattle.pm_types.specs.Orders.{source_cmp}
use Rattle.pm_types.proofs.Orders.{sources_total}
use Rattle.pm_types.specs.declared.address.Addr.{Addr}
use Rattle.pm_types.specs.declared.source.RefSource.{RefSource}
use Rattle.pm_types.specs.declared.source.RefSource.TheVariants.{Root, Handle, Field}
use Rattle.pm_trains.specs.Trains.{Train, is_among}
use Rattle.pm_remset.specs.Remembered.{Remembered, FindsAtOrAfter, first_that}
use Rattle.pm_remset.proofs.First.{first_found, found_once}
use Rattle.pm_view.specs.Reading.{cars_of}
use Rattle.pm_view.specs.Candidates.{is_beyond}
use Rattle.pm_next.specs.Sought.{inside_car}
use Rattle.pm_next.proofs.Beyond.{beyond_is}

-- the car from which on sources are sought
abbrev pub rank : RefSource → ℕ
rank (Root n) = 0
rank (Handle c r) = 0
rank (Field a i) = a.car

less_is : (m n : ℕ) → nat_cmp m n ≡ Less → m < n
less_is m n is = grind (arith, nat_tests, is)

equal_is : (m n : ℕ) → nat_cmp m n ≡ Equal → m ≡ n
equal_is m n is = grind (arith, nat_tests, is)

greater_is : (m n : ℕ) → nat_cmp m n ≡ Greater → n < m
greater_is m n is = grind (arith, nat_tests, is)

not_under_zero : (m : ℕ) → nat_cmp m 0 ≡ Less → ⊥
not_under_zero m is = let less = less_is m 0 is in absurd (omega (arith, less))

then_less : (o p : Ordering) → ordering_then o p ≡ Less → (o ≡ Less → ⊥) → (p ≡ Less → ⊥) → ⊥
then_less Less p is first second = first refl
then_less Equal p is first second = second is
then_less Greater p is first second = absurd cc

-- a field that is below the first one of a later car lies in an earlier car
below_car : (c : Addr) (k n : ℕ) → source_cmp (Field c k) (Field (record { car = n + 1; slot = 0 }) 0) ≡ Less → c.car ≤ n
below_car c k n is = by_case (nat_cmp c.car (n + 1)) refl is
  where
    by_case : (o : Ordering) → nat_cmp c.car (n + 1) ≡ o → ordering_then (ordering_then o (nat_cmp c.slot 0)) (nat_cmp k 0) ≡ Less → c.car ≤ n
    by_case Less at is = let less = less_is c.car (n + 1) at in omega (arith, less)
    by_case Equal at is = absurd (then_less (nat_cmp c.slot 0) (nat_cmp k 0) is (not_under_zero c.slot) (not_under_zero k))
    by_case Greater at is = absurd cc

-- a field that is not below another does not lie in an earlier car
above_car : (c b : Addr) (k j : ℕ) → (source_cmp (Field c k) (Field b j) ≡ Less → ⊥) → b.car ≤ c.car
above_car c b k j above = by_case (nat_cmp c.car b.car) refl above
  where
    by_case : (o : Ordering) → nat_cmp c.car b.car ≡ o → (ordering_then (ordering_then o (nat_cmp c.slot b.slot)) (nat_cmp k j) ≡ Less → ⊥) → b.car ≤ c.car
    by_case Less at above = absurd (above refl)
    by_case Equal at above = let same = equal_is c.car b.car at in omega (arith, same)
    by_case Greater at above = let over = greater_is c.car b.car at in omega (arith, over)

-- a source is sought from an earlier car on, or from the same
pub rank_below : (from : RefSource) (b : Addr) (j : ℕ) → is_le (source_cmp from (Field b j)) ≡ true → rank from ≤ b.car
rank_below (Root n) b j is = omega arith
rank_below (Handle c r) b j is = omega arith
rank_below (Field a i) b j is = by_case (nat_cmp a.car b.car) refl is
  where
    by_case : (o : Ordering) → nat_cmp a.car b.car ≡ o → is_le (ordering_then (ordering_then o (nat_cmp a.slot b.slot)) (nat_cmp i j)) ≡ true → a.car ≤ b.car
    by_case Less at is = let less = less_is a.car b.car at in omega (arith, less)
    by_case Equal at is = let same = equal_is a.car b.car at in omega (arith, same)
    by_case Greater at is = absurd (true≢false (sym is))

not_le : (o : Ordering) → is_le o ≡ false → o ≡ Greater
not_le Less is = absurd (true≢false is)
not_le Equal is = absurd (true≢false is)
not_le Greater is = refl

turned : (x y : RefSource) → is_le (source_cmp x y) ≡ false → source_cmp y x ≡ Less
turned x y is = sources_total.antisymm y x ∙ ap ordering_reverse (not_le (source_cmp x y) is)

module _ (ts : List Train) (train : ℕ) where
  -- a field of an object in the train
  pub record IsInside (source : RefSource) (car : ℕ) : Type 0 where
    pub at : Addr
    pub index : ℕ
    pub field : source ≡ Field at index
    pub here : at.car ≡ car
    pub among : is_among at.car (cars_of ts train) ≡ true

  pub inside_is : (source : RefSource) (car : ℕ) → Some car ≡ inside_car ts train source → IsInside source car
  inside_is (Root n) car is = absurd (let none : ◌≡◌ {A = Option ℕ} (Some car) None = is in cc)
  inside_is (Handle c r) car is = absurd (let none : ◌≡◌ {A = Option ℕ} (Some car) None = is in cc)
  inside_is (Field a i) car is = by_case (is_among a.car (cars_of ts train)) refl is
    where
      by_case : (b : Bool) → is_among a.car (cars_of ts train) ≡ b → Some car ≡ cond b (Some a.car) None → IsInside (Field a i) car
      by_case true among is = record { at = a; index = i; field = refl; here = (let same : a.car ≡ car = cc in same); among = among }
      by_case false among is = absurd (let none : ◌≡◌ {A = Option ℕ} (Some car) None = is in cc)

  -- each remembered source below this one lies in the train
  abbrev pub ArePassed : Remembered → RefSource → Type 0
  ArePassed set from = (source : RefSource) (slot : ℕ) → get set source ≡ Some slot → source_cmp source from ≡ Less → is_beyond ts train source ≡ false

  module _ (set : Remembered) (from : RefSource) (passed : ArePassed set from) where
    -- all are passed
    pub all_passed : FindsAtOrAfter set from None → None ≡ first_that (λ source _. is_beyond ts train source) set
    all_passed none =
        found_once (λ source _. is_beyond ts train source) set None _ (λ source slot is. passed source slot is (turned from source (none source slot is))) (first_found (λ source _. is_beyond ts train source) set)

    module _ (found : RefSource × ℕ) (finds : FindsAtOrAfter set from (Some found)) where
      -- the next one is beyond
      pub next_beyond : None ≡ inside_car ts train found.0 → Some found ≡ first_that (λ source _. is_beyond ts train source) set
      next_beyond none =
          found_once (λ source _. is_beyond ts train source) set (Some found) _
          (record {
            there = finds.there;
            passed = sym (beyond_is ts train found.0) ∙ sym (ap (λ o. not (is_some o)) none);
            lower_failed = λ other at is less. passed other at is (turned from other (finds.lower_failed other at is less));
          })
          (first_found (λ source _. is_beyond ts train source) set)

      module _ (car : ℕ) (inside : IsInside found.0 car) where
        same_car : (source : RefSource) → source_cmp source (Field (record { car = car + 1; slot = 0 }) 0) ≡ Less → (source_cmp source found.0 ≡ Less → ⊥) → is_beyond ts train source ≡ false
        same_car (Root n) below above = absurd (above (ap (source_cmp (Root n)) inside.field))
        same_car (Handle c r) below above = absurd (above (ap (source_cmp (Handle c r)) inside.field))
        same_car (Field c k) below above =
            let low = below_car c k car below in
            let high = above_car c inside.at k inside.index (λ less. above (ap (source_cmp (Field c k)) inside.field ∙ less)) in
            let here = inside.here in
            let same : inside.at.car ≡ c.car = omega (arith, low, high, here) in
            ap (λ n. not (is_among n (cars_of ts train))) (sym same) ∙ ap not inside.among

        -- the sources of its car are passed
        pub passed_next : ArePassed set (Field (record { car = car + 1; slot = 0 }) 0)
        passed_next source slot is below = by_case (source_cmp source found.0) refl
          where
            by_case : (o : Ordering) → source_cmp source found.0 ≡ o → is_beyond ts train source ≡ false
            by_case Less at = passed source slot is (turned from source (finds.lower_failed source slot is at))
            by_case Equal at = same_car source below (λ less. absurd (let apart : Equal ≡ Less = sym at ∙ less in cc))
            by_case Greater at = same_car source below (λ less. absurd (let apart : Greater ≡ Less = sym at ∙ less in cc))

        -- and it was not sought from a later one on
        pub rank_before : rank from ≤ car
        rank_before =
            let at = rank_below from inside.at inside.index (subst (λ s. is_le (source_cmp from s) ≡ true) inside.field finds.passed) in let here = inside.here in omega (arith, at, here)
