-- Lists, and finite maps as lists of entries.
use Rattle.std.proofs.Common.{◌≡◌, ℕ, zero, suc, ◌+◌, ◌≤◌, ◌==◌, ◌&&◌, Bool, true, false, cond, T, refl, ap, sym, subst, ◌∙◌, List, [], ◌∷◌, ◌++◌, map, Option, Some, None, arith}
use Rattle.std.specs.List.{AllByRecursion, count_by, slice_get}
use Rattle.std.specs.declared.cmp.Ordering.{Ordering}
use Rattle.std.specs.declared.cmp.Ordering.TheVariants.{Less, Equal, Greater}
use Rattle.std.specs.Ordering.{is_eq, is_lt, eq_by_cmp, nat_cmp}
use Rattle.std.specs.Cmp.{IsTotalOrder}
use Rattle.std.specs.FinMap.{IsAntisymmetric, entries, from_entries, from_sorted, get-from_entries, get-from_sorted, entries-from_sorted, same_map}
use Rattle.std.specs.FinMap.Entries.{find, below_all, is_sorted}
use Rattle.std.proofs.lemmas.List.Sums.{sum_by-append, sum_by-cons}
use Rattle.pm_roots.proofs.Sorted.{first, second, find_first}
use Rattle.std.proofs.lemmas.Bool.{eqb-true, eq-eqb, true≢false}
use Rattle.std.proofs.lemmas.Option.{same_Some}
use Rattle.pm_model.proofs.Unused.{tied_nat}
use Rattle.pm_types.proofs.Shown.{tied}

-- ---- what holds of each element

pub all_append : {X : Type 0} (P : X → Type 0) (xs ys : List X) → AllByRecursion P xs → AllByRecursion P ys → AllByRecursion P (xs ++ ys)
all_append P [] ys one two = two
all_append P (x ∷ xs) ys one two = (one.0, all_append P xs ys one.1 two)

pub all_fields : {X : Type 0} (P : X → Type 0) (xs : List X) → ((i : ℕ) (x : X) → slice_get xs i ≡ Some x → P x) → AllByRecursion P xs
all_fields P [] each = tt
all_fields P (x ∷ xs) each = (each 0 x refl, all_fields P xs (λ i. each (suc i)))

pub all_at : {X : Type 0} (P : X → Type 0) (xs : List X) (i : ℕ) (x : X) → AllByRecursion P xs → slice_get xs i ≡ Some x → P x
all_at P [] i x all is = cc
all_at P (y ∷ ys) zero x all is = subst P (same_Some y x is) all.0
all_at P (y ∷ ys) (suc i) x all is = all_at P ys i x all.1 is

pub all_weaker : {X : Type 0} (P Q : X → Type 0) (xs : List X) → ((x : X) → P x → Q x) → AllByRecursion P xs → AllByRecursion Q xs
all_weaker P Q [] weaker all = tt
all_weaker P Q (x ∷ xs) weaker all = (weaker x all.0, all_weaker P Q xs weaker all.1)

pub all_mapped : {X Y : Type 0} (P : Y → Type 0) (f : X → Y) (xs : List X) → AllByRecursion (λ x. P (f x)) xs → AllByRecursion P (map f xs)
all_mapped P f [] all = tt
all_mapped P f (x ∷ xs) all = (all.0, all_mapped P f xs all.1)

pub map_same : {X Y : Type 0} (f g : X → Y) (xs : List X) → AllByRecursion (λ x. f x ≡ g x) xs → map f xs ≡ map g xs
map_same f g [] all = refl
map_same f g (x ∷ xs) all = λ i. all.0 i ∷ map_same f g xs all.1 i

-- ---- tests

pub both_true : (a b : Bool) → (a && b) ≡ true → (a ≡ true) × (b ≡ true)
both_true true b is = (refl, is)
both_true false b is = cc

-- ---- counting

pub count_append : {X : Type 0} (p : X → Bool) (xs ys : List X) → count_by p (xs ++ ys) ≡ count_by p xs + count_by p ys
count_append p xs ys = sum_by-append (λ x. cond (p x) 1 0) xs ys

-- none is counted, so none is there
pub none_counted : {X : Type 0} (p : X → Bool) (xs : List X) → count_by p xs ≤ 0 → AllByRecursion (λ x. p x ≡ false) xs
none_counted p [] few = tt
none_counted p (x ∷ xs) few = elim (p x) as (λ b. p x ≡ b → cond b 1 0 + count_by p xs ≤ 0 → AllByRecursion (λ x. p x ≡ false) (x ∷ xs)) [
  | true ↦ λ is few. absurd (omega (arith, few))
  | false ↦ λ is few. (is, none_counted p xs (omega (arith, few)))
] refl (subst (λ n. n ≤ 0) (sum_by-cons (λ x. cond (p x) 1 0) x xs) few)

-- ---- options

-- the first of two that is there
abbrev pub or_else : {X : Type 0} → Option X → Option X → Option X
or_else None other = other
or_else (Some x) other = Some x

-- ---- entries

pub not_equal : (r : Ordering) → T (is_lt r) → is_eq r ≡ false
not_equal Less h = refl
not_equal Equal h = absurd h
not_equal Greater h = absurd h

some_is_none : {X : Type 0} (x : X) → None ≡ Some x → ⊥
some_is_none x is = cc

module _ {K X : Type 0} {R : K → K → Ordering} (o : IsTotalOrder R) where
  -- a key that ties with one below all keys of a list is not there
  tied_below : (q k : K) (es : List (K × X)) → R q k ≡ Equal → T (below_all R k es) → find R q es ≡ None
  tied_below q k [] tied below = refl
  tied_below q k (e ∷ es) tied below =
      ap (λ r. cond (is_eq r) (Some e.1) (find R q es)) (o.congr q k e.0 tied)
      ∙ ap (λ b. cond b (Some e.1) (find R q es)) (not_equal (R k e.0) (first _ _ below))
      ∙ tied_below q k es tied (second _ _ below)

  -- what is found among the later entries is found
  pub found_later : (e : K × X) (es : List (K × X)) (q : K) (x : X) → T (is_sorted R (e ∷ es)) → find R q es ≡ Some x → find R q (e ∷ es) ≡ Some x
  found_later e es q x sorted is =
      elim (eq_by_cmp R q e.0) as (λ b. eq_by_cmp R q e.0 ≡ b → cond b (Some e.1) (find R q es) ≡ Some x) [
        | true ↦ λ same. absurd (some_is_none x (sym (tied_below q e.0 es (tied (R q e.0) same) (first _ _ sorted)) ∙ is))
        | false ↦ λ apart. is
      ] refl

  -- what holds of each entry that is found holds of each entry
  pub all_entries : (P : K × X → Type 0) (es : List (K × X)) → T (is_sorted R es) → ((k : K) (x : X) → find R k es ≡ Some x → P (k, x)) → AllByRecursion P es
  all_entries P [] sorted each = tt
  all_entries P (e ∷ es) sorted each = (each e.0 e.1 (find_first o e es), all_entries P es (second _ _ sorted) (λ k x is. each k x (found_later e es k x sorted is)))

-- a list in order is the entries of the map that is made of it
pub entries_made : {K X : Type 0} {R : K → K → Ordering} → IsTotalOrder R → IsAntisymmetric R → (es : List (K × X)) → T (is_sorted R es) → entries (from_entries {R = R} es) ≡ es
entries_made {R = R} o same es sorted =
    ap entries (same_map o same (from_entries {R = R} es) (from_sorted {R = R} es) (λ q. get-from_entries o es q ∙ sym (get-from_sorted R es q sorted)))
    ∙ entries-from_sorted R es sorted

-- a search by number is one by the order
pub nat_turned : (m n : ℕ) → (m == n) ≡ is_eq (nat_cmp n m)
nat_turned m n = elim (m == n) as (λ b. (m == n) ≡ b → b ≡ is_eq (nat_cmp n m)) [
  | true ↦ λ is. sym (tied_nat n m ∙ eq-eqb n m (sym (eqb-true m n is)))
  | false ↦ λ is. elim (n == m) as (λ b. (n == m) ≡ b → false ≡ is_eq (nat_cmp n m)) [
    | true ↦ λ back. absurd (true≢false (sym (eq-eqb m n (sym (eqb-true n m back))) ∙ is))
    | false ↦ λ back. sym (tied_nat n m ∙ back)
  ] refl
] refl
