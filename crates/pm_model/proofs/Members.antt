-- Members of lists and of lists of values.
use Rattle.std.proofs.Common.{◌≡◌, zero, suc, Bool, true, false, cond, List, [], ◌∷◌, map, Some, None, refl, ap, sym, subst, ◌∙◌, ◌⊎◌, inl, inr, ⊎_elim, arith, Ordering, T, ◌&&◌}
use Rattle.std.specs.List.{Contains}
use Rattle.std.specs.declared.cmp.Ordering.TheVariants.{Less, Equal, Greater}
use Rattle.std.specs.Ordering.{is_eq, is_lt, eq_by_cmp}
use Rattle.std.specs.Cmp.{IsTotalOrder, tied_itself}
use Rattle.std.specs.FinMap.{FinMap, find, is_sorted, get, values, entries, entries_sorted, get-entries}
use Rattle.std.specs.FinMap.Entries.{below_all}
use Rattle.std.proofs.lemmas.List.Elements.{Contains-append_right, Contains-append_cases}
use Rattle.std.proofs.lemmas.Option.{same_Some, none-some}
use Rattle.pm_types.proofs.Shown.{tied}

-- a list has its first element, and those of its rest
pub at_first : {X : Type 0} (x : X) (xs : List X) → Contains (x ∷ xs) x
at_first x xs = (0, omega arith, refl)

pub in_rest : {X : Type 0} (x y : X) (xs : List X) → Contains xs y → Contains (x ∷ xs) y
in_rest x y xs within = Contains-append_right (x ∷ []) xs y within

pub in_none : {X : Type 0} (x : X) → Contains [] x → ⊥
in_none x within = omega (arith, within.1)

only : {X : Type 0} (x y : X) → Contains (x ∷ []) y → x ≡ y
only x y (zero, below, is) = is
only x y (suc n, below, is) = absurd (omega arith)

-- and no others
pub first_or_rest : {X : Type 0} (x y : X) (xs : List X) → Contains (x ∷ xs) y → (x ≡ y) ⊎ Contains xs y
first_or_rest x y xs within = ⊎_elim (λ here. inl (only x y here)) (λ there. inr there) (Contains-append_cases (x ∷ []) xs y within)

less : (r : Ordering) → T (is_lt r) → is_eq r ≡ false
less Less h = refl
less Equal h = absurd h
less Greater h = absurd h

first : (a b : Bool) → T (a && b) → T a
first true b h = tt
first false b h = h

second : (a b : Bool) → T (a && b) → T b
second true b h = h
second false b h = absurd h

module _ {K X : Type 0} {R : K → K → Ordering} (o : IsTotalOrder R) where
  -- what a map answers is one of its values
  found_in : (q : K) (x : X) (es : List (K × X)) → find R q es ≡ Some x → Contains (map (λ e. e.1) es) x
  found_in q x [] is = absurd (none-some x is)
  found_in q x (e ∷ es) is =
      elim (eq_by_cmp R q e.0) as (λ b. cond b (Some e.1) (find R q es) ≡ Some x → Contains (e.1 ∷ map (λ e. e.1) es) x) [
        | true ↦ λ here. subst (Contains (e.1 ∷ map (λ e. e.1) es)) (same_Some e.1 x here) (at_first e.1 (map (λ e. e.1) es))
        | false ↦ λ there. in_rest e.1 x (map (λ e. e.1) es) (found_in q x es there)
      ] is

  pub is_value : (m : FinMap R X) (q : K) (x : X) → get m q ≡ Some x → Contains (values m) x
  is_value m q x is = found_in q x (entries m) (sym (get-entries m q) ∙ is)

  -- a key that ties with one below all keys of a list is not there
  not_below : (q k : K) (es : List (K × X)) → R q k ≡ Equal → T (below_all R k es) → find R q es ≡ None
  not_below q k [] tied below = refl
  not_below q k (e ∷ es) tied below =
      ap (λ r. cond (is_eq r) (Some e.1) (find R q es)) (o.congr q k e.0 tied)
      ∙ ap (λ b. cond b (Some e.1) (find R q es)) (less (R k e.0) (first (is_lt (R k e.0)) (below_all R k es) below))
      ∙ not_below q k es tied (second (is_lt (R k e.0)) (below_all R k es) below)

  later : (e : K × X) (es : List (K × X)) (q : K) (x : X) → T (below_all R e.0 es) → find R q es ≡ Some x → find R q (e ∷ es) ≡ Some x
  later e es q x below is =
      elim (eq_by_cmp R q e.0) as (λ b. eq_by_cmp R q e.0 ≡ b → cond b (Some e.1) (find R q es) ≡ Some x) [
        | true ↦ λ same. absurd (none-some x (sym (not_below q e.0 es (tied (R q e.0) same) below) ∙ is))
        | false ↦ λ apart. is
      ] refl

  -- each value of a list in order is found at some key
  found_at : (x : X) (es : List (K × X)) → T (is_sorted R es) → Contains (map (λ e. e.1) es) x → (q : K) × (find R q es ≡ Some x)
  found_at x [] sorted within = absurd (in_none x within)
  found_at x (e ∷ es) sorted within =
      ⊎_elim
      (λ (here : e.1 ≡ x). (e.0, ap (λ r. cond (is_eq r) (Some e.1) (find R e.0 es)) (tied_itself o e.0) ∙ ap Some here))
      (λ there. let at = found_at x es (second (below_all R e.0 es) (is_sorted R es) sorted) there in
      (at.0, later e es at.0 x (first (below_all R e.0 es) (is_sorted R es) sorted) at.1))
      (first_or_rest e.1 x (map (λ e. e.1) es) within)

  -- each value of a map is what it answers at some key
  pub at_key : (m : FinMap R X) (x : X) → Contains (values m) x → (q : K) × (get m q ≡ Some x)
  at_key m x within = let at = found_at x (entries m) (entries_sorted m) within in (at.0, get-entries m at.0 ∙ at.1)
