-- What a search through the entries of a map, or through a list, finds.
use Rattle.std.proofs.Common.{◌≡◌, ℕ, ◌==◌, ◌||◌, Bool, true, false, cond, T, refl, ap, sym, subst, ◌∙◌, List, [], ◌∷◌, Some, None}
use Rattle.std.specs.Ordering.{eq_by_cmp}
use Rattle.std.specs.declared.cmp.Ordering.{Ordering}
use Rattle.std.specs.Cmp.{IsTotalOrder}
use Rattle.std.specs.List as list
use Rattle.std.specs.FinMap.{FinMap, IsAntisymmetric, get, entries, entries_sorted, get-entries}
use Rattle.std.specs.FinMap.Entries.{find, below_all, is_sorted}
use Rattle.std.proofs.lemmas.Bool.{eqb-true, eq-eqb, true≢false}
use Rattle.std.proofs.lemmas.Map.Views.{tells_apart}
use Rattle.pm_trains.specs.Trains.{is_among}
use Rattle.pm_roots.proofs.Sorted.{first, second, find_below, find_first}
use Rattle.pm_law_collect.proofs.PhasesLemmas.Small.{or_left, or_right}

-- ---- lists of numbers

-- each number of a list in which none passes fails
pub none_passes : (test : ℕ → Bool) (xs : List ℕ) → list.find test xs ≡ None → (x : ℕ) → is_among x xs ≡ true → test x ≡ false
none_passes test [] none x among = absurd (true≢false (sym among))
none_passes test (y ∷ ys) none x among = by_case (test y) refl none (y == x) refl among (λ later there. none_passes test ys later x there)
  where
    by_case : (b : Bool) → test y ≡ b → cond b (Some y) (list.find test ys) ≡ None → (c : Bool) → (y == x) ≡ c → (c || is_among x ys) ≡ true
        → (list.find test ys ≡ None → is_among x ys ≡ true → test x ≡ false) → test x ≡ false
    by_case true passes none c same among later = cc
    by_case false fails none true same among later = ap test (sym (eqb-true y x same)) ∙ fails
    by_case false fails none false same among later = later none among

-- a number that was found passes, and is in the list
pub found_passes : (test : ℕ → Bool) (xs : List ℕ) (x : ℕ) → list.find test xs ≡ Some x → (test x ≡ true) × (is_among x xs ≡ true)
found_passes test [] x is = cc
found_passes test (y ∷ ys) x is = by_case (test y) refl is (found_passes test ys x)
  where
    by_case : (b : Bool) → test y ≡ b → cond b (Some y) (list.find test ys) ≡ Some x → (list.find test ys ≡ Some x → (test x ≡ true) × (is_among x ys ≡ true)) → (test x ≡ true) × (is_among x (y ∷ ys) ≡ true)
    by_case true passes is later = let same : y ≡ x = cc in (subst (λ x. test x ≡ true) same passes, or_left (y == x) _ (eq-eqb y x same))
    by_case false fails is later = let found = later is in (found.0, or_right (y == x) found.1)

-- ---- entries of a map

module _ {K X : Type 0} {R : K → K → Ordering} (total : IsTotalOrder R) (exact : IsAntisymmetric R) where
  none_here : (test : K × X → Bool) (e : K × X) (es : List (K × X)) (k : K) (v : X) (b : Bool) → test e ≡ b → cond b (Some e) (list.find test es) ≡ None → (c : Bool) → eq_by_cmp R k e.0 ≡ c → cond c (Some e.1) (find R k es) ≡ Some v
      → (list.find test es ≡ None → find R k es ≡ Some v → test (k, v) ≡ false) → test (k, v) ≡ false
  none_here test e es k v true passes none c same is later = cc
  none_here test e es k v false fails none true same is later = let value : e.1 ≡ v = cc in ap test (λ i. (tells_apart exact k e.0 same i, sym value i)) ∙ fails
  none_here test e es k v false fails none false same is later = later none is

  none_in : (test : K × X → Bool) (es : List (K × X)) → list.find test es ≡ None → (k : K) (v : X) → find R k es ≡ Some v → test (k, v) ≡ false
  none_in test [] none k v is = cc
  none_in test (e ∷ es) none k v is = none_here test e es k v (test e) refl none (eq_by_cmp R k e.0) refl is (λ later there. none_in test es later k v there)

  -- what is found behind an entry of a list in order
  found_behind : (d e : K × X) (es : List (K × X)) → T (below_all R d.0 es) → find R e.0 es ≡ Some e.1 → (c : Bool) → eq_by_cmp R e.0 d.0 ≡ c → cond c (Some d.1) (find R e.0 es) ≡ Some e.1
  found_behind d e es below found true same = absurd (none_some (sym (find_below total d.0 es below) ∙ ap (λ k. find R k es) (sym (tells_apart exact e.0 d.0 same)) ∙ found))
    where
      none_some : None ≡ Some e.1 → ⊥
      none_some is = cc
  found_behind d e es below found false same = found

  found_here : (test : K × X → Bool) (d e : K × X) (es : List (K × X)) → T (is_sorted R (d ∷ es)) → (b : Bool) → test d ≡ b → cond b (Some d) (list.find test es) ≡ Some e
      → (list.find test es ≡ Some e → (find R e.0 es ≡ Some e.1) × (test e ≡ true)) → (find R e.0 (d ∷ es) ≡ Some e.1) × (test e ≡ true)
  found_here test d e es sorted true passes is later =
      let same : d ≡ e = cc in
      (subst (λ (e : K × X). find R e.0 (d ∷ es) ≡ Some e.1) same (find_first total d es), subst (λ (e : K × X). test e ≡ true) same passes)
  found_here test d e es sorted false fails is later = let found = later is in (found_behind d e es (first _ _ sorted) found.0 (eq_by_cmp R e.0 d.0) refl, found.1)

  found_in : (test : K × X → Bool) (es : List (K × X)) → T (is_sorted R es) → (e : K × X) → list.find test es ≡ Some e → (find R e.0 es ≡ Some e.1) × (test e ≡ true)
  found_in test [] sorted e is = cc
  found_in test (d ∷ es) sorted e is = found_here test d e es sorted (test d) refl is (found_in test es (second _ _ sorted) e)

  -- each entry of a map in which none passes fails
  pub no_entry : (test : K × X → Bool) (m : FinMap R X) → list.find test (entries m) ≡ None → (k : K) (v : X) → get m k ≡ Some v → test (k, v) ≡ false
  no_entry test m none k v is = none_in test (entries m) none k v (sym (get-entries m k) ∙ is)

  -- an entry that was found passes, and is in the map
  pub found_entry : (test : K × X → Bool) (m : FinMap R X) (e : K × X) → list.find test (entries m) ≡ Some e → (get m e.0 ≡ Some e.1) × (test e ≡ true)
  found_entry test m e is = let found = found_in test (entries m) (entries_sorted m) e is in (get-entries m e.0 ∙ found.0, found.1)
