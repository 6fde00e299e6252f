-- What a search among names finds, and what it says of their map.
use Rattle.std.proofs.Common.{◌≡◌, ℕ, ◌<◌, ◌≤◌, T, not, [], false, List, length, get_or, ◌⊎◌, inl, inr, Some, None, Result, Ok, Err, IfOk, IfErr, sym, ap, subst, ◌∙◌, arith}
use Rattle.std.specs.declared.cmp.Ordering.{Ordering}
use Rattle.std.specs.Ordering.{is_eq, ordering_reverse, eq_by_cmp}
use Rattle.std.specs.List.Sorted.{IsSearchInRange, IsBinarySearchResult}
use Rattle.std.specs.FinMap.{is_sorted, find}
use Rattle.std.specs.FinMap.Entries.{put, where_key}
use Rattle.std.specs.List.{insert, remove}
use Rattle.std.proofs.lemmas.Bool.{cases_lt}
use Rattle.pm_types.specs.Orders.{name_cmp}
use Rattle.pm_roots.specs.Kept.{Numbered, IsAt, IsGap}
use Rattle.pm_roots.proofs.Sorted.{searchable, find_apart, find_at, insert_in_gap, remove_at}
use Rattle.pm_types.proofs.Orders.{names_total, names_antisymmetric}

module _ (es : Numbered) (sorted : T (is_sorted name_cmp es)) (k : List ℕ) where
  pub searched : (r : Result ℕ ℕ) → IsSearchInRange r (length es) → IsBinarySearchResult (λ e. name_cmp e.0 k) es r → record { found : IfOk r (IsAt es k); absent : IfErr r (IsGap es k) }
  searched (Ok at) bound equal = record {
    found = record { in_range = bound; has_name = λ d. names_antisymmetric _ k (equal d) };
    absent = tt;
  }
  searched (Err at) bound parted =
      let parts = parted (searchable names_total es sorted k) in
      record {
        found = tt;
        absent = record { in_range = bound; before = λ j d lt. parts.0 j d (omega arith) lt; after = λ j d le lt. parts.1 j d le lt };
      }

  pub find_place : (at : ℕ) → IsAt es k at → (d : List ℕ × ℕ) → find name_cmp k es ≡ Some (get_or es at d).1
  find_place at is d = find_at names_total es sorted k at d is.in_range (is.has_name d)

  turned : (x : List ℕ) (r : Ordering) → name_cmp x k ≡ r → is_eq (name_cmp k x) ≡ is_eq (ordering_reverse r)
  turned x r e = ap is_eq (names_total.antisymm k x ∙ ap ordering_reverse e)

  pub find_gap : (at : ℕ) → IsGap es k at → find name_cmp k es ≡ None
  find_gap at gap = find_apart names_total es k (λ j d lt. by_side j d lt (cases j))
    where
      cases : (j : ℕ) → (j < at) ⊎ (at ≤ j)
      cases j = cases_lt j at

      by_side : (j : ℕ) (d : List ℕ × ℕ) → j < length es → (j < at) ⊎ (at ≤ j) → is_eq (name_cmp k (get_or es j d).0) ≡ false
      by_side j d lt (inl below) = turned _ _ (gap.before j d below)
      by_side j d lt (inr above) = turned _ _ (gap.after j d above lt)

-- the name at a place is found with the number that was read there
pub owner : (es : Numbered) → T (is_sorted name_cmp es) → (seen : Numbered) → seen ≡ es → (k : List ℕ) (at : ℕ) → IsAt seen k at → (e : List ℕ × ℕ) → e ≡ get_or es at e → find name_cmp k es ≡ Some e.1
owner es sorted seen same k at is e read =
    find_place es sorted k at (subst (λ l. IsAt l k at) same is) e ∙ ap (λ (x : List ℕ × ℕ). Some x.1) (sym read)

-- a name that has a gap is not found
pub unowned : (es : Numbered) → T (is_sorted name_cmp es) → (seen : Numbered) → seen ≡ es → (k : List ℕ) (at : ℕ) → IsGap seen k at → find name_cmp k es ≡ None
unowned es sorted seen same k at gap = find_gap es sorted k at (subst (λ l. IsGap l k at) same gap)

-- the names but for the one at the place
pub removed_at : (es : Numbered) → T (is_sorted name_cmp es) → (seen : Numbered) → seen ≡ es → (k : List ℕ) (at : ℕ) → IsAt seen k at → remove es at ≡ where_key name_cmp (λ x. not (eq_by_cmp name_cmp k x)) es
removed_at es sorted seen same k at is =
    let here = subst (λ l. IsAt l k at) same is in
    remove_at names_total es sorted k at ([], 0) here.in_range (here.has_name ([], 0))

-- the names with a new one in its gap
pub inserted_at : (es : Numbered) (seen : Numbered) → seen ≡ es → (k : List ℕ) (at : ℕ) → IsGap seen k at → (n : ℕ) → insert es at (k, n) ≡ put name_cmp k n es
inserted_at es seen same k at gap n =
    let here = subst (λ l. IsGap l k at) same gap in
    insert_in_gap names_total es k n at here.in_range here.before here.after
