-- Keys in a row that rise: one is found by halving, comes into its gap, or is taken; and entries of such keys, as the
-- finite map that they are seen as.
use Rattle.std.proofs.Common.{◌≡◌, ℕ, zero, suc, ◌+◌, ◌-◌, ◌<◌, ◌||◌, ◌↔◌, inl, inr, Bool, true, false, cond, refl, sym, ap, subst, ◌∙◌, arith, List, [], ◌∷◌, length, get_or, set, Some, None, Result, Ok, Err, IfOk, IfErr}
use Rattle.std.specs.declared.cmp.Ordering.{Ordering}
use Rattle.std.specs.declared.cmp.Ordering.TheVariants.{Less, Equal, Greater}
use Rattle.std.specs.Cmp.{IsTotalOrder, eq_by_cmp_equiv, tied_itself}
use Rattle.std.specs.Ordering.{nat_cmp, is_eq, is_lt, eq_by_cmp, ordering_index, ordering_reverse}
use Rattle.std.specs.Option.{is_some, option_map}
use Rattle.std.specs.List.{AllByRecursion, Contains, insert, remove, filter, list_any, slice_get}
use Rattle.std.specs.List.Sorted.{IsStrictlySortedBy, IsSearchInRange, IsBinarySearchResult, IsNonDecreasingBy}
use Rattle.std.specs.Map.{keys_of, lookup, set_value, remove_entry}
use Rattle.std.specs.FinMap.{IsAntisymmetric, from_entries, empty, get, len, get-empty, get-insert, get-remove, get-from_entries, len-insert, len-empty, same_map}
use Rattle.std.specs.FinMap as finite
use Rattle.std.specs.BTreeMap.{is_at}
use Rattle.std.proofs.lemmas.Bool.{cases_Bool, cases_lt}
use Rattle.std.proofs.lemmas.Bool.Decides.{nat_tests}
use Rattle.std.proofs.lemmas.Option.{slice_get-get_or, get_or_from_slice_get, slice_get_within, slice_get-map}
use Rattle.std.proofs.lemmas.List.{get_or-map, get_or_default}
use Rattle.std.proofs.lemmas.List.Sorted.{searchable_from_sorted}
use Rattle.std.proofs.lemmas.Map.{none_passes_from_lookup, lookup-insert, lookup-set_value, lookup-remove_entry}
use Rattle.std.proofs.lemmas.Map.Entries.{length-keys_of, lookup_from_place, lookup_at_gap}
use Rattle.std.proofs.lemmas.Map.Views.{Contains-from_any, Contains-from_lookup, lookup-from_Contains, tells_apart}
use Rattle.std.proofs.lemmas.Map.Keys.{sorted_tail, IsDistinct-from_sorted, Less-from_sorted}
use Rattle.pm_types.proofs.Shown.{find-lookup, tied}
use Rattle.pm_nursery.specs.Rows.{IsAt, IsGap}

pub lesser : (r : Ordering) → is_lt r ≡ true → r ≡ Less
lesser Less is = refl
lesser Equal is = cc
lesser Greater is = cc

pub below_is_less : (a b : ℕ) → a < b → nat_cmp a b ≡ Less
below_is_less a b below = grind (arith, nat_tests, below)

or_swap : (a b c : Bool) → (a || (b || c)) ≡ (b || (a || c))
or_swap true true c = refl
or_swap true false c = refl
or_swap false true c = refl
or_swap false false c = refl

module _ {K : Type 0} {R : K → K → Ordering} (o : IsTotalOrder R) (exact : IsAntisymmetric R) where
  reversed : (x y : K) → R x y ≡ Less → R y x ≡ Greater
  reversed x y less = o.antisymm y x ∙ ap ordering_reverse less

  turned_over : (x y : K) → R x y ≡ Greater → R y x ≡ Less
  turned_over x y greater = o.antisymm y x ∙ ap ordering_reverse greater

  -- ---- a search by halving

  rises : (ks : List K) → IsStrictlySortedBy R ks → (k : K) → IsNonDecreasingBy (λ x. ordering_index (R x k)) ks
  rises ks ordered k = searchable_from_sorted o (λ x. x) ks k (λ i d low high. ap is_lt (reversed (get_or ks i d) (get_or ks (i + 1) d) (Less-from_sorted R ks i (i + 1) d ordered (omega arith) high)))

  -- it ends at the key, or at the place for it
  pub searched : (ks : List K) → IsStrictlySortedBy R ks → (k : K) (r : Result ℕ ℕ) → IsSearchInRange r (length ks) → IsBinarySearchResult (λ x. R x k) ks r → IfOk r (IsAt ks k) × IfErr r (IsGap R ks k)
  searched ks ordered k (Ok at) within equal = (record { within = within; here = λ d. exact _ _ (equal d) }, tt)
  searched ks ordered k (Err at) within parted = let both = parted (rises ks ordered k) in (tt, record { within = within; below = both.0; above = both.1 })

  -- a key above the last one has its place behind all of them
  pub behind : (ks : List K) → IsStrictlySortedBy R ks → (k last : K) → slice_get ks (length ks - 1) ≡ Some last → R last k ≡ Less → IsGap R ks k (length ks)
  behind ks ordered k last is less = record {
    within = omega arith;
    below = λ i d low high. elim (cases_lt i (length ks - 1)) [
      | inl before ↦ o.trans (get_or ks i d) last k (subst (λ x. R (get_or ks i d) x ≡ Less) (at_last d high) (Less-from_sorted R ks i (length ks - 1) d ordered before (omega (arith, high)))) less
      | inr not_before ↦ (let here : i ≡ length ks - 1 = omega (arith, high, not_before) in
          subst (λ x. R x k ≡ Less) (sym (ap (λ n. get_or ks n d) here ∙ at_last d high)) less)
    ];
    above = λ i d low high. absurd (omega (arith, low, high));
  }
    where
      at_last : {i : ℕ} (d : K) → i < length ks → get_or ks (length ks - 1) d ≡ last
      at_last d high = get_or_default ks (length ks - 1) d last (omega (arith, high)) ∙ get_or_from_slice_get ks (length ks - 1) last last is

  -- ---- whether a key is there

  -- a key that is below all is none of them
  none_tied : (k : K) (ks : List K) → AllByRecursion (λ y. R k y ≡ Less) ks → (q : K) → is_eq (R q k) ≡ true → list_any (is_at (R q)) ks ≡ false
  none_tied k [] below q tie = refl
  none_tied k (x ∷ ks) below q tie = (λ i. is_eq ((o.congr q k x (tied (R q k) tie) ∙ below.0) i) || none_tied k ks below.1 q tie i)

  pub at_place : (ks : List K) (k : K) (at : ℕ) → IsAt ks k at → list_any (is_at (R k)) ks ≡ true
  at_place [] k at is = let within = is.within in absurd (omega (arith, within))
  at_place (x ∷ ks) k zero is = ap (λ b. b || list_any (is_at (R k)) ks) (ap (λ y. is_eq (R k y)) (is.here x) ∙ ap is_eq (tied_itself o k))
  at_place (x ∷ ks) k (suc at) is =
      let within = is.within in
      ap (λ b. is_eq (R k x) || b) (at_place ks k at (record { within = omega (arith, within); here = is.here })) ∙ or_true (is_eq (R k x))
    where
      or_true : (b : Bool) → (b || true) ≡ true
      or_true true = refl
      or_true false = refl

  pub at_gap : (ks : List K) (k : K) (at : ℕ) → IsGap R ks k at → list_any (is_at (R k)) ks ≡ false
  at_gap [] k at gap = refl
  at_gap (x ∷ ks) k zero gap =
      (λ i. is_eq (turned_over x k (gap.above 0 x (omega arith) (omega arith)) i) || at_gap ks k zero (record {
        within = omega arith;
        below = λ j d low high. absurd (omega (arith, high));
        above = λ j d low high. gap.above (suc j) d (omega arith) (omega (arith, high));
      }) i)
  at_gap (x ∷ ks) k (suc at) gap =
      let within = gap.within in
      (λ i. is_eq (reversed x k (gap.below 0 x (omega arith) (omega arith)) i) || at_gap ks k at (record {
        within = omega (arith, within);
        below = λ j d low high. gap.below (suc j) d (omega arith) (omega (arith, high));
        above = λ j d low high. gap.above (suc j) d (omega (arith, low)) (omega (arith, high));
      }) i)

  pub listed_key : (ks : List K) (k : K) → list_any (is_at (R k)) ks ≡ true → Contains ks k
  listed_key ks k has = Contains-from_any {eq = eq_by_cmp R} (tells_apart exact) k ks has

  pub key_listed : (ks : List K) (k : K) → Contains ks k → list_any (is_at (R k)) ks ≡ true
  key_listed ks k within = at_place ks k within.0 (record { within = within.1; here = λ d. get_or_default ks within.0 d k within.1 ∙ within.2 })

  -- ---- one that comes

  below_all : (x y : K) (ks : List K) → R x y ≡ Less → AllByRecursion (λ k. R y k ≡ Less) ks → AllByRecursion (λ k. R x k ≡ Less) ks
  below_all x y [] less h = tt
  below_all x y (k ∷ ks) less h = (o.trans x y k less h.0, below_all x y ks less h.1)

  all_insert : (P : K → Type 0) (ks : List K) (at : ℕ) (x : K) → AllByRecursion P ks → P x → AllByRecursion P (insert ks at x)
  all_insert P ks zero x h p = (p, h)
  all_insert P [] (suc at) x h p = (p, tt)
  all_insert P (k ∷ ks) (suc at) x h p = (h.0, all_insert P ks at x h.1 p)

  pub sorted_insert : (ks : List K) (at : ℕ) (k : K) → IsStrictlySortedBy R ks → IsGap R ks k at → IsStrictlySortedBy R (insert ks at k)
  unfolding IsStrictlySortedBy
  sorted_insert [] zero k ordered gap = (tt, tt)
  sorted_insert [] (suc at) k ordered gap = (tt, tt)
  sorted_insert (x ∷ ks) zero k ordered gap =
      let above : R k x ≡ Less = turned_over x k (gap.above 0 x (omega arith) (omega arith)) in
      ((above, below_all k x ks above ordered.0), ordered)
  sorted_insert (x ∷ ks) (suc at) k ordered gap =
      let within = gap.within in (
        all_insert (λ y. R x y ≡ Less) ks at k ordered.0 (gap.below 0 x (omega arith) (omega arith)),
        sorted_insert ks at k ordered.1 (record {
          within = omega (arith, within);
          below = λ j d low high. gap.below (suc j) d (omega arith) (omega (arith, high));
          above = λ j d low high. gap.above (suc j) d (omega (arith, low)) (omega (arith, high));
        }),
      )

  any_insert : (p : K → Bool) (ks : List K) (at : ℕ) (k : K) → list_any p (insert ks at k) ≡ (p k || list_any p ks)
  any_insert p ks zero k = refl
  any_insert p [] (suc at) k = refl
  any_insert p (x ∷ ks) (suc at) k = ap (λ b. p x || b) (any_insert p ks at k) ∙ or_swap (p x) (p k) (list_any p ks)

  pub put_there : (ks : List K) (at : ℕ) (k q : K) → list_any (is_at (R q)) (insert ks at k) ≡ cond (is_at (R k) q) true (list_any (is_at (R q)) ks)
  put_there ks at k q = any_insert (is_at (R q)) ks at k ∙ ap (λ b. b || list_any (is_at (R q)) ks) ((eq_by_cmp_equiv o).symm q k) ∙ or_cond (is_at (R k) q) (list_any (is_at (R q)) ks)
    where
      or_cond : (a b : Bool) → (a || b) ≡ cond a true b
      or_cond true b = refl
      or_cond false b = refl

  -- ---- one that is taken

  all_remove : (P : K → Type 0) (ks : List K) (at : ℕ) → AllByRecursion P ks → AllByRecursion P (remove ks at)
  all_remove P [] zero h = tt
  all_remove P [] (suc at) h = tt
  all_remove P (k ∷ ks) zero h = h.1
  all_remove P (k ∷ ks) (suc at) h = (h.0, all_remove P ks at h.1)

  pub sorted_remove : (ks : List K) (at : ℕ) → IsStrictlySortedBy R ks → IsStrictlySortedBy R (remove ks at)
  unfolding IsStrictlySortedBy
  sorted_remove [] zero ordered = tt
  sorted_remove [] (suc at) ordered = tt
  sorted_remove (k ∷ ks) zero ordered = ordered.1
  sorted_remove (k ∷ ks) (suc at) ordered = (all_remove (λ y. R k y ≡ Less) ks at ordered.0, sorted_remove ks at ordered.1)

  all_at : (P : K → Type 0) (ks : List K) (at : ℕ) (k : K) → IsAt ks k at → AllByRecursion P ks → P k
  all_at P [] at k is h = let within = is.within in absurd (omega (arith, within))
  all_at P (x ∷ ks) zero k is h = subst P (is.here x) h.0
  all_at P (x ∷ ks) (suc at) k is h = let within = is.within in all_at P ks at k (record { within = omega (arith, within); here = is.here }) h.1

  pub taken_there : (ks : List K) (at : ℕ) (k : K) → IsStrictlySortedBy R ks → IsAt ks k at → (q : K) → list_any (is_at (R q)) (remove ks at) ≡ cond (is_at (R k) q) false (list_any (is_at (R q)) ks)
  unfolding IsStrictlySortedBy
  taken_there [] at k ordered is q = let within = is.within in absurd (omega (arith, within))
  taken_there (x ∷ ks) zero k ordered is q =
      subst (λ y. list_any (is_at (R q)) ks ≡ cond (is_at (R y) q) false (list_any (is_at (R q)) (x ∷ ks))) (is.here x)
      (by (is_eq (R q x)) refl ∙ ap (λ b. cond b false (list_any (is_at (R q)) (x ∷ ks))) ((eq_by_cmp_equiv o).symm q x))
    where
      by : (b : Bool) → is_eq (R q x) ≡ b → list_any (is_at (R q)) ks ≡ cond (is_eq (R q x)) false (list_any (is_at (R q)) (x ∷ ks))
      by true tie = none_tied x ks ordered.0 q tie ∙ sym (ap (λ b. cond b false (list_any (is_at (R q)) (x ∷ ks))) tie)
      by false apart = sym ((λ i. cond (apart i) false (apart i || list_any (is_at (R q)) ks)))
  taken_there (x ∷ ks) (suc at) k ordered is q =
      let within = is.within in
      let less : R x k ≡ Less = all_at (λ y. R x y ≡ Less) ks at k (record { within = omega (arith, within); here = is.here }) ordered.0 in
      ap (λ b. is_eq (R q x) || b) (taken_there ks at k ordered.1 (record { within = omega (arith, within); here = is.here }) q)
      ∙ by less (is_eq (R k q)) refl
    where
      by : R x k ≡ Less → (b : Bool) → is_eq (R k q) ≡ b → (is_eq (R q x) || cond (is_eq (R k q)) false (list_any (is_at (R q)) ks)) ≡ cond (is_eq (R k q)) false (is_eq (R q x) || list_any (is_at (R q)) ks)
      by less true tie =
          let same : k ≡ q = exact k q (tied (R k q) tie) in
          let above : R q x ≡ Greater = subst (λ y. R y x ≡ Greater) same (reversed x k less) in
          (λ i. is_eq (above i) || cond (tie i) false (list_any (is_at (R q)) ks)) ∙ sym (ap (λ b. cond b false (is_eq (R q x) || list_any (is_at (R q)) ks)) tie)
      by less false apart = (λ i. is_eq (R q x) || cond (apart i) false (list_any (is_at (R q)) ks)) ∙ sym (ap (λ b. cond b false (is_eq (R q x) || list_any (is_at (R q)) ks)) apart)

  pub not_taken : (ks : List K) (k : K) (at : ℕ) → IsGap R ks k at → (q : K) → list_any (is_at (R q)) ks ≡ cond (is_at (R k) q) false (list_any (is_at (R q)) ks)
  not_taken ks k at gap q = by (is_eq (R k q)) refl
    where
      by : (b : Bool) → is_eq (R k q) ≡ b → list_any (is_at (R q)) ks ≡ cond (is_eq (R k q)) false (list_any (is_at (R q)) ks)
      by true tie = ap (λ x. list_any (is_at (R x)) ks) (sym (exact k q (tied (R k q) tie))) ∙ at_gap ks k at gap ∙ sym (ap (λ b. cond b false (list_any (is_at (R q)) ks)) tie)
      by false apart = sym (ap (λ b. cond b false (list_any (is_at (R q)) ks)) apart)

  -- ---- entries

  module _ {X : Type 0} where
    within_keys : (es : List (K × X)) (at : ℕ) → at < length (keys_of es) → at < length es
    within_keys es at within = let long = length-keys_of es in omega (arith, within, long)

    -- the key at a place
    key_at : (es : List (K × X)) (at : ℕ) (d : K) → at < length es → (e : K × X) × (get_or (keys_of es) at d ≡ (get_or es at e).0)
    key_at [] at d within = absurd (omega (arith, within))
    key_at (e ∷ es) at d within = (e, get_or-map (λ (x : K × X). x.0) (e ∷ es) at e d within)

    pub entry_key : (es : List (K × X)) (k : K) (at : ℕ) (e : K × X) → IsAt (keys_of es) k at → (get_or es at e).0 ≡ k
    entry_key es k at e is = sym (get_or-map (λ (x : K × X). x.0) es at e e.0 (within_keys es at is.within)) ∙ is.here e.0

    less_at : (es : List (K × X)) (i j : ℕ) (e : K × X) → IsStrictlySortedBy R (keys_of es) → i < j → j < length es → R (get_or es i e).0 (get_or es j e).0 ≡ Less
    less_at es i j e ordered lt within =
        let long = length-keys_of es in
        let one = get_or-map (λ (x : K × X). x.0) es i e e.0 (omega (arith, lt, within)) in
        let two = get_or-map (λ (x : K × X). x.0) es j e e.0 within in
        (λ n. R (sym one n) (sym two n)) ∙ Less-from_sorted R (keys_of es) i j e.0 ordered lt (omega (arith, within, long))

    rises_entries : (es : List (K × X)) → IsStrictlySortedBy R (keys_of es) → (k : K) → IsNonDecreasingBy (λ (e : K × X). ordering_index (R e.0 k)) es
    rises_entries es ordered k = searchable_from_sorted o (λ (e : K × X). e.0) es k (λ i d low high. ap is_lt (reversed (get_or es i d).0 (get_or es (i + 1) d).0 (less_at es i (i + 1) d ordered (omega arith) high)))

    pub searched_entries : (es : List (K × X)) → IsStrictlySortedBy R (keys_of es) → (k : K) (r : Result ℕ ℕ) → IsSearchInRange r (length es) → IsBinarySearchResult (λ (e : K × X). R e.0 k) es r → IfOk r (IsAt (keys_of es) k) × IfErr r (IsGap R (keys_of es) k)
    searched_entries es ordered k (Ok at) within equal = (
      record {
        within = let long = length-keys_of es in omega (arith, within, long);
        here = λ d. let it = key_at es at d within in it.1 ∙ exact _ _ (equal it.0);
      },
      tt,
    )
    searched_entries es ordered k (Err at) within parted =
        let both = parted (rises_entries es ordered k) in
        let long = length-keys_of es in (
          tt,
          record {
            within = omega (arith, within, long);
            below = λ i d low high. let it = key_at es i d (omega (arith, high, within)) in subst (λ x. R x k ≡ Less) (sym it.1) (both.0 i it.0 low high);
            above = λ i d low high. let inside : i < length es = omega (arith, high, long) in let it = key_at es i d inside in subst (λ x. R x k ≡ Greater) (sym it.1) (both.1 i it.0 low inside);
          },
        )

    pub behind_entries : (es : List (K × X)) → IsStrictlySortedBy R (keys_of es) → (k : K) (e : K × X) → slice_get es (length es - 1) ≡ Some e → R e.0 k ≡ Less → IsGap R (keys_of es) k (length es)
    behind_entries es ordered k e is less =
        let long = length-keys_of es in
        subst (IsGap R (keys_of es) k) long
        (behind (keys_of es) ordered k e.0 (ap (λ n. slice_get (keys_of es) (n - 1)) long ∙ slice_get-map (λ (x : K × X). x.0) es (length es - 1) ∙ ap (option_map (λ (x : K × X). x.0)) is) less)

    -- ---- the map of entries

    pub got : (es : List (K × X)) (q : K) → get (from_entries {R = R} es) q ≡ lookup (is_at (R q)) es
    got es q = get-from_entries o es q ∙ find-lookup o q es

    pub found : (es : List (K × X)) → IsStrictlySortedBy R (keys_of es) → (k : K) (at : ℕ) (e : K × X) → IsAt (keys_of es) k at → get (from_entries {R = R} es) k ≡ Some (get_or es at e).1
    found es ordered k at e is =
        got es k
        ∙ lookup_from_place (eq_by_cmp_equiv o) es at k (get_or es at e).1 (IsDistinct-from_sorted R (keys_of es) ordered)
        (slice_get-get_or es at e (within_keys es at is.within) ∙ (λ i. Some (entry_key es k at e is i, (get_or es at e).1)))

    missed_entry : (es : List (K × X)) → IsStrictlySortedBy R (keys_of es) → (k : K) (at : ℕ) → IsGap R (keys_of es) k at → lookup (is_at (R k)) es ≡ None
    missed_entry es ordered k at gap =
        let long = length-keys_of es in
        lookup_at_gap o k es at ordered
        (λ j e lt is.
        let within = slice_get_within es j e is in
        subst (λ x. R k x ≡ Greater) (get_or-map (λ (x : K × X). x.0) es j e e.0 within ∙ ap (λ (x : K × X). x.0) (get_or_from_slice_get es j e e is)) (reversed (get_or (keys_of es) j e.0) k (gap.below j e.0 (omega arith) lt)))
        (λ e is.
        let within = slice_get_within es at e is in
        subst (λ x. R k x ≡ Less) (get_or-map (λ (x : K × X). x.0) es at e e.0 within ∙ ap (λ (x : K × X). x.0) (get_or_from_slice_get es at e e is)) (turned_over (get_or (keys_of es) at e.0) k (gap.above at e.0 (omega arith) (omega (arith, within, long)))))

    pub missed : (es : List (K × X)) → IsStrictlySortedBy R (keys_of es) → (k : K) (at : ℕ) → IsGap R (keys_of es) k at → get (from_entries {R = R} es) k ≡ None
    missed es ordered k at gap = got es k ∙ missed_entry es ordered k at gap

    -- what it has are the entries
    pub listed : (es : List (K × X)) → IsStrictlySortedBy R (keys_of es) → (k : K) (v : X) → (get (from_entries {R = R} es) k ≡ Some v) ↔ Contains es (k, v)
    listed es ordered k v = (
      λ there. Contains-from_lookup (tells_apart exact) k v es (sym (got es k) ∙ there),
      λ within. got es k ∙ lookup-from_Contains (eq_by_cmp_equiv o) k v es (IsDistinct-from_sorted R (keys_of es) ordered) within,
    )

    pub none_listed : (es : List (K × X)) → es ≡ [] → from_entries {R = R} es ≡ empty
    none_listed es none = same_map o exact _ _ (λ q. got es q ∙ ap (lookup (is_at (R q))) none ∙ sym (get-empty R q))

    pub none_sorted : (es : List (K × X)) → es ≡ [] → IsStrictlySortedBy R (keys_of es)
    unfolding IsStrictlySortedBy
    none_sorted es none = subst (λ (xs : List (K × X)). IsStrictlySortedBy R (keys_of xs)) (sym none) tt

    -- one comes
    keys_insert : (es : List (K × X)) (at : ℕ) (k : K) (v : X) → keys_of (insert es at (k, v)) ≡ insert (keys_of es) at k
    keys_insert es zero k v = refl
    keys_insert [] (suc at) k v = refl
    keys_insert (e ∷ es) (suc at) k v = ap (λ ks. e.0 ∷ ks) (keys_insert es at k v)

    module _ (es : List (K × X)) (ordered : IsStrictlySortedBy R (keys_of es)) (k : K) (at : ℕ) (v : X) where
      pub put_new : IsGap R (keys_of es) k at → from_entries {R = R} (insert es at (k, v)) ≡ finite.insert (from_entries es) k v
      put_new gap =
          same_map o exact _ _ (λ q.
          got (insert es at (k, v)) q
          ∙ lookup-insert (eq_by_cmp_equiv o) k v q es at (none_passes_from_lookup (is_at (R k)) es (missed_entry es ordered k at gap))
          ∙ ap (cond (eq_by_cmp R k q) (Some v)) (sym (got es q))
          ∙ sym (get-insert o _ k v q ∙ (λ i. cond ((eq_by_cmp_equiv o).symm q k i) (Some v) (get (from_entries {R = R} es) q))))

      pub sorted_new : IsGap R (keys_of es) k at → IsStrictlySortedBy R (keys_of (insert es at (k, v)))
      sorted_new gap = subst (IsStrictlySortedBy R) (sym (keys_insert es at k v)) (sorted_insert (keys_of es) at k ordered gap)

    -- one is written
    keys_set : (es : List (K × X)) (at : ℕ) (e : K × X) (v : X) → at < length es → keys_of (set es at ((get_or es at e).0, v)) ≡ keys_of es
    keys_set [] at e v within = absurd (omega (arith, within))
    keys_set (x ∷ es) zero e v within = refl
    keys_set (x ∷ es) (suc at) e v within = ap (λ ks. x.0 ∷ ks) (keys_set es at e v (omega (arith, within)))

    set_is : (es : List (K × X)) (at : ℕ) (e : K × X) (v : X) → IsStrictlySortedBy R (keys_of es) → at < length es → set es at ((get_or es at e).0, v) ≡ set_value (is_at (R (get_or es at e).0)) es v
    set_is [] at e v ordered within = absurd (omega (arith, within))
    set_is (x ∷ es) zero e v ordered within = sym (ap (λ b. cond b ((x.0, v) ∷ es) (x ∷ set_value (is_at (R x.0)) es v)) (ap is_eq (tied_itself o x.0)))
    set_is (x ∷ es) (suc at) e v ordered within =
        let apart = reversed x.0 (get_or es at e).0 (less_at (x ∷ es) 0 (suc at) e ordered (omega arith) within) in
        ap (λ rest. x ∷ rest) (set_is es at e v (sorted_tail R x.0 (keys_of es) ordered) (omega (arith, within)))
        ∙ sym (ap (λ b. cond b ((x.0, v) ∷ es) (x ∷ set_value (is_at (R (get_or es at e).0)) es v)) (ap is_eq apart))

    module _ (es : List (K × X)) (ordered : IsStrictlySortedBy R (keys_of es)) (k : K) (at : ℕ) (e : K × X) (is : IsAt (keys_of es) k at) where
      there_at : is_some (lookup (is_at (R k)) es) ≡ true
      there_at = ap is_some (sym (got es k) ∙ found es ordered k at e is)

      pub put_old : (v : X) → from_entries {R = R} (set es at ((get_or es at e).0, v)) ≡ finite.insert (from_entries es) k v
      put_old v =
          same_map o exact _ _ (λ q.
          got (set es at ((get_or es at e).0, v)) q
          ∙ ap (lookup (is_at (R q))) (set_is es at e v ordered (within_keys es at is.within) ∙ (λ i. set_value (is_at (R (entry_key es k at e is i))) es v))
          ∙ lookup-set_value (eq_by_cmp_equiv o) (is_at (R k)) (λ x y t. (eq_by_cmp_equiv o).congr k x y t) q v es there_at
          ∙ ap (cond (eq_by_cmp R k q) (Some v)) (sym (got es q))
          ∙ sym (get-insert o _ k v q ∙ (λ i. cond ((eq_by_cmp_equiv o).symm q k i) (Some v) (get (from_entries {R = R} es) q))))

      pub sorted_old : (v : X) → IsStrictlySortedBy R (keys_of (set es at ((get_or es at e).0, v)))
      sorted_old v = subst (IsStrictlySortedBy R) (sym (keys_set es at e v (within_keys es at is.within))) ordered

    -- one is taken
    keys_remove : (es : List (K × X)) (at : ℕ) → keys_of (remove es at) ≡ remove (keys_of es) at
    keys_remove [] zero = refl
    keys_remove [] (suc at) = refl
    keys_remove (e ∷ es) zero = refl
    keys_remove (e ∷ es) (suc at) = ap (λ ks. e.0 ∷ ks) (keys_remove es at)

    pub sorted_taken : (es : List (K × X)) (at : ℕ) → IsStrictlySortedBy R (keys_of es) → IsStrictlySortedBy R (keys_of (remove es at))
    sorted_taken es at ordered = subst (IsStrictlySortedBy R) (sym (keys_remove es at)) (sorted_remove (keys_of es) at ordered)

    remove_is : (es : List (K × X)) (at : ℕ) (e : K × X) → IsStrictlySortedBy R (keys_of es) → at < length es → remove es at ≡ remove_entry (is_at (R (get_or es at e).0)) es
    remove_is [] at e ordered within = absurd (omega (arith, within))
    remove_is (x ∷ es) zero e ordered within = sym (ap (λ b. cond b es (x ∷ remove_entry (is_at (R x.0)) es)) (ap is_eq (tied_itself o x.0)))
    remove_is (x ∷ es) (suc at) e ordered within =
        let apart = reversed x.0 (get_or es at e).0 (less_at (x ∷ es) 0 (suc at) e ordered (omega arith) within) in
        ap (λ rest. x ∷ rest) (remove_is es at e (sorted_tail R x.0 (keys_of es) ordered) (omega (arith, within)))
        ∙ sym (ap (λ b. cond b es (x ∷ remove_entry (is_at (R (get_or es at e).0)) es)) (ap is_eq apart))

    pub taken : (es : List (K × X)) → IsStrictlySortedBy R (keys_of es) → (k : K) (at : ℕ) (e : K × X) → IsAt (keys_of es) k at → from_entries {R = R} (remove es at) ≡ finite.remove (from_entries es) k
    taken es ordered k at e is =
        same_map o exact _ _ (λ q.
        got (remove es at) q
        ∙ ap (lookup (is_at (R q))) (remove_is es at e ordered (within_keys es at is.within) ∙ (λ i. remove_entry (is_at (R (entry_key es k at e is i))) es))
        ∙ lookup-remove_entry (eq_by_cmp_equiv o) (is_at (R k)) (λ x y t. (eq_by_cmp_equiv o).congr k x y t) q es (IsDistinct-from_sorted R (keys_of es) ordered)
        ∙ ap (cond (eq_by_cmp R k q) None) (sym (got es q))
        ∙ sym (get-remove o _ k q ∙ (λ i. cond ((eq_by_cmp_equiv o).symm q k i) None (get (from_entries {R = R} es) q))))

    -- one that is not there is
    pub none_taken : (m : finite.FinMap R X) (k : K) → get m k ≡ None → m ≡ finite.remove m k
    none_taken m k none =
        same_map o exact _ _ (λ q.
        elim (cases_Bool (eq_by_cmp R q k)) [
          | inl tie ↦ ap (get m) (exact q k (tied (R q k) tie)) ∙ none ∙ sym (get-remove o m k q ∙ ap (λ b. cond b None (get m q)) tie)
          | inr apart ↦ sym (get-remove o m k q ∙ ap (λ b. cond b None (get m q)) apart)
        ])

    -- a key that is given what it has
    pub same_put : (m : finite.FinMap R X) (k : K) (v : X) → get m k ≡ Some v → m ≡ finite.insert m k v
    same_put m k v is =
        same_map o exact _ _ (λ q.
        elim (cases_Bool (eq_by_cmp R q k)) [
          | inl tie ↦ ap (get m) (exact q k (tied (R q k) tie)) ∙ is ∙ sym (get-insert o m k v q ∙ ap (λ b. cond b (Some v) (get m q)) tie)
          | inr apart ↦ sym (get-insert o m k v q ∙ ap (λ b. cond b (Some v) (get m q)) apart)
        ])

    -- those that pass a test are left
    kept_above : (x : K) (p : K × X → Bool) (es : List (K × X)) → AllByRecursion (λ k. R x k ≡ Less) (keys_of es) → AllByRecursion (λ k. R x k ≡ Less) (keys_of (filter p es))
    kept_above x p [] h = tt
    kept_above x p (e ∷ es) h = elim (cases_Bool (p e)) [
      | inl inside ↦ subst (λ b. AllByRecursion (λ k. R x k ≡ Less) (keys_of (cond b (e ∷ filter p es) (filter p es)))) (sym inside) (h.0, kept_above x p es h.1)
      | inr not_so ↦ subst (λ b. AllByRecursion (λ k. R x k ≡ Less) (keys_of (cond b (e ∷ filter p es) (filter p es)))) (sym not_so) (kept_above x p es h.1)
    ]

    pub sorted_left : (p : K × X → Bool) (es : List (K × X)) → IsStrictlySortedBy R (keys_of es) → IsStrictlySortedBy R (keys_of (filter p es))
    unfolding IsStrictlySortedBy
    sorted_left p [] h = tt
    sorted_left p (e ∷ es) h = elim (cases_Bool (p e)) [
      | inl inside ↦ subst (λ b. IsStrictlySortedBy R (keys_of (cond b (e ∷ filter p es) (filter p es)))) (sym inside) (kept_above e.0 p es h.0, sorted_left p es h.1)
      | inr not_so ↦ subst (λ b. IsStrictlySortedBy R (keys_of (cond b (e ∷ filter p es) (filter p es)))) (sym not_so) (sorted_left p es h.1)
    ]

    -- how many there are
    none_below : (x : K) (es : List (K × X)) → AllByRecursion (λ k. R x k ≡ Less) (keys_of es) → lookup (is_at (R x)) es ≡ None
    none_below x [] h = refl
    none_below x (e ∷ es) h = ap (λ r. cond (is_eq r) (Some e.1) (lookup (is_at (R x)) es)) h.0 ∙ none_below x es h.1

    pub counted : (es : List (K × X)) → IsStrictlySortedBy R (keys_of es) → len (from_entries {R = R} es) ≡ length es
    unfolding IsStrictlySortedBy
    counted [] ordered = len-empty R X
    counted (e ∷ es) ordered =
        len-insert o (from_entries es) e.0 e.1
        ∙ (λ i. cond (is_some ((got es e.0 ∙ none_below e.0 es ordered.0) i)) (counted es ordered.1 i) (counted es ordered.1 i + 1))
        ∙ omega arith
