-- A list of sources in order, as the finite map that it is seen as.
use Rattle.std.proofs.Common.{◌≡◌, ℕ, zero, suc, ◌+◌, ◌-◌, ◌<◌, ◌≤◌, ◌==◌, inl, inr, true, false, cond, refl, sym, ap, subst, ◌∙◌, arith, List, [], ◌∷◌, ◌++◌, length, get_or, set, drop, Some, None, Result, Ok, Err, IfOk, IfErr, append-nil}
use Rattle.std.specs.declared.cmp.Ordering.{Ordering}
use Rattle.std.specs.declared.cmp.Ordering.TheVariants.{Less, Equal, Greater}
use Rattle.std.specs.Cmp.{eq_by_cmp_equiv, tied_itself}
use Rattle.std.specs.Ordering.{is_eq, is_lt, is_le, eq_by_cmp, ordering_index, ordering_reverse}
use Rattle.std.specs.Option.{is_some}
use Rattle.std.specs.List.{AllByRecursion, Contains, insert, remove, slice_get}
use Rattle.std.specs.List.Sorted.{IsStrictlySortedBy, IsSearchInRange, IsBinarySearchResult, IsNonDecreasingBy}
use Rattle.std.specs.Map.{keys_of, lookup, set_value, remove_entry, update_all}
use Rattle.std.specs.FinMap.{from_entries, empty, get, len, get-empty, get-insert, get-remove, get-from_entries, len-insert, len-empty, same_map}
use Rattle.std.specs.FinMap as map
use Rattle.std.specs.BTreeMap.{is_at}
use Rattle.std.proofs.Math.ListN.{drop_of_length-le}
use Rattle.std.proofs.lemmas.Bool.{cases_Bool, cases_lt}
use Rattle.std.proofs.lemmas.Bool.Decides.{nat_tests}
use Rattle.std.proofs.lemmas.Option.{slice_get-get_or, get_or_from_slice_get, slice_get_within}
use Rattle.std.proofs.lemmas.List.{get_or-map, get_or_default, drop_more}
use Rattle.std.proofs.lemmas.List.Sorted.{searchable_from_sorted}
use Rattle.std.proofs.lemmas.Map.{none_passes_from_lookup, lookup-insert, lookup-set_value, lookup-remove_entry, keys-set_value}
use Rattle.std.proofs.lemmas.Map.Entries.{length-keys_of, lookup_from_place, lookup_at_gap}
use Rattle.std.proofs.lemmas.Map.Keys.{sorted_tail, IsDistinct-from_sorted, Less-from_sorted}
use Rattle.std.proofs.lemmas.Map.Made.{update_all_none}
use Rattle.pm_types.specs.declared.source.RefSource.{RefSource}
use Rattle.pm_types.specs.contracts.source.RefSourceOrd.TheImpl.{ghosts}
use Rattle.pm_types.specs.Orders.{source_cmp}
use Rattle.pm_types.proofs.Orders.{sources_total, sources_antisymmetric}
use Rattle.pm_types.proofs.Shown.{find-lookup, tied}
use Rattle.pm_remset.specs.Gathered.{gathered}
use Rattle.pm_remset.specs.Listed.{Entry, IsInOrder, IsEntry, IsGap, IsFirstFrom, named}
use Rattle.pm_remset.specs.Remembered.{Fact, Remembered, EachEntry, IsFirstEntry, FindsAtOrAfter, AppendsSources}
use Rattle.pm_remset.proofs.Gathers.{get_told}
use Rattle.pm_remset.proofs.Nexts.{Searched, below_all, none_below, search_goes_on, search_finds, search_ends}
use Rattle.pm_remset.proofs.Sources.{derived_is}

-- what the map answers
pub got : (es : List Entry) (q : RefSource) → get (from_entries {R = source_cmp} es) q ≡ lookup (is_at (source_cmp q)) es
got es q = get-from_entries sources_total es q ∙ find-lookup sources_total q es

pub none_in_order : IsInOrder []
unfolding IsStrictlySortedBy
none_in_order = tt

-- a source that is below another is the one that the other is above
reversed : (x y : RefSource) → source_cmp x y ≡ Less → source_cmp y x ≡ Greater
reversed x y less = sources_total.antisymm y x ∙ ap ordering_reverse less

turned : (x y : RefSource) → source_cmp x y ≡ Greater → source_cmp y x ≡ Less
turned x y greater = sources_total.antisymm y x ∙ ap ordering_reverse greater

-- an entry is below those behind it
less_at : (es : List Entry) (i j : ℕ) (d : Entry) → IsInOrder es → i < j → j < length es → source_cmp (get_or es i d).0 (get_or es j d).0 ≡ Less
less_at es i j d ordered lt within =
    let long = length-keys_of es in
    let one = get_or-map (λ (e : Entry). e.0) es i d d.0 (omega (arith, lt, within)) in
    let two = get_or-map (λ (e : Entry). e.0) es j d d.0 within in
    (λ n. source_cmp (sym one n) (sym two n)) ∙ Less-from_sorted source_cmp (keys_of es) i j d.0 ordered lt (omega (arith, within, long))

-- ---- a search by halving

rises : (es : List Entry) → IsInOrder es → (k : RefSource) → IsNonDecreasingBy (λ (e : Entry). ordering_index (source_cmp e.0 k)) es
rises es ordered k = searchable_from_sorted sources_total (λ (e : Entry). e.0) es k (λ i d low high. ap is_lt (reversed (get_or es i d).0 (get_or es (i + 1) d).0 (less_at es i (i + 1) d ordered (omega arith) high)))

-- it ends at the source's entry, or at the place for one
pub searched : (es : List Entry) → IsInOrder es → (k : RefSource) (r : Result ℕ ℕ) → IsSearchInRange r (length es) → IsBinarySearchResult (λ (e : Entry). ghosts.cmp e.0 k) es r → IfOk r (IsEntry es k) × IfErr r (IsGap es k)
searched es ordered k r within answer = by r within (subst (λ R. IsBinarySearchResult (λ (e : Entry). R e.0 k) es r) derived_is answer)
  where
    by : (r : Result ℕ ℕ) → IsSearchInRange r (length es) → IsBinarySearchResult (λ (e : Entry). source_cmp e.0 k) es r → IfOk r (IsEntry es k) × IfErr r (IsGap es k)
    by (Ok at) within equal = (record { within = within; here = λ d. sources_antisymmetric _ _ (equal d) }, tt)
    by (Err at) within parted = (let both = parted (rises es ordered k) in (tt, record { within = within; below = both.0; above = both.1 }))

-- what the source names where it has an entry
pub entry_found : (es : List Entry) → IsInOrder es → (k : RefSource) (at : ℕ) (d : Entry) → IsEntry es k at → lookup (is_at (source_cmp k)) es ≡ Some (get_or es at d).1
entry_found es ordered k at d is =
    lookup_from_place (eq_by_cmp_equiv sources_total) es at k (get_or es at d).1 (IsDistinct-from_sorted source_cmp (keys_of es) ordered)
    (slice_get-get_or es at d is.within ∙ (λ i. Some (is.here d i, (get_or es at d).1)))

-- it names none where it has a place alone
pub gap_found : (es : List Entry) → IsInOrder es → (k : RefSource) (at : ℕ) → IsGap es k at → lookup (is_at (source_cmp k)) es ≡ None
gap_found es ordered k at gap =
    lookup_at_gap sources_total k es at ordered
    (λ j e lt is. subst (λ (x : Entry). source_cmp k x.0 ≡ Greater) (get_or_from_slice_get es j e e is) (reversed (get_or es j e).0 k (gap.below j e (omega arith) lt)))
    (λ e is. subst (λ (x : Entry). source_cmp k x.0 ≡ Less) (get_or_from_slice_get es at e e is) (turned (get_or es at e).0 k (gap.above at e (omega arith) (slice_get_within es at e is))))

-- it ends at the first entry that is not below the source, or behind all of them
pub first_at_entry : (es : List Entry) → IsInOrder es → (k : RefSource) (at : ℕ) → IsEntry es k at → IsFirstFrom es k at
first_at_entry es ordered k at is =
    let within = is.within in
    record {
      within = omega (arith, within);
      below = λ i d low high. subst (λ x. source_cmp (get_or es i d).0 x ≡ Less) (is.here d) (less_at es i at d ordered high within);
      above = λ i d low high. elim (cases_lt at i) [
        | inl behind ↦ ap is_le (subst (λ x. source_cmp x (get_or es i d).0 ≡ Less) (is.here d) (less_at es at i d ordered behind high))
        | inr before ↦ (let same : at ≡ i = omega (arith, low, before) in
            ap is_le (subst (λ x. source_cmp k x ≡ Equal) (sym (is.here d) ∙ ap (λ n. (get_or es n d).0) same) (tied_itself sources_total k)))
      ];
    }

pub first_at_gap : (es : List Entry) (k : RefSource) (at : ℕ) → IsGap es k at → IsFirstFrom es k at
first_at_gap es k at gap = record {
  within = gap.within;
  below = gap.below;
  above = λ i d low high. ap is_le (turned (get_or es i d).0 k (gap.above i d low high));
}

pub lesser : (o : Ordering) → is_lt o ≡ true → o ≡ Less
lesser Less is = refl
lesser Equal is = cc
lesser Greater is = cc

-- a source above the last one has its place behind all of them
pub gap_behind : (es : List Entry) → IsInOrder es → (k : RefSource) (e : Entry) → slice_get es (length es - 1) ≡ Some e → source_cmp e.0 k ≡ Less → IsGap es k (length es)
gap_behind es ordered k e last less = record {
  within = omega arith;
  below = λ i d low high. elim (cases_lt i (length es - 1)) [
    | inl before ↦ sources_total.trans (get_or es i d).0 e.0 k
        (subst (λ (x : Entry). source_cmp (get_or es i d).0 x.0 ≡ Less) (at_last d high) (less_at es i (length es - 1) d ordered before (omega (arith, high)))) less
    | inr not_before ↦ (let same : i ≡ length es - 1 = omega (arith, high, not_before) in
        subst (λ (x : Entry). source_cmp x.0 k ≡ Less) (sym (ap (λ n. get_or es n d) same ∙ at_last d high)) less)
  ];
  above = λ i d low high. absurd (omega (arith, low, high));
}
  where
    at_last : {i : ℕ} (d : Entry) → i < length es → get_or es (length es - 1) d ≡ e
    at_last d high = get_or_default es (length es - 1) d e (omega (arith, high)) ∙ get_or_from_slice_get es (length es - 1) e e last

-- ---- one source more

-- none at all
pub none_listed : (es : List Entry) → es ≡ [] → from_entries {R = source_cmp} es ≡ empty
none_listed es none = same_map sources_total sources_antisymmetric _ _ (λ q. got es q ∙ ap (lookup (is_at (source_cmp q))) none ∙ sym (get-empty source_cmp q))

module _ (es : List Entry) (ordered : IsInOrder es) (k : RefSource) (at : ℕ) (slot : ℕ) where
  pub put_new : IsGap es k at → from_entries {R = source_cmp} (insert es at (k, slot)) ≡ map.insert (from_entries es) k slot
  put_new gap =
      same_map sources_total sources_antisymmetric _ _ (λ q.
      got (insert es at (k, slot)) q
      ∙ lookup-insert (eq_by_cmp_equiv sources_total) k slot q es at (none_passes_from_lookup (is_at (source_cmp k)) es (gap_found es ordered k at gap))
      ∙ ap (cond (eq_by_cmp source_cmp k q) (Some slot)) (sym (got es q))
      ∙ sym (get-insert sources_total _ k slot q ∙ (λ i. cond ((eq_by_cmp_equiv sources_total).symm q k i) (Some slot) (get (from_entries {R = source_cmp} es) q))))

all_insert : (P : RefSource → Type 0) (es : List Entry) (at : ℕ) (x : Entry) → AllByRecursion P (keys_of es) → P x.0 → AllByRecursion P (keys_of (insert es at x))
all_insert P es zero x h p = (p, h)
all_insert P [] (suc at) x h p = (p, tt)
all_insert P (e ∷ es) (suc at) x h p = (h.0, all_insert P es at x h.1 p)

pub in_order_insert : (es : List Entry) (at : ℕ) (k : RefSource) (slot : ℕ) → IsInOrder es → IsGap es k at → IsInOrder (insert es at (k, slot))
unfolding IsStrictlySortedBy
in_order_insert [] zero k slot ordered gap = (tt, tt)
in_order_insert [] (suc at) k slot ordered gap = (tt, tt)
in_order_insert (e ∷ es) zero k slot ordered gap =
    let above : source_cmp k e.0 ≡ Less = turned e.0 k (gap.above 0 e (omega arith) (omega arith)) in
    ((above, below_all k e.0 (keys_of es) above ordered.0), ordered)
in_order_insert (e ∷ es) (suc at) k slot ordered gap =
    let within = gap.within in (
      all_insert (λ y. source_cmp e.0 y ≡ Less) es at (k, slot) ordered.0 (gap.below 0 e (omega arith) (omega arith)),
      in_order_insert es at k slot ordered.1 (record {
        within = omega (arith, within);
        below = λ j d low high. gap.below (suc j) d (omega arith) (omega (arith, high));
        above = λ j d low high. gap.above (suc j) d (omega (arith, low)) (omega (arith, high));
      }),
    )

-- ---- one entry changed

set_is : (es : List Entry) (at : ℕ) (d : Entry) (slot : ℕ) → IsInOrder es → at < length es → set es at ((get_or es at d).0, slot) ≡ set_value (is_at (source_cmp (get_or es at d).0)) es slot
set_is [] at d slot ordered lt = absurd (omega (arith, lt))
set_is (e ∷ es) zero d slot ordered lt = sym (ap (λ b. cond b ((e.0, slot) ∷ es) (e ∷ set_value (is_at (source_cmp e.0)) es slot)) (ap is_eq (tied_itself sources_total e.0)))
set_is (e ∷ es) (suc at) d slot ordered lt =
    let apart = reversed e.0 (get_or es at d).0 (less_at (e ∷ es) 0 (suc at) d ordered (omega arith) lt) in
    ap (λ rest. e ∷ rest) (set_is es at d slot (sorted_tail source_cmp e.0 (keys_of es) ordered) (omega (arith, lt)))
    ∙ sym (ap (λ b. cond b ((e.0, slot) ∷ es) (e ∷ set_value (is_at (source_cmp (get_or es at d).0)) es slot)) (ap is_eq apart))

module _ (es : List Entry) (ordered : IsInOrder es) (k : RefSource) (at : ℕ) (d : Entry) (is : IsEntry es k at) where
  tests : is_at (source_cmp (get_or es at d).0) ≡ is_at (source_cmp k)
  tests i = is_at (source_cmp (is.here d i))

  pub put_old : (slot : ℕ) → from_entries {R = source_cmp} (set es at ((get_or es at d).0, slot)) ≡ map.insert (from_entries es) k slot
  put_old slot =
      same_map sources_total sources_antisymmetric _ _ (λ q.
      got (set es at ((get_or es at d).0, slot)) q
      ∙ ap (lookup (is_at (source_cmp q))) (set_is es at d slot ordered is.within ∙ (λ i. set_value (tests i) es slot))
      ∙ lookup-set_value (eq_by_cmp_equiv sources_total) (is_at (source_cmp k)) (λ x y t. (eq_by_cmp_equiv sources_total).congr k x y t) q slot es (ap is_some (entry_found es ordered k at d is))
      ∙ ap (cond (eq_by_cmp source_cmp k q) (Some slot)) (sym (got es q))
      ∙ sym (get-insert sources_total _ k slot q ∙ (λ i. cond ((eq_by_cmp_equiv sources_total).symm q k i) (Some slot) (get (from_entries {R = source_cmp} es) q))))

  pub in_order_set : (slot : ℕ) → IsInOrder (set es at ((get_or es at d).0, slot))
  in_order_set slot =
      subst (IsStrictlySortedBy source_cmp)
      (sym (ap keys_of (set_is es at d slot ordered is.within) ∙ keys-set_value (is_at (source_cmp (get_or es at d).0)) es slot)) ordered

-- ---- one entry taken

remove_is : (es : List Entry) (at : ℕ) (d : Entry) → IsInOrder es → at < length es → remove es at ≡ remove_entry (is_at (source_cmp (get_or es at d).0)) es
remove_is [] at d ordered lt = absurd (omega (arith, lt))
remove_is (e ∷ es) zero d ordered lt = sym (ap (λ b. cond b es (e ∷ remove_entry (is_at (source_cmp e.0)) es)) (ap is_eq (tied_itself sources_total e.0)))
remove_is (e ∷ es) (suc at) d ordered lt =
    let apart = reversed e.0 (get_or es at d).0 (less_at (e ∷ es) 0 (suc at) d ordered (omega arith) lt) in
    ap (λ rest. e ∷ rest) (remove_is es at d (sorted_tail source_cmp e.0 (keys_of es) ordered) (omega (arith, lt)))
    ∙ sym (ap (λ b. cond b es (e ∷ remove_entry (is_at (source_cmp (get_or es at d).0)) es)) (ap is_eq apart))

pub taken : (es : List Entry) → IsInOrder es → (k : RefSource) (at : ℕ) (d : Entry) → IsEntry es k at → from_entries {R = source_cmp} (remove es at) ≡ map.remove (from_entries es) k
taken es ordered k at d is =
    same_map sources_total sources_antisymmetric _ _ (λ q.
    got (remove es at) q
    ∙ ap (lookup (is_at (source_cmp q))) (remove_is es at d ordered is.within ∙ (λ i. remove_entry (is_at (source_cmp (is.here d i))) es))
    ∙ lookup-remove_entry (eq_by_cmp_equiv sources_total) (is_at (source_cmp k)) (λ x y t. (eq_by_cmp_equiv sources_total).congr k x y t) q es (IsDistinct-from_sorted source_cmp (keys_of es) ordered)
    ∙ ap (cond (eq_by_cmp source_cmp k q) None) (sym (got es q))
    ∙ sym (get-remove sources_total _ k q ∙ (λ i. cond ((eq_by_cmp_equiv sources_total).symm q k i) None (get (from_entries {R = source_cmp} es) q))))

all_remove : (P : RefSource → Type 0) (es : List Entry) (at : ℕ) → AllByRecursion P (keys_of es) → AllByRecursion P (keys_of (remove es at))
all_remove P [] zero h = tt
all_remove P [] (suc at) h = tt
all_remove P (e ∷ es) zero h = h.1
all_remove P (e ∷ es) (suc at) h = (h.0, all_remove P es at h.1)

pub in_order_remove : (es : List Entry) (at : ℕ) → IsInOrder es → IsInOrder (remove es at)
unfolding IsStrictlySortedBy
in_order_remove [] zero ordered = tt
in_order_remove [] (suc at) ordered = tt
in_order_remove (e ∷ es) zero ordered = ordered.1
in_order_remove (e ∷ es) (suc at) ordered = (all_remove (λ y. source_cmp e.0 y ≡ Less) es at ordered.0, in_order_remove es at ordered.1)

-- a source that names nothing is taken by doing nothing
pub none_taken : (set : Remembered) (k : RefSource) → get set k ≡ None → set ≡ map.remove set k
none_taken set k none =
    same_map sources_total sources_antisymmetric _ _ (λ q.
    elim (cases_Bool (eq_by_cmp source_cmp q k)) [
      | inl tie ↦ ap (get set) (sources_antisymmetric q k (tied (source_cmp q k) tie)) ∙ none ∙ sym (get-remove sources_total set k q ∙ ap (λ b. cond b None (get set q)) tie)
      | inr apart ↦ sym (get-remove sources_total set k q ∙ ap (λ b. cond b None (get set q)) apart)
    ])

-- ---- how many there are

pub counted : (es : List Entry) → IsInOrder es → len (from_entries {R = source_cmp} es) ≡ length es
unfolding IsStrictlySortedBy
counted [] ordered = len-empty source_cmp ℕ
counted (e ∷ es) ordered =
    len-insert sources_total (from_entries es) e.0 e.1
    ∙ (λ i. cond (is_some ((got es e.0 ∙ none_below e.0 es ordered.0) i)) (counted es ordered.1 i) (counted es ordered.1 i + 1))
    ∙ omega arith

-- ---- a list that is told of, one source after another

pub gathered_same : (es : List Entry) → IsInOrder es → gathered es ≡ from_entries {R = source_cmp} es
gathered_same es ordered =
    same_map sources_total sources_antisymmetric _ _ (λ q.
    get_told es empty (λ _. None) (get-empty source_cmp) q
    ∙ ap (λ R. update_all (eq_by_cmp R) (λ _. None) es q) derived_is
    ∙ update_all_none (eq_by_cmp_equiv sources_total) (eq_by_cmp source_cmp) (λ x y. refl) es q (IsDistinct-from_sorted source_cmp (keys_of es) ordered)
    ∙ sym (got es q))

-- ---- a search from the front

-- before it
pub listed_begins : (set : Remembered) (fails : Fact) (es : List Entry) → from_entries {R = source_cmp} es ≡ set → IsInOrder es → Searched set fails es
listed_begins set fails es seen ordered =
    let at : (q : RefSource) → get set q ≡ lookup (is_at (source_cmp q)) es = λ q. ap (λ s. get s q) (sym seen) ∙ got es q in
    record {
      ordered = ordered;
      left_there = λ q n is. at q ∙ is;
      others_failed = λ q n is. inr (sym (at q) ∙ is);
    }

-- the test failed at the first so many entries
pub passed_over : (set : Remembered) (fails : Fact) (n : ℕ) (es : List Entry) → Searched set fails es → ((i : ℕ) (d : Entry) → i < n → i < length es → fails (get_or es i d).0 (get_or es i d).1) → Searched set fails (drop n es)
passed_over set fails zero es s f = s
passed_over set fails (suc n) [] s f = s
passed_over set fails (suc n) (e ∷ es) s f =
    passed_over set fails n es (search_goes_on set fails (e ∷ es) e es refl s (f 0 e (omega arith) (omega arith))) (λ i d lt within. f (suc i) d (omega (arith, lt)) (omega (arith, within)))

-- one entry more, which is that at place i
module _ (set : Remembered) (fails : Fact) (es : List Entry) (i : ℕ) (searched : Searched set fails (drop i es)) where
  pub looks_on : (d : Entry) → i < length es → fails (get_or es i d).0 (get_or es i d).1 → Searched set fails (drop (i + 1) es)
  looks_on d within failed = search_goes_on set fails (drop i es) (get_or es i d) (drop (i + 1) es) (drop_more es i d within) searched failed

  pub looks_found : (d : Entry) → i < length es → (passes : Fact) → passes (get_or es i d).0 (get_or es i d).1 → IsFirstEntry passes fails set (get_or es i d).0 (get_or es i d).1
  looks_found d within passes passed = search_finds set fails (drop i es) (get_or es i d) (drop (i + 1) es) (drop_more es i d within) searched passes passed

  pub looks_in_vain : length es ≤ i → EachEntry fails set
  looks_in_vain all = search_ends set fails (drop i es) (drop_of_length-le es all) searched

-- the first entry that is not below a source, and none where all are
module _ (set : Remembered) (es : List Entry) (seen : from_entries {R = source_cmp} es ≡ set) (ordered : IsInOrder es) (from : RefSource) (at : ℕ) (first : IsFirstFrom es from at) where
  abbrev fails : Fact
  fails source _ = is_le (source_cmp from source) ≡ false

  left : Searched set fails (drop at es)
  left = passed_over set fails at es (listed_begins set fails es seen ordered) (λ i d lt within. ap is_le (reversed (get_or es i d).0 from (first.below i d (omega arith) lt)))

  pub found_from : (e : Entry) → at < length es → e ≡ get_or es at e → FindsAtOrAfter set from (Some e)
  found_from e within is =
      search_finds set fails (drop at es) e (drop (at + 1) es) (drop_more es at e within ∙ ap (λ x. x ∷ drop (at + 1) es) (sym is)) left (λ source _. is_le (source_cmp from source) ≡ true)
      (subst (λ (x : Entry). is_le (source_cmp from x.0) ≡ true) (sym is) (first.above at e (omega arith) within))

  pub none_from : length es ≤ at → FindsAtOrAfter set from None
  none_from all = search_ends set fails (drop at es) (drop_of_length-le es all) left

-- ---- the sources of a slot

here : (slot : ℕ) (e : Entry) (es : List Entry) → e.1 ≡ slot → named slot (e ∷ es) ≡ e.0 ∷ named slot es
here slot e es is = ap (λ b. cond b (e.0 ∷ named slot es) (named slot es)) (let same : (e.1 == slot) ≡ true = grind (arith, nat_tests, is) in same)

-- what was appended so far, and what is once the entries that are left were looked at
pub record Gathers (slot : ℕ) (before out : List RefSource) (all left : List Entry) : Type 0 where
  pub so_far : List RefSource
  pub appended : out ≡ before ++ so_far
  pub at_end : out ++ named slot left ≡ before ++ named slot all

pub gathers_all : (slot : ℕ) (before out : List RefSource) (all left : List Entry) → left ≡ [] → Gathers slot before out all left → out ≡ before ++ named slot all
gathers_all slot before out all rest none g = sym (append-nil out) ∙ ap (λ xs. out ++ xs) (sym (ap (named slot) none)) ∙ g.at_end

all_named : (P : RefSource → Type 0) (slot : ℕ) (es : List Entry) → AllByRecursion P (keys_of es) → AllByRecursion P (named slot es)
all_named P slot [] h = tt
all_named P slot (e ∷ es) h =
    elim (cases_Bool (e.1 == slot)) [
      | inl is ↦ subst (AllByRecursion P) (sym (ap (λ b. cond b (e.0 ∷ named slot es) (named slot es)) is)) (h.0, all_named P slot es h.1)
      | inr apart ↦ subst (AllByRecursion P) (sym (ap (λ b. cond b (e.0 ∷ named slot es) (named slot es)) apart)) (all_named P slot es h.1)
    ]

named_in_order : (slot : ℕ) (es : List Entry) → IsInOrder es → IsStrictlySortedBy source_cmp (named slot es)
unfolding IsStrictlySortedBy
named_in_order slot [] ordered = tt
named_in_order slot (e ∷ es) ordered =
    elim (cases_Bool (e.1 == slot)) [
      | inl is ↦ subst (IsStrictlySortedBy source_cmp) (sym (ap (λ b. cond b (e.0 ∷ named slot es) (named slot es)) is)) (all_named (λ y. source_cmp e.0 y ≡ Less) slot es ordered.0, named_in_order slot es ordered.1)
      | inr apart ↦ subst (IsStrictlySortedBy source_cmp) (sym (ap (λ b. cond b (e.0 ∷ named slot es) (named slot es)) apart)) (named_in_order slot es ordered.1)
    ]

-- they name the slot
each_named : (set : Remembered) (slot : ℕ) (es : List Entry) → AllByRecursion (λ (e : Entry). get set e.0 ≡ Some e.1) es → AllByRecursion (λ source. get set source ≡ Some slot) (named slot es)
each_named set slot [] h = tt
each_named set slot (e ∷ es) h =
    elim (cases_Bool (e.1 == slot)) [
      | inl is ↦ (let at : e.1 ≡ slot = grind (arith, nat_tests, is) in
          subst (AllByRecursion (λ source. get set source ≡ Some slot)) (sym (here slot e es at)) (h.0 ∙ ap Some at, each_named set slot es h.1))
      | inr apart ↦ subst (AllByRecursion (λ source. get set source ≡ Some slot)) (sym (ap (λ b. cond b (e.0 ∷ named slot es) (named slot es)) apart)) (each_named set slot es h.1)
    ]

each_there : (set : Remembered) (es : List Entry) → ((i : ℕ) (d : Entry) → i < length es → get set (get_or es i d).0 ≡ Some (get_or es i d).1) → AllByRecursion (λ (e : Entry). get set e.0 ≡ Some e.1) es
each_there set [] h = tt
each_there set (e ∷ es) h = (h 0 e (omega arith), each_there set es (λ i d within. h (suc i) d (omega (arith, within))))

-- each source that names it is among them
among_named : (slot : ℕ) (source : RefSource) (es : List Entry) → lookup (is_at (source_cmp source)) es ≡ Some slot → Contains (named slot es) source
among_named slot source [] found = cc
among_named slot source (e ∷ es) found =
    elim (cases_Bool (is_eq (source_cmp source e.0))) [
      | inl tie ↦ (let at : Some e.1 ≡ Some slot = sym (ap (λ b. cond b (Some e.1) (lookup (is_at (source_cmp source)) es)) tie) ∙ found in
          let is : e.1 ≡ slot = cc in
          subst (λ xs. Contains xs source) (sym (here slot e es is)) (0, omega arith, sym (sources_antisymmetric source e.0 (tied (source_cmp source e.0) tie))))
      | inr other ↦ (let later = among_named slot source es (sym (ap (λ b. cond b (Some e.1) (lookup (is_at (source_cmp source)) es)) other) ∙ found) in
          elim (cases_Bool (e.1 == slot)) [
            | inl is ↦ subst (λ xs. Contains xs source) (sym (ap (λ b. cond b (e.0 ∷ named slot es) (named slot es)) is)) (among_more source e.0 (named slot es) later)
            | inr apart ↦ subst (λ xs. Contains xs source) (sym (ap (λ b. cond b (e.0 ∷ named slot es) (named slot es)) apart)) later
          ])
    ]
  where
    among_more : (source x : RefSource) (xs : List RefSource) → Contains xs source → Contains (x ∷ xs) source
    among_more source x xs (k, inside, at) = (suc k, omega (arith, inside), at)

-- so they are those that were to be appended
pub named_appended : (set : Remembered) (es : List Entry) → from_entries {R = source_cmp} es ≡ set → IsInOrder es → (slot : ℕ) (before out : List RefSource) → out ≡ before ++ named slot es → AppendsSources set slot before out
named_appended set es seen ordered slot before out is =
    let at : (q : RefSource) → get set q ≡ lookup (is_at (source_cmp q)) es = λ q. ap (λ s. get s q) (sym seen) ∙ got es q in
    record {
      sources = named slot es;
      appended = is;
      in_order = named_in_order slot es ordered;
      each_names = each_named set slot es (each_there set es (λ i d within. at (get_or es i d).0 ∙ entry_found es ordered (get_or es i d).0 i d (record { within = within; here = λ f. ap (λ (e : Entry). e.0) (get_or_default es i f d within) })));
      all = λ source names. among_named slot source es (sym (at source) ∙ names);
    }
