-- What a search through entries in order finds.
use Rattle.std.proofs.Common.{◌≡◌, ℕ, ◌<◌, ◌==◌, ◌&&◌, ◌||◌, arith, Bool, true, false, cond, T, refl, ap, sym, subst, ◌∙◌, List, [], ◌∷◌, ◌++◌, Option, Some, None}
use Rattle.std.specs.declared.cmp.Ordering.{Ordering}
use Rattle.std.specs.declared.cmp.Ordering.TheVariants.{Less, Equal, Greater}
use Rattle.std.specs.Ordering.{nat_cmp, is_lt, is_le, is_gt, eq_by_cmp, ordering_reverse}
use Rattle.std.specs.Option.{option_map}
use Rattle.std.specs.List.{list_any}
use Rattle.std.specs.List as list
use Rattle.std.specs.FinMap.{FinMap, get, empty, entries, entries_sorted, get-entries, get-empty}
use Rattle.std.specs.FinMap.Entries.{find, below_all, is_sorted}
use Rattle.std.proofs.lemmas.Bool.{cond-true, cond-false, true≢false}
use Rattle.std.proofs.lemmas.Bool.Decides.{nat_tests}
use Rattle.pm_types.specs.Orders.{source_cmp}
use Rattle.pm_types.proofs.Orders.{sources_total}
use Rattle.pm_types.specs.declared.source.RefSource.{RefSource}
use Rattle.pm_types.specs.declared.source.RefSource.TheVariants.{Root}
use Rattle.pm_types.specs.declared.object.Slot.{Slot}
use Rattle.pm_roots.proofs.Sorted.{first, second}
use Rattle.pm_remset.specs.Remembered.{Remembered, FindsLeastOf, FindsAtOrAfter, first_that}
use Rattle.pm_remset.proofs.First.{first_found, found_once}
use Rattle.pm_remset.proofs.Finds.{first_root}
use Rattle.pm_view.specs.Events.{went, has_gone, first_of}
use Rattle.pm_next.specs.Sought.{lesser, has_moved, is_moved}

abbrev Entry : Type 0
Entry = RefSource × ℕ

-- tests that answer alike find the same
pub same_search : (f g : Entry → Bool) (es : List Entry) → ((e : Entry) → f e ≡ g e) → list.find f es ≡ list.find g es
same_search f g es same = λ i. list.find (λ e. same e i) es

less_of : (o : Ordering) → T (is_lt o) → o ≡ Less
less_of Less h = refl
less_of Equal h = absurd h
less_of Greater h = absurd h

-- what is found behind an entry is over it
over : (x : RefSource) (g : Entry → Bool) (es : List Entry) (d : Entry) → T (below_all source_cmp x es) → list.find g es ≡ Some d → source_cmp x d.0 ≡ Less
over x g [] d below is = absurd cc
over x g (e ∷ es) d below is = by_case (g e) is (over x g es d (second _ _ below))
  where
    by_case : (b : Bool) → cond b (Some e) (list.find g es) ≡ Some d → (list.find g es ≡ Some d → source_cmp x d.0 ≡ Less) → source_cmp x d.0 ≡ Less
    by_case true is later = let same : e ≡ d = cc in subst (λ (d : Entry). source_cmp x d.0 ≡ Less) same (less_of _ (first _ _ below))
    by_case false is later = later is

-- an entry, and what is found behind it
lesser_front : (e : Entry) (o : Option Entry) → ((d : Entry) → o ≡ Some d → source_cmp e.0 d.0 ≡ Less) → lesser (Some e) o ≡ Some e
lesser_front e None above = refl
lesser_front e (Some d) above =
    let turned : source_cmp d.0 e.0 ≡ Greater = sources_total.antisymm d.0 e.0 ∙ ap ordering_reverse (above d refl) in
    ap (λ r. cond (is_lt r) (Some d) (Some e)) turned

lesser_behind : (e : Entry) (o : Option Entry) → ((d : Entry) → o ≡ Some d → source_cmp e.0 d.0 ≡ Less) → lesser o (Some e) ≡ Some e
lesser_behind e None above = refl
lesser_behind e (Some d) above = ap (λ r. cond (is_lt r) (Some e) (Some d)) (above d refl)

lesser_itself : (e : Entry) (b : Bool) → cond b (Some e) (Some e) ≡ Some e
lesser_itself e true = refl
lesser_itself e false = refl

-- what is found by either of two tests is the lesser one of what each finds
either_in : (f g : Entry → Bool) (es : List Entry) → T (is_sorted source_cmp es) → lesser (list.find f es) (list.find g es) ≡ list.find (λ e. f e || g e) es
either_in f g [] sorted = refl
either_in f g (e ∷ es) sorted = by_case (f e) (g e) (either_in f g es (second _ _ sorted))
  where
    below : T (below_all source_cmp e.0 es)
    below = first _ _ sorted

    by_case : (a b : Bool) → lesser (list.find f es) (list.find g es) ≡ list.find (λ e. f e || g e) es
        → lesser (cond a (Some e) (list.find f es)) (cond b (Some e) (list.find g es)) ≡ cond (a || b) (Some e) (list.find (λ e. f e || g e) es)
    by_case true true later = lesser_itself e (is_lt (source_cmp e.0 e.0))
    by_case true false later = lesser_front e (list.find g es) (λ d. over e.0 g es d below)
    by_case false true later = lesser_behind e (list.find f es) (λ d. over e.0 f es d below)
    by_case false false later = later

pub either_found : (f g : RefSource → ℕ → Bool) (set : Remembered) → lesser (first_that f set) (first_that g set) ≡ first_that (λ source slot. f source slot || g source slot) set
either_found f g set = either_in (λ e. f e.0 e.1) (λ e. g e.0 e.1) (entries set) (entries_sorted set)

-- a test that answers false finds nothing
pub none_found : (es : List Entry) (f : Entry → Bool) → ((e : Entry) → f e ≡ false) → list.find f es ≡ None
none_found [] f fails = refl
none_found (e ∷ es) f fails = cond-false _ _ _ (fails e) ∙ none_found es f fails

-- in an empty set nothing is found
pub empty_finds : (test : RefSource → ℕ → Bool) → first_that test empty ≡ None
empty_finds test = sym (found_once test empty None _ (λ source slot is. let none : ◌≡◌ {A = Option ℕ} None (Some slot) = sym (get-empty source_cmp source) ∙ is in cc) (first_found test empty))

-- ---- slot by slot

any_last : (p : ℕ × Slot → Bool) (es : List (ℕ × Slot)) (e : ℕ × Slot) → list_any p (es ++ e ∷ []) ≡ (list_any p es || p e)
any_last p [] e = by_case (p e)
  where
    by_case : (b : Bool) → (b || false) ≡ b
    by_case true = refl
    by_case false = refl
any_last p (d ∷ es) e = by_case (p d) (any_last p es e)
  where
    by_case : (b : Bool) → list_any p (es ++ e ∷ []) ≡ (list_any p es || p e) → (b || list_any p (es ++ e ∷ [])) ≡ ((b || list_any p es) || p e)
    by_case true later = refl
    by_case false later = later

-- one slot more
pub moved_next : (set : Remembered) (before after : List (ℕ × Slot)) (e : ℕ × Slot) (found one : Option Entry) → after ≡ before ++ e ∷ [] → found ≡ first_that (λ _ slot. is_moved before slot) set
    → one ≡ first_that (λ _ at. (at == e.0) && has_moved e.1) set → lesser found one ≡ first_that (λ _ slot. is_moved after slot) set
moved_next set before after e found one is found_is one_is =
    (λ i. lesser (found_is i) (one_is i))
    ∙ either_found (λ _ slot. is_moved before slot) (λ _ at. (at == e.0) && has_moved e.1) set
    ∙ same_search _ _ (entries set) (λ d. ap (λ b. is_moved before d.1 || (b && has_moved e.1)) (turned d.1 e.0) ∙ sym (any_last (λ c. (c.0 == d.1) && has_moved c.1) before e))
    ∙ sym (ap (λ es. first_that (λ _ slot. is_moved es slot) set) is)
  where
    turned : (m n : ℕ) → (m == n) ≡ (n == m)
    turned m n = grind (arith, nat_tests)

-- the least source of one slot, where it is Moved
pub of_moved : (set : Remembered) (slot : ℕ) (b : Bool) (found : Option RefSource) → b ≡ true → FindsLeastOf set slot found
    → option_map (λ source. (source, slot)) found ≡ first_that (λ _ at. (at == slot) && b) set
of_moved set slot b found is finds =
    found_once (λ _ at. at == slot) set _ _ finds (first_found (λ _ at. at == slot) set)
    ∙ same_search _ _ (entries set) (λ e. with_true (e.1 == slot) ∙ sym (ap (λ b. (e.1 == slot) && b) is))
  where
    with_true : (b : Bool) → b ≡ (b && true)
    with_true true = refl
    with_true false = refl

-- and where it is not
pub of_still : (set : Remembered) (slot : ℕ) (b : Bool) → b ≡ false → None ≡ first_that (λ _ at. (at == slot) && b) set
of_still set slot b is = sym (none_found (entries set) _ (λ e. ap (λ b. (e.1 == slot) && b) is ∙ with_false (e.1 == slot)))
  where
    with_false : (b : Bool) → (b && false) ≡ false
    with_false true = refl
    with_false false = refl

-- ---- what is Moved among the slots of a car

rises : (x y : ℕ) → T (is_lt (nat_cmp x y)) → x < y
rises x y h = grind (arith, nat_tests, h)

differ : (m n : ℕ) → m < n → (n == m) ≡ false
differ m n less = grind (arith, nat_tests, less)

tied : (q k : ℕ) → eq_by_cmp nat_cmp q k ≡ (k == q)
tied q k = grind (arith, nat_tests)

none_moved : (q : ℕ) (es : List (ℕ × Slot)) → T (below_all nat_cmp q es) → is_moved es q ≡ false
none_moved q [] below = refl
none_moved q (e ∷ es) below =
    let less : q < e.0 = rises q e.0 (first _ _ below) in
    ap (λ b. (b && has_moved e.1) || is_moved es q) (differ q e.0 less) ∙ none_moved q es (second _ _ below)

moved_in : (q : ℕ) (es : List (ℕ × Slot)) → T (is_sorted nat_cmp es) → is_moved es q ≡ has_gone (went (find nat_cmp q es))
moved_in q [] sorted = refl
moved_in q (e ∷ es) sorted = by_case (e.0 == q) refl (moved_in q es (second _ _ sorted)) ∙ sym (ap (λ b. has_gone (went (cond b (Some e.1) (find nat_cmp q es)))) (tied q e.0))
  where
    last : (b c : Bool) → c ≡ false → (b || c) ≡ b
    last true c is = refl
    last false c is = is

    same : (m n : ℕ) → (m == n) ≡ true → m ≡ n
    same m n is = grind (arith, nat_tests, is)

    by_case : (b : Bool) → (e.0 == q) ≡ b → is_moved es q ≡ has_gone (went (find nat_cmp q es)) → ((b && has_moved e.1) || is_moved es q) ≡ has_gone (went (cond b (Some e.1) (find nat_cmp q es)))
    by_case true is later = last (has_moved e.1) (is_moved es q) (none_moved q es (subst (λ k. T (below_all nat_cmp k es)) (same e.0 q is) (first _ _ sorted)))
    by_case false is later = later

-- a slot is Moved among the slots of a car just where it is
pub moved_at : (slots : FinMap nat_cmp Slot) (q : ℕ) → is_moved (entries slots) q ≡ has_gone (went (get slots q))
moved_at slots q = moved_in q (entries slots) (entries_sorted slots) ∙ sym (ap (λ o. has_gone (went o)) (get-entries slots q))

-- ---- the least source

le_of : (o : Ordering) → is_gt o ≡ false → is_le o ≡ true
le_of Less h = refl
le_of Equal h = refl
le_of Greater h = sym h

first_found_is : (es : List Entry) → list.find (λ e. is_le (source_cmp (Root 0) e.0)) es ≡ first_of es
first_found_is [] = refl
first_found_is (e ∷ es) = cond-true _ _ _ (le_of _ (first_root e.0))

pub least_is : (set : Remembered) (found : Option Entry) → FindsAtOrAfter set (Root 0) found → found ≡ first_of (entries set)
least_is set found finds =
    found_once (λ source _. is_le (source_cmp (Root 0) source)) set _ _ finds (first_found (λ source _. is_le (source_cmp (Root 0) source)) set) ∙ first_found_is (entries set)

-- ---- the lowest Live slot

module _ {X : Type 0} (p : X → Bool) where
  lower_none : (k x : ℕ) (es : List (ℕ × X)) → k < x → T (below_all nat_cmp x es) → find nat_cmp k es ≡ None
  lower_none k x [] less below = refl
  lower_none k x (e ∷ es) less below =
      let further : x < e.0 = rises x e.0 (first _ _ below) in
      cond-false _ _ _ (tied k e.0 ∙ differ k e.0 (omega (arith, less, further))) ∙ lower_none k x es less (second _ _ below)

  -- each entry under the first one that passes fails
  lower_fails : (es : List (ℕ × X)) → T (is_sorted nat_cmp es) → (e : ℕ × X) → list.find (λ e. p e.1) es ≡ Some e → (k : ℕ) (v : X) → find nat_cmp k es ≡ Some v → k < e.0 → p v ≡ false
  lower_fails [] sorted e is k v found less = absurd cc
  lower_fails (d ∷ es) sorted e is k v found less = by_case (p d.1) refl is (eq_by_cmp nat_cmp k d.0) refl found (λ is found. lower_fails es (second _ _ sorted) e is k v found less)
    where
      by_case : (b : Bool) → p d.1 ≡ b → cond b (Some d) (list.find (λ e. p e.1) es) ≡ Some e → (c : Bool) → eq_by_cmp nat_cmp k d.0 ≡ c → cond c (Some d.1) (find nat_cmp k es) ≡ Some v
          → (list.find (λ e. p e.1) es ≡ Some e → find nat_cmp k es ≡ Some v → p v ≡ false) → p v ≡ false
      by_case true passes is true tie found later = let same : d ≡ e = cc in let low : k < d.0 = subst (λ (e : ℕ × X). k < e.0) (sym same) less in absurd (true≢false (sym tie ∙ tied k d.0 ∙ differ k d.0 low))
      by_case true passes is false tie found later =
          let same : d ≡ e = cc in let low : k < d.0 = subst (λ (e : ℕ × X). k < e.0) (sym same) less in let none = lower_none k d.0 es low (first _ _ sorted) in absurd cc
      by_case false fails is true tie found later = let value : d.1 ≡ v = cc in ap p (sym value) ∙ fails
      by_case false fails is false tie found later = later is found

  pub lower_failed : (m : FinMap nat_cmp X) (e : ℕ × X) → list.find (λ e. p e.1) (entries m) ≡ Some e → (k : ℕ) (v : X) → get m k ≡ Some v → k < e.0 → p v ≡ false
  lower_failed m e is k v found less = lower_fails (entries m) (entries_sorted m) e is k v (sym (get-entries m k) ∙ found) less

  -- an entry of a list in order lies over what all lie over
  found_over : (x k : ℕ) (v : X) (es : List (ℕ × X)) → T (below_all nat_cmp x es) → find nat_cmp k es ≡ Some v → x < k
  found_over x k v [] below found = absurd cc
  found_over x k v (e ∷ es) below found = by_case (eq_by_cmp nat_cmp k e.0) refl found (found_over x k v es (second _ _ below))
    where
      same : (m n : ℕ) → (m == n) ≡ true → m ≡ n
      same m n is = grind (arith, nat_tests, is)

      by_case : (c : Bool) → eq_by_cmp nat_cmp k e.0 ≡ c → cond c (Some e.1) (find nat_cmp k es) ≡ Some v → (find nat_cmp k es ≡ Some v → x < k) → x < k
      by_case true tie found later = let further : x < e.0 = rises x e.0 (first _ _ below) in let one : e.0 ≡ k = same e.0 k (sym (tied k e.0) ∙ tie) in omega (arith, further, one)
      by_case false tie found later = later found

  found_in : (es : List (ℕ × X)) → T (is_sorted nat_cmp es) → (e : ℕ × X) → list.find (λ e. p e.1) es ≡ Some e → (find nat_cmp e.0 es ≡ Some e.1) × (p e.1 ≡ true)
  found_in [] sorted e is = absurd cc
  found_in (d ∷ es) sorted e is = by_case (p d.1) refl is (found_in es (second _ _ sorted) e)
    where
      itself : (n : ℕ) → (n == n) ≡ true
      itself n = grind (arith, nat_tests)

      by_case : (b : Bool) → p d.1 ≡ b → cond b (Some d) (list.find (λ e. p e.1) es) ≡ Some e → (list.find (λ e. p e.1) es ≡ Some e → (find nat_cmp e.0 es ≡ Some e.1) × (p e.1 ≡ true))
          → (find nat_cmp e.0 (d ∷ es) ≡ Some e.1) × (p e.1 ≡ true)
      by_case true passes is later =
          let same : d ≡ e = cc in
          (subst (λ (e : ℕ × X). find nat_cmp e.0 (d ∷ es) ≡ Some e.1) same (cond-true _ _ _ (tied d.0 d.0 ∙ itself d.0)), subst (λ (e : ℕ × X). p e.1 ≡ true) same passes)
      by_case false fails is later =
          let found = later is in
          let further : d.0 < e.0 = found_over d.0 e.0 e.1 es (first _ _ sorted) found.0 in
          (cond-false _ _ _ (tied e.0 d.0 ∙ (let apart : (d.0 == e.0) ≡ false = grind (arith, nat_tests, further) in apart)) ∙ found.0, found.1)

  none_in : (es : List (ℕ × X)) → list.find (λ e. p e.1) es ≡ None → (k : ℕ) (v : X) → find nat_cmp k es ≡ Some v → p v ≡ false
  none_in [] none k v found = absurd cc
  none_in (d ∷ es) none k v found = by_case (p d.1) refl none (eq_by_cmp nat_cmp k d.0) found (λ none found. none_in es none k v found)
    where
      by_case : (b : Bool) → p d.1 ≡ b → cond b (Some d) (list.find (λ e. p e.1) es) ≡ None → (c : Bool) → cond c (Some d.1) (find nat_cmp k es) ≡ Some v
          → (list.find (λ e. p e.1) es ≡ None → find nat_cmp k es ≡ Some v → p v ≡ false) → p v ≡ false
      by_case true passes none c found later = absurd cc
      by_case false fails none true found later = let value : d.1 ≡ v = cc in ap p (sym value) ∙ fails
      by_case false fails none false found later = later none found

  -- an entry that is found passes, and is in the map; where none is found each fails
  pub found_there : (m : FinMap nat_cmp X) (e : ℕ × X) → list.find (λ e. p e.1) (entries m) ≡ Some e → (get m e.0 ≡ Some e.1) × (p e.1 ≡ true)
  found_there m e is = let found = found_in (entries m) (entries_sorted m) e is in (get-entries m e.0 ∙ found.0, found.1)

  pub none_there : (m : FinMap nat_cmp X) → list.find (λ e. p e.1) (entries m) ≡ None → (k : ℕ) (v : X) → get m k ≡ Some v → p v ≡ false
  none_there m none k v found = none_in (entries m) none k v (sym (get-entries m k) ∙ found)
