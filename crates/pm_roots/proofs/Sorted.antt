-- Entries whose keys rise: what a search finds among them, and what an edit at that place makes of them.
use Rattle.std.proofs.Common.{◌≡◌, ℕ, zero, suc, ◌<◌, ◌≤◌, Bool, true, false, cond, not, ◌&&◌, T, List, [], ◌∷◌, length, get_or, Some, None, refl, sym, ap, subst, ◌∙◌, arith, add-one}
use Rattle.std.specs.declared.cmp.Ordering.{Ordering}
use Rattle.std.specs.declared.cmp.Ordering.TheVariants.{Less, Equal, Greater}
use Rattle.std.specs.List.{insert, remove}
use Rattle.std.specs.List.Sorted.{IsNonDecreasingBy}
use Rattle.std.specs.Ordering.{is_lt, is_eq, ordering_index, ordering_reverse, eq_by_cmp}
use Rattle.std.specs.Cmp.{IsTotalOrder, tied_itself}
use Rattle.std.specs.FinMap.Entries.{find, put, by_order, below_all, is_sorted, where_key}
use Rattle.std.proofs.lemmas.List.Sorted.{searchable_from_sorted}

pub first : (a b : Bool) → T (a && b) → T a
first true b h = tt
first false b h = h

pub second : (a b : Bool) → T (a && b) → T b
second true b h = h
second false b h = absurd h

less : (r : Ordering) → T (is_lt r) → r ≡ Less
less Less h = refl
less Equal h = absurd h
less Greater h = absurd h

module _ {K : Type 0} {R : K → K → Ordering} (o : IsTotalOrder R) where
  -- a comparison the other way round
  turned : (x y : K) (r : Ordering) → R x y ≡ r → R y x ≡ ordering_reverse r
  turned x y r e = o.antisymm y x ∙ ap ordering_reverse e

module _ {K X : Type 0} {R : K → K → Ordering} (o : IsTotalOrder R) where
  -- a key below all is below each
  below_each : (x : K) (es : List (K × X)) → T (below_all R x es) → (k : ℕ) (d : K × X) → k < length es → R x (get_or es k d).0 ≡ Less
  below_each x [] h k d lt = absurd (omega arith)
  below_each x (e ∷ es) h zero d lt = less _ (first _ _ h)
  below_each x (e ∷ es) h (suc k) d lt = below_each x es (second _ _ h) k d (omega arith)

  -- a key below all is not found
  pub find_below : (x : K) (es : List (K × X)) → T (below_all R x es) → find R x es ≡ None
  find_below x [] h = refl
  find_below x (e ∷ es) h = ap (λ r. cond (is_eq r) (Some e.1) (find R x es)) (less _ (first _ _ h)) ∙ find_below x es (second _ _ h)

  -- the first key is found
  pub find_first : (e : K × X) (es : List (K × X)) → find R e.0 (e ∷ es) ≡ Some e.1
  find_first e es = ap (λ r. cond (is_eq r) (Some e.1) (find R e.0 es)) (tied_itself o e.0)

  neighbours : (es : List (K × X)) → T (is_sorted R es) → (k : ℕ) (d : K × X) → suc k < length es → is_lt (R (get_or es (suc k) d).0 (get_or es k d).0) ≡ false
  neighbours [] h k d lt = absurd (omega arith)
  neighbours (e ∷ es) h zero d lt = ap is_lt (turned o _ _ _ (below_each e.0 es (first _ _ h) 0 d (omega arith)))
  neighbours (e ∷ es) h (suc k) d lt = neighbours es (second _ _ h) k d (omega arith)

  -- the comparisons with a key rise, as a binary search asks
  pub searchable : (es : List (K × X)) → T (is_sorted R es) → (x : K) → IsNonDecreasingBy (λ e. ordering_index (R e.0 x)) es
  searchable es h x = searchable_from_sorted o (λ e. e.0) es x (λ k d low lt. rw add-one (neighbours es h k d (omega arith)))

  -- in a gap for its key an entry is put in its place
  pub insert_in_gap : (es : List (K × X)) (k : K) (v : X) (at : ℕ) → at ≤ length es → ((j : ℕ) (d : K × X) → j < at → R (get_or es j d).0 k ≡ Less) → ((j : ℕ) (d : K × X) → at ≤ j → j < length es → R (get_or es j d).0 k ≡ Greater) → insert es at (k, v) ≡ put R k v es
  insert_in_gap [] k v zero le before after = refl
  insert_in_gap [] k v (suc at) le before after = absurd (omega arith)
  insert_in_gap (e ∷ es) k v zero le before after =
      sym (ap (λ r. by_order r ((k, v) ∷ e ∷ es) ((e.0, v) ∷ es) (e ∷ put R k v es)) (turned o _ _ _ (after 0 e (omega arith) (omega arith))))
  insert_in_gap (e ∷ es) k v (suc at) le before after =
      ap (λ l. e ∷ l) (insert_in_gap es k v at (omega arith) (λ j d lt. before (suc j) d (omega arith)) (λ j d ge lt. after (suc j) d (omega arith) (omega arith)))
      ∙ sym (ap (λ r. by_order r ((k, v) ∷ e ∷ es) ((e.0, v) ∷ es) (e ∷ put R k v es)) (turned o _ _ _ (before 0 e (omega arith))))

  -- a key that ties with none is not found
  pub find_apart : (es : List (K × X)) (k : K) → ((j : ℕ) (d : K × X) → j < length es → is_eq (R k (get_or es j d).0) ≡ false) → find R k es ≡ None
  find_apart [] k apart = refl
  find_apart (e ∷ es) k apart = ap (λ b. cond b (Some e.1) (find R k es)) (apart 0 e (omega arith)) ∙ find_apart es k (λ j d lt. apart (suc j) d (omega arith))

  -- the key at a place is found there
  pub find_at : (es : List (K × X)) → T (is_sorted R es) → (k : K) (at : ℕ) (d : K × X) → at < length es → (get_or es at d).0 ≡ k → find R k es ≡ Some (get_or es at d).1
  find_at [] h k at d lt is = absurd (omega arith)
  find_at (e ∷ es) h k zero d lt is = ap (λ q. find R q (e ∷ es)) (sym is) ∙ find_first e es
  find_at (e ∷ es) h k (suc at) d lt is =
      ap (λ r. cond (is_eq r) (Some e.1) (find R k es)) (turned o e.0 k _ (subst (λ q. R e.0 q ≡ Less) is (below_each e.0 es (first _ _ h) at d (omega arith))))
      ∙ find_at es (second _ _ h) k at d (omega arith) is

  -- where all other keys are greater, all stay
  all_stay : (k : K) (es : List (K × X)) → T (below_all R k es) → where_key R (λ x. not (eq_by_cmp R k x)) es ≡ es
  all_stay k [] h = refl
  all_stay k (e ∷ es) h =
      ap (λ r. let rest = where_key R (λ x. not (eq_by_cmp R k x)) es in cond (not (is_eq r)) (e ∷ rest) rest) (less _ (first _ _ h))
      ∙ ap (λ l. e ∷ l) (all_stay k es (second _ _ h))

  -- the entries but for the one at the place of the key are those with another key
  pub remove_at : (es : List (K × X)) → T (is_sorted R es) → (k : K) (at : ℕ) (d : K × X) → at < length es → (get_or es at d).0 ≡ k → remove es at ≡ where_key R (λ x. not (eq_by_cmp R k x)) es
  remove_at [] h k at d lt is = absurd (omega arith)
  remove_at (e ∷ es) h k zero d lt is =
      sym (ap (λ r. let rest = where_key R (λ x. not (eq_by_cmp R k x)) es in cond (not (is_eq r)) (e ∷ rest) rest) (ap (λ q. R q e.0) (sym is) ∙ tied_itself o e.0)
      ∙ all_stay k es (subst (λ q. T (below_all R q es)) is (first _ _ h)))
  remove_at (e ∷ es) h k (suc at) d lt is =
      ap (λ l. e ∷ l) (remove_at es (second _ _ h) k at d (omega arith) is)
      ∙ sym (ap (λ r. let rest = where_key R (λ x. not (eq_by_cmp R k x)) es in cond (not (is_eq r)) (e ∷ rest) rest) (turned o e.0 k _ (subst (λ q. R e.0 q ≡ Less) is (below_each e.0 es (first _ _ h) at d (omega arith)))))
