-- A tree that is seen as a finite map: what its calls ensure, said of the map.
use Rattle.std.proofs.Common.{◌≡◌, ◌+◌, cond, refl, sym, subst, ap, ◌∙◌, arith, List, [], ◌∷◌, length, map, Bool, true, false, T, ◌&&◌, Option, Some, None}
use Rattle.std.specs.declared.cmp.Ordering.{Ordering}
use Rattle.std.specs.declared.cmp.Ordering.TheVariants.{Less, Equal, Greater}
use Rattle.std.specs.Cmp.{IsTotalOrder, eq_by_cmp_equiv}
use Rattle.std.specs.Ordering.{is_eq, is_lt, eq_by_cmp}
use Rattle.std.specs.Option.{is_some}
use Rattle.std.specs.List.{AllByRecursion}
use Rattle.std.specs.List.Sorted.{IsStrictlySortedBy}
use Rattle.std.specs.Map.{lookup, keys_of}
use Rattle.std.specs.FinMap.{FinMap, IsAntisymmetric, find, is_sorted, from_entries, from_sorted, entries, values, empty, get, get-empty, get-from_sorted, entries-from_sorted, insert, remove, len, get-from_entries, get-insert, get-remove, len-insert, len-empty, same_map}
use Rattle.std.specs.FinMap.Entries.{below_all}
use Rattle.std.specs.BTreeMap.{BTreeMap, is_at, UpdatesBy, IsOrdered}
use Rattle.std.specs.BTreeMap as tree

both : (a b : Bool) → T a → T b → T (a && b)
both true b p q = q
both false b p q = absurd p

-- keys that compare as equal tie
pub tied : (r : Ordering) → is_eq r ≡ true → r ≡ Equal
tied Less is = cc
tied Equal is = refl
tied Greater is = cc

module _ {K X : Type 0} {R : K → K → Ordering} (o : IsTotalOrder R) where
  pub find-lookup : (q : K) (es : List (K × X)) → find R q es ≡ lookup (is_at (R q)) es
  find-lookup q [] = refl
  find-lookup q (e ∷ es) = ap (cond (is_eq (R q e.0)) (Some e.1)) (find-lookup q es)

  -- what a map answers at a key
  pub get_shown : (m : BTreeMap K X) (q : K) → get (from_entries {R = R} m.entries) q ≡ tree.get R m q
  get_shown m q = get-from_entries o m.entries q ∙ find-lookup q m.entries

  -- the same of the value v that the tree is seen as
  pub gotten : (m : BTreeMap K X) (v : FinMap R X) → from_entries {R = R} m.entries ≡ v → (k : K) (found : Option X) → found ≡ tree.get R m k → found ≡ get v k
  gotten m v e k found is = is ∙ sym (get_shown m k) ∙ ap (λ m. get m k) e

  -- a key below the keys of a list is not there
  find_below : (x : K) (es : List (K × X)) → AllByRecursion (λ y. R x y ≡ Less) (keys_of es) → find R x es ≡ None
  find_below x [] h = refl
  find_below x (e ∷ es) h = ap (λ r. cond (is_eq r) (Some e.1) (find R x es)) h.0 ∙ find_below x es h.1

  len_sorted : (es : List (K × X)) → IsStrictlySortedBy R (keys_of es) → len (from_entries {R = R} es) ≡ length es
  unfolding IsStrictlySortedBy
  len_sorted [] h = len-empty R X
  len_sorted (e ∷ es) h =
      len-insert o (from_entries es) e.0 e.1
      ∙ (λ i. cond (is_some ((get-from_entries o es e.0 ∙ find_below e.0 es h.0) i)) (len_sorted es h.1 i) (len_sorted es h.1 i + 1))
      ∙ omega arith

  -- how many keys it has
  pub len_shown : (m : BTreeMap K X) → IsOrdered R m → len (from_entries {R = R} m.entries) ≡ length m.entries
  len_shown m h = len_sorted m.entries h

  -- what it is once a key was given a value
  pub insert_shown : IsAntisymmetric R → (m n : BTreeMap K X) (k : K) (v : X) → UpdatesBy R (R k) m n (Some v) → from_entries {R = R} n.entries ≡ insert (from_entries {R = R} m.entries) k v
  insert_shown same m n k v u =
      same_map o same _ _ (λ q. get_shown n q ∙ u.0 q ∙ sym (get-insert o _ k v q ∙ (λ i. cond ((eq_by_cmp_equiv o).symm q k i) (Some v) (get_shown m q i))))

  -- what it is once a key was taken away
  pub remove_shown : IsAntisymmetric R → (m n : BTreeMap K X) (k : K) → UpdatesBy R (R k) m n None → from_entries {R = R} n.entries ≡ remove (from_entries {R = R} m.entries) k
  remove_shown same m n k u =
      same_map o same _ _ (λ q. get_shown n q ∙ u.0 q ∙ sym (get-remove o _ k q ∙ (λ i. cond ((eq_by_cmp_equiv o).symm q k i) None (get_shown m q i))))

  all_below : (x : K) (es : List (K × X)) → AllByRecursion (λ y. R x y ≡ Less) (keys_of es) → T (below_all R x es)
  all_below x [] h = tt
  all_below x (e ∷ es) h = both (is_lt (R x e.0)) (below_all R x es) (subst (λ r. T (is_lt r)) (sym h.0) tt) (all_below x es h.1)

  in_order : (es : List (K × X)) → IsStrictlySortedBy R (keys_of es) → T (is_sorted R es)
  unfolding IsStrictlySortedBy
  in_order [] h = tt
  in_order (e ∷ es) h = both (below_all R e.0 es) (is_sorted R es) (all_below e.0 es h.0) (in_order es h.1)

  -- its entries
  pub entries_shown : IsAntisymmetric R → (m : BTreeMap K X) → IsOrdered R m → entries (from_entries {R = R} m.entries) ≡ m.entries
  entries_shown same m h =
      let sorted = in_order m.entries h in
      ap entries (same_map o same (from_entries {R = R} m.entries) (from_sorted {R = R} m.entries) (λ q. get-from_entries o m.entries q ∙ sym (get-from_sorted R m.entries q sorted)))
      ∙ entries-from_sorted R m.entries sorted

  -- its values
  pub values_shown : IsAntisymmetric R → (m : BTreeMap K X) → IsOrdered R m → values (from_entries {R = R} m.entries) ≡ tree.values m
  values_shown same m h = ap (map (λ e. e.1)) (entries_shown same m h)

  -- a map into which entries go one after another
  abbrev pub filled : List (K × X) → FinMap R X → FinMap R X
  filled [] m = m
  filled (e ∷ es) m = filled es (insert m e.0 e.1)

  -- the first of two answers that is one
  abbrev beside : Option X → Option X → Option X
  beside None other = other
  beside (Some x) other = Some x

  beside_none : (found : Option X) → beside found None ≡ found
  beside_none None = refl
  beside_none (Some x) = refl

  put_before : (b : Bool) (x : X) (later old : Option X) → (b ≡ true → later ≡ None) → beside later (cond b (Some x) old) ≡ beside (cond b (Some x) later) old
  put_before true x later old none = ap (λ o. beside o (Some x)) (none refl)
  put_before false x later old none = refl

  tied_below : (q x : K) (es : List (K × X)) → R q x ≡ Equal → AllByRecursion (λ y. R x y ≡ Less) (keys_of es) → find R q es ≡ None
  tied_below q x [] t h = refl
  tied_below q x (e ∷ es) t h = ap (λ r. cond (is_eq r) (Some e.1) (find R q es)) (o.congr q x e.0 t ∙ h.0) ∙ tied_below q x es t h.1

  get_filled : (es : List (K × X)) (m : FinMap R X) (q : K) → IsStrictlySortedBy R (keys_of es) → get (filled es m) q ≡ beside (find R q es) (get m q)
  unfolding IsStrictlySortedBy
  get_filled [] m q h = refl
  get_filled (e ∷ es) m q h =
      get_filled es (insert m e.0 e.1) q h.1
      ∙ ap (beside (find R q es)) (get-insert o m e.0 e.1 q)
      ∙ put_before (eq_by_cmp R q e.0) e.1 (find R q es) (get m q) (λ is. tied_below q e.0 es (tied (R q e.0) is) h.0)

  -- a map into which all entries of a tree went
  pub all_filled : IsAntisymmetric R → (m : BTreeMap K X) → IsOrdered R m → filled m.entries empty ≡ from_entries {R = R} m.entries
  all_filled same m h =
      same_map o same _ _ (λ q. get_filled m.entries empty q h ∙ ap (beside (find R q m.entries)) (get-empty R q) ∙ beside_none (find R q m.entries) ∙ sym (get-from_entries o m.entries q))
