-- What a map answers whose values are mapped, and what it is after a change.
use Rattle.std.proofs.Common.{◌≡◌, Bool, true, false, cond, T, ◌&&◌, List, [], ◌∷◌, length, suc, Option, Some, None, refl, sym, ap, subst, ◌∙◌}
use Rattle.std.specs.declared.cmp.Ordering.{Ordering}
use Rattle.std.specs.Cmp.{IsTotalOrder}
use Rattle.std.specs.Ordering.{is_lt, eq_by_cmp}
use Rattle.std.specs.Option.{option_map}
use Rattle.std.specs.FinMap.{FinMap, IsAntisymmetric, find, is_sorted, entries, entries_sorted, empty, get, insert, remove, len, get-entries, len-entries, empty_of_len, entries-from_sorted, get-from_sorted, len-empty, get-insert, get-remove, same_map}
use Rattle.std.specs.FinMap.Entries.{below_all}
use Rattle.pm_types.specs.Mapped.{mapped, mapped_entries}

-- an option that is chosen by a test, mapped
chosen_mapped : {X Y : Type 0} (f : X → Y) (b : Bool) (x y : Option X) → option_map f (cond b x y) ≡ cond b (option_map f x) (option_map f y)
chosen_mapped f true x y = refl
chosen_mapped f false x y = refl

length_mapped : {K X Y : Type 0} (f : X → Y) (es : List (K × X)) → length (mapped_entries f es) ≡ length es
length_mapped f [] = refl
length_mapped f (e ∷ es) = ap (λ n. suc n) (length_mapped f es)

module _ {K X Y : Type 0} (R : K → K → Ordering) (f : X → Y) where
  below_mapped : (x : K) (es : List (K × X)) → below_all R x (mapped_entries f es) ≡ below_all R x es
  below_mapped x [] = refl
  below_mapped x (e ∷ es) = ap (λ b. is_lt (R x e.0) && b) (below_mapped x es)

  sorted_mapped : (es : List (K × X)) → is_sorted R (mapped_entries f es) ≡ is_sorted R es
  sorted_mapped [] = refl
  sorted_mapped (e ∷ es) = λ i. below_mapped e.0 es i && sorted_mapped es i

  find_mapped : (q : K) (es : List (K × X)) → find R q (mapped_entries f es) ≡ option_map f (find R q es)
  find_mapped q [] = refl
  find_mapped q (e ∷ es) = ap (cond (eq_by_cmp R q e.0) (Some (f e.1))) (find_mapped q es) ∙ sym (chosen_mapped f (eq_by_cmp R q e.0) (Some e.1) (find R q es))

  in_order : (m : FinMap R X) → T (is_sorted R (mapped_entries f (entries m)))
  in_order m = subst T (sym (sorted_mapped (entries m))) (entries_sorted m)

  -- its entries are those of the map, each with its value mapped
  pub entries-mapped : (m : FinMap R X) → entries (mapped f m) ≡ mapped_entries f (entries m)
  unfolding mapped
  entries-mapped m = entries-from_sorted R (mapped_entries f (entries m)) (in_order m)

  -- what it answers at a key
  pub get-mapped : (m : FinMap R X) (q : K) → get (mapped f m) q ≡ option_map f (get m q)
  unfolding mapped
  get-mapped m q = get-from_sorted R (mapped_entries f (entries m)) q (in_order m) ∙ find_mapped q (entries m) ∙ ap (option_map f) (sym (get-entries m q))

  -- how many keys it has
  pub len-mapped : (m : FinMap R X) → len (mapped f m) ≡ len m
  len-mapped m = len-entries (mapped f m) ∙ ap length (entries-mapped m) ∙ length_mapped f (entries m) ∙ sym (len-entries m)

  -- of no keys
  pub mapped-empty : mapped f (empty {X = X} {R = R}) ≡ empty
  mapped-empty = empty_of_len (mapped f empty) (len-mapped empty ∙ len-empty R X)

  module _ (o : IsTotalOrder R) (same : IsAntisymmetric R) where
    -- once a key was given a value
    pub mapped-insert : (m : FinMap R X) (k : K) (v : X) → mapped f (insert m k v) ≡ insert (mapped f m) k (f v)
    mapped-insert m k v =
        same_map o same _ _ (λ q.
        get-mapped (insert m k v) q ∙ ap (option_map f) (get-insert o m k v q) ∙ chosen_mapped f (eq_by_cmp R q k) (Some v) (get m q)
        ∙ ap (cond (eq_by_cmp R q k) (Some (f v))) (sym (get-mapped m q)) ∙ sym (get-insert o (mapped f m) k (f v) q))

    -- once a key was taken away
    pub mapped-remove : (m : FinMap R X) (k : K) → mapped f (remove m k) ≡ remove (mapped f m) k
    mapped-remove m k =
        same_map o same _ _ (λ q.
        get-mapped (remove m k) q ∙ ap (option_map f) (get-remove o m k q) ∙ chosen_mapped f (eq_by_cmp R q k) None (get m q)
        ∙ ap (cond (eq_by_cmp R q k) None) (sym (get-mapped m q)) ∙ sym (get-remove o (mapped f m) k q))
