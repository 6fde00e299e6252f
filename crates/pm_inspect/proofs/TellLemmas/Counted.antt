-- Maps of which the keys of the one are those of the other under other names have as many entries.
use Rattle.std.proofs.Common.{◌≡◌, ◌≤◌, ◌||◌, Bool, true, false, T, List, [], ◌∷◌, map, refl, sym, ap, subst, ◌∙◌, arith}
use Rattle.std.proofs.lemmas.List.{length-map}
use Rattle.std.specs.declared.cmp.Ordering.{Ordering}
use Rattle.std.specs.declared.cmp.Ordering.TheVariants.{Less, Equal, Greater}
use Rattle.std.specs.Ordering.{eq_by_cmp, is_lt, is_eq}
use Rattle.std.specs.Cmp.{IsTotalOrder, eq_by_cmp_equiv}
use Rattle.std.specs.List.{AllByRecursion, IsDistinct}
use Rattle.std.specs.FinMap.{FinMap, IsAntisymmetric, entries, entries_sorted, keys, len, len-entries, contains_key, contains_key-keys}
use Rattle.std.specs.FinMap.Entries.{below_all, is_sorted}
use Rattle.std.specs.Set.{is_member}
use Rattle.std.proofs.lemmas.Bool.{true≢false}
use Rattle.std.proofs.lemmas.Map.Keys.{IsDistinct-cons, IsDistinct-head, IsDistinct-tail}
use Rattle.std.proofs.lemmas.Map.Made.{length-le_from_is_member}
use Rattle.std.proofs.lemmas.Map.Views.{tells_apart}
use Rattle.pm_roots.proofs.Sorted.{first, second}

less_apart : (o : Ordering) → T (is_lt o) → is_eq o ≡ false
less_apart Less is = refl
less_apart Equal is = absurd is
less_apart Greater is = absurd is

module _ {K X : Type 0} (R : K → K → Ordering) where
  below_apart : (x : K) (es : List (K × X)) → T (below_all R x es) → AllByRecursion (λ y. eq_by_cmp R x y ≡ false) (map (λ e. e.0) es)
  below_apart x [] below = tt
  below_apart x (e ∷ es) below = (less_apart (R x e.0) (first _ _ below), below_apart x es (second _ _ below))

  -- no key of a map is another's equal
  sorted_distinct : (es : List (K × X)) → T (is_sorted R es) → IsDistinct (eq_by_cmp R) (map (λ e. e.0) es)
  unfolding IsDistinct
  sorted_distinct [] sorted = tt
  sorted_distinct (e ∷ es) sorted = (below_apart e.0 es (first _ _ sorted), sorted_distinct es (second _ _ sorted))

module _ {K : Type 0} {R : K → K → Ordering} (total : IsTotalOrder R) (same : IsAntisymmetric R) (f : K → K) where
  abbrev alike : K → K → Bool
  alike = eq_by_cmp R

  here : (x : K) (xs : List K) → is_member alike (x ∷ xs) x ≡ true
  here x xs = ap (λ b. b || is_member alike xs x) ((eq_by_cmp_equiv total).refl x)

  or_true : (a b : Bool) → b ≡ true → (a || b) ≡ true
  or_true true b is = refl
  or_true false b is = is

  later : (z x : K) (xs : List K) → is_member alike xs x ≡ true → is_member alike (z ∷ xs) x ≡ true
  later z x xs is = or_true (alike x z) (is_member alike xs x) is

  -- keys that differ have names that differ
  apart : (x : K) (ys : List K) → AllByRecursion (λ y. alike x y ≡ false) ys → ((y : K) → is_member alike ys y ≡ true → f x ≡ f y → x ≡ y) → AllByRecursion (λ y. alike (f x) y ≡ false) (map f ys)
  apart x [] differ one = tt
  apart x (y ∷ ys) differ one = (by (alike (f x) (f y)) refl, apart x ys differ.1 (λ z is_in. one z (later y z ys is_in)))
    where
      by : (b : Bool) → alike (f x) (f y) ≡ b → alike (f x) (f y) ≡ false
      by false is = is
      by true is =
          let is_one : x ≡ y = one y (here y ys) (tells_apart same (f x) (f y) is) in
          absurd (true≢false (sym ((eq_by_cmp_equiv total).refl y) ∙ ap (λ z. alike z y) (sym is_one) ∙ differ.0))

  renamed_distinct : (xs : List K) → IsDistinct alike xs → ((x y : K) → is_member alike xs x ≡ true → is_member alike xs y ≡ true → f x ≡ f y → x ≡ y) → IsDistinct alike (map f xs)
  renamed_distinct [] differ one = differ
  renamed_distinct (x ∷ xs) differ one =
      IsDistinct-cons alike (f x) (map f xs) (apart x xs (IsDistinct-head alike x xs differ) (λ y is_in. one x y (here x xs) (later x y xs is_in)))
      (renamed_distinct xs (IsDistinct-tail alike x xs differ) (λ a b in_a in_b. one a b (later x a xs in_a) (later x b xs in_b)))

  -- each name is that of a key
  named : (q : K) (xs : List K) → is_member alike (map f xs) q ≡ true → (x : K) × (is_member alike xs x ≡ true) × (f x ≡ q)
  named q [] is = absurd (true≢false (sym is))
  named q (x ∷ xs) is = by (named q xs) (alike q (f x)) refl is
    where
      by : (is_member alike (map f xs) q ≡ true → (y : K) × (is_member alike xs y ≡ true) × (f y ≡ q)) → (b : Bool) → alike q (f x) ≡ b → (b || is_member alike (map f xs) q) ≡ true → (y : K) × (is_member alike (x ∷ xs) y ≡ true) × (f y ≡ q)
      by others true at is = (x, here x xs, sym (tells_apart same q (f x) at))
      by others false at is = let found = others is in (found.0, later x found.0 xs found.1, found.2)

  -- where each key of the one map has a name of its own, which is a key of the other, the other has no fewer
  pub no_fewer : {X : Type 0} (m n : FinMap R X) → ((x y : K) → contains_key m x ≡ true → contains_key m y ≡ true → f x ≡ f y → x ≡ y) → ((x : K) → contains_key m x ≡ true → contains_key n (f x) ≡ true) → len m ≤ len n
  no_fewer m n one goes =
      let distinct = renamed_distinct (keys m) (sorted_distinct R (entries m) (entries_sorted m)) (λ x y in_x in_y. one x y (contains_key-keys m x ∙ in_x) (contains_key-keys m y ∙ in_y)) in
      let fewer = length-le_from_is_member (eq_by_cmp_equiv total) (map f (keys m)) (keys n) distinct (λ q is_in. let found = named q (keys m) is_in in subst (λ k. is_member alike (keys n) k ≡ true) found.2 (sym (contains_key-keys n (f found.0)) ∙ goes found.0 (contains_key-keys m found.0 ∙ found.1))) in
      let mapped = length-map (keys m) f in
      let keys_m = length-map (entries m) (λ e. e.0) in
      let keys_n = length-map (entries n) (λ e. e.0) in
      omega (arith, fewer, mapped, keys_m, keys_n, len-entries m, len-entries n)
