-- The sources of a slot, one group of the index after another.
use Rattle.std.proofs.Common.{◌≡◌, ℕ, zero, suc, ◌⊎◌, ◌<◌, ◌==◌, ◌||◌, ◌&&◌, inl, inr, Bool, true, false, refl, sym, ap, subst, ◌∙◌, arith, List, [], ◌∷◌, ◌++◌, length, get_or, take, append-nil, append_assoc, Some, None}
use Rattle.std.specs.declared.cmp.Ordering.TheVariants.{Less}
use Rattle.std.specs.declared.ops.Bound.TheVariants.{Included, Unbounded}
use Rattle.std.specs.Ordering.{is_eq, is_gt}
use Rattle.std.specs.List.{All, AllByRecursion, Contains, list_any}
use Rattle.std.specs.List.Sorted.{IsStrictlySortedBy}
use Rattle.std.specs.FinMap.{get}
use Rattle.std.specs.BTreeMap.{is_at}
use Rattle.std.specs.BTreeMap.Range.{range_contains}
use Rattle.std.specs.BTreeSet.{BTreeSet, IsKeyRangeOf, keys_between}
use Rattle.std.specs.BTreeSet as sorted
use Rattle.std.proofs.lemmas.Bool.{cases_Bool, and_parts, eqb-true}
use Rattle.std.proofs.lemmas.List.Elements.{All-head, All-tail}
use Rattle.std.proofs.lemmas.List.Kept.{IsStrictlySortedBy-filter}
use Rattle.std.proofs.lemmas.Map.Views.{any-filter_same}
use Rattle.std.proofs.Math.Seq.{take-append_seam}
use Rattle.pm_types.specs.declared.source.RefSource.{RefSource}
use Rattle.pm_types.specs.declared.source.RefSource.TheVariants.{Root}
use Rattle.pm_types.specs.contracts.source.RefSourceOrd.TheImpl.{ghosts}
use Rattle.pm_types.specs.Orders.{source_cmp}
use Rattle.pm_remset.specs.Grouped.{group_name}
use Rattle.pm_remset.specs.Indexed.{pair_cmp}
use Rattle.pm_remset.specs.Remembered.{Remembered, AppendsSources}
use Rattle.pm_remset.proofs.Finds.{same_slot, first_root, lower_slot, at_or_above}
use Rattle.pm_remset.proofs.Least.{groups_apart}
use Rattle.pm_remset.proofs.Slots.{not_at, none_later}
use Rattle.pm_remset.proofs.Sources.{at_pair, tied_source}

and_false : (b : Bool) → (b && false) ≡ false
and_false true = refl
and_false false = refl

-- ---- lists

all_append : (P : RefSource → Type 0) (xs ys : List RefSource) → AllByRecursion P xs → AllByRecursion P ys → AllByRecursion P (xs ++ ys)
all_append P [] ys h k = k
all_append P (x ∷ xs) ys h k = (h.0, all_append P xs ys h.1 k)

sorted_append : (xs ys : List RefSource) → IsStrictlySortedBy source_cmp xs → IsStrictlySortedBy source_cmp ys → AllByRecursion (λ x. AllByRecursion (λ y. source_cmp x y ≡ Less) ys) xs → IsStrictlySortedBy source_cmp (xs ++ ys)
unfolding IsStrictlySortedBy
sorted_append [] ys h k below = k
sorted_append (x ∷ xs) ys h k below = (all_append _ xs ys h.0 below.0, sorted_append xs ys h.1 k below.1)

mapped : (P Q : RefSource → Type 0) (xs : List RefSource) → ((x : RefSource) → P x → Q x) → AllByRecursion P xs → AllByRecursion Q xs
mapped P Q [] f h = tt
mapped P Q (x ∷ xs) f h = (f x h.0, mapped P Q xs f h.1)

contains_left : (x : RefSource) (xs ys : List RefSource) → Contains xs x → Contains (xs ++ ys) x
contains_left x [] ys (k, inside, is) = absurd (omega (arith, inside))
contains_left x (y ∷ xs) ys (zero, inside, is) = (0, omega arith, is)
contains_left x (y ∷ xs) ys (suc k, inside, is) = more x y (xs ++ ys) (contains_left x xs ys (k, omega (arith, inside), is))
  where
    more : (x y : RefSource) (zs : List RefSource) → Contains zs x → Contains (y ∷ zs) x
    more x y zs (k, inside, is) = (suc k, omega (arith, inside), is)

contains_right : (x : RefSource) (xs ys : List RefSource) → Contains ys x → Contains (xs ++ ys) x
contains_right x [] ys h = h
contains_right x (y ∷ xs) ys h = more x y (xs ++ ys) (contains_right x xs ys h)
  where
    more : (x y : RefSource) (zs : List RefSource) → Contains zs x → Contains (y ∷ zs) x
    more x y zs (k, inside, is) = (suc k, omega (arith, inside), is)

-- ---- what was appended so far, and the groups that are left

pub record Collects (set : Remembered) (slot : ℕ) (before out : List RefSource) (left : List (ℕ × RefSource)) : Type 0 where
  pub so_far : List RefSource
  pub appended : out ≡ before ++ so_far
  pub in_order : IsStrictlySortedBy source_cmp so_far
  pub each_names : AllByRecursion (λ source. get set source ≡ Some slot) so_far
  pub sorted : IsStrictlySortedBy pair_cmp left
  pub from_slot : AllByRecursion (λ p. p.0 < slot → ⊥) left
  pub lower : AllByRecursion (λ source. AllByRecursion (λ p. pair_cmp (slot, group_name source) p ≡ Less) left) so_far
  pub others : (source : RefSource) → get set source ≡ Some slot → Contains so_far source ⊎ (list_any (is_at (pair_cmp (slot, group_name source))) left ≡ true)

pub collects_begins : (set : Remembered) (slot : ℕ) (before : List RefSource) (left : List (ℕ × RefSource)) → IsStrictlySortedBy pair_cmp left → AllByRecursion (λ p. p.0 < slot → ⊥) left
    → ((source : RefSource) → get set source ≡ Some slot → list_any (is_at (pair_cmp (slot, group_name source))) left ≡ true) → Collects set slot before before left
unfolding IsStrictlySortedBy
collects_begins set slot before left sorted from_slot all = record { so_far = []; appended = sym (append-nil before); in_order = tt; each_names = tt; sorted = sorted; from_slot = from_slot; lower = tt; others = λ source is. inr (all source is) }

-- what was appended is taken away again
pub collects_undone : (set : Remembered) (slot n : ℕ) (before out : List RefSource) (left : List (ℕ × RefSource)) → n ≡ length before → Collects set slot before out left → take n out ≡ before
collects_undone set slot n before out left is c = (λ i. take (is i) (c.appended i)) ∙ take-append_seam before c.so_far

-- nothing is left of the slot
pub collects_ends : (set : Remembered) (slot : ℕ) (before out : List RefSource) (left : List (ℕ × RefSource)) → ((source : RefSource) → list_any (is_at (pair_cmp (slot, group_name source))) left ≡ true → ⊥) → Collects set slot before out left → AppendsSources set slot before out
collects_ends set slot before out left none c = record {
  sources = c.so_far;
  appended = c.appended;
  in_order = c.in_order;
  each_names = c.each_names;
  all = λ source is. elim (c.others source is) [
    | inl inside ↦ inside
    | inr look ↦ absurd (none source look)
  ];
}

module _ (set : Remembered) (slot : ℕ) (before out : List RefSource) (left : List (ℕ × RefSource)) (p : ℕ × RefSource) (rest : List (ℕ × RefSource)) (begins : left ≡ p ∷ rest) (same : p.0 ≡ slot) (c : Collects set slot before out left) where
  rises : IsStrictlySortedBy pair_cmp (p ∷ rest)
  rises = subst (IsStrictlySortedBy pair_cmp) begins c.sorted

  above : AllByRecursion (λ k. pair_cmp p k ≡ Less) rest
  unfolding IsStrictlySortedBy
  above = rises.0

  later : IsStrictlySortedBy pair_cmp rest
  unfolding IsStrictlySortedBy
  later = rises.1

  froms : AllByRecursion (λ k. k.0 < slot → ⊥) (p ∷ rest)
  froms = subst (AllByRecursion (λ k. k.0 < slot → ⊥)) begins c.from_slot

  heads : AllByRecursion (λ source. AllByRecursion (λ k. pair_cmp (slot, group_name source) k ≡ Less) (p ∷ rest)) c.so_far
  heads = mapped _ _ c.so_far (λ x h. subst (AllByRecursion (λ k. pair_cmp (slot, group_name x) k ≡ Less)) begins h) c.lower

  looked : (source : RefSource) → list_any (is_at (pair_cmp (slot, group_name source))) left ≡ true → (group_name source ≡ p.1) ⊎ (list_any (is_at (pair_cmp (slot, group_name source))) rest ≡ true)
  looked source look = elim (cases_Bool (is_eq (ghosts.cmp (group_name source) p.1))) [
    | inl tie ↦ inl (tied_source (group_name source) p.1 tie)
    | inr apart ↦ inr (
        let other : is_at (pair_cmp (slot, group_name source)) p ≡ false = at_pair slot p.0 (group_name source) p.1 ∙ ap (λ b. (slot == p.0) && b) apart ∙ and_false (slot == p.0) in
        ap (λ b. b || list_any (is_at (pair_cmp (slot, group_name source))) rest) (sym other) ∙ ap (list_any (is_at (pair_cmp (slot, group_name source)))) (sym begins) ∙ look)
  ]

  -- the group's sources were appended
  pub collects_on : (l : Remembered) → ((q : RefSource) → group_name q ≡ p.1 → get set q ≡ get l q) → ((q : RefSource) (n : ℕ) → get l q ≡ Some n → group_name q ≡ p.1) → (after : List RefSource) → AppendsSources l slot out after → Collects set slot before after rest
  collects_on l got own after more = record {
    so_far = c.so_far ++ more.sources;
    appended = more.appended ∙ ap (λ xs. xs ++ more.sources) c.appended ∙ append_assoc before c.so_far more.sources;
    in_order = sorted_append c.so_far more.sources c.in_order more.in_order (mapped _ _ c.so_far (λ x h. mapped _ _ more.sources (λ y is. groups_apart x y (lower_group x y (own y slot is) h.0)) more.each_names) heads);
    each_names = all_append _ c.so_far more.sources c.each_names (mapped _ _ more.sources (λ y is. got y (own y slot is) ∙ is) more.each_names);
    sorted = later;
    from_slot = froms.1;
    lower = all_append _ c.so_far more.sources (mapped _ _ c.so_far (λ x h. h.1) heads) (mapped _ _ more.sources (λ y is. subst (λ k. AllByRecursion (λ r. pair_cmp k r ≡ Less) rest) (λ i. (same i, sym (own y slot is) i)) above) more.each_names);
    others = λ source is. elim (c.others source is) [
      | inl inside ↦ inl (contains_left source c.so_far more.sources inside)
      | inr look ↦ elim (looked source look) [
        | inl mine ↦ inl (contains_right source c.so_far more.sources (more.all source (sym (got source mine) ∙ is)))
        | inr further ↦ inr further
      ]
    ];
  }
    where
      lower_group : (x y : RefSource) → group_name y ≡ p.1 → pair_cmp (slot, group_name x) p ≡ Less → source_cmp (group_name x) (group_name y) ≡ Less
      lower_group x y mine h = sym (same_slot slot (group_name x) (group_name y)) ∙ (λ i. pair_cmp (slot, group_name x) (sym same i, mine i)) ∙ h

  -- there is no such group
  pub collects_past : ((q : RefSource) → group_name q ≡ p.1 → get set q ≡ None) → Collects set slot before out rest
  collects_past none = record {
    so_far = c.so_far;
    appended = c.appended;
    in_order = c.in_order;
    each_names = c.each_names;
    sorted = later;
    from_slot = froms.1;
    lower = mapped _ _ c.so_far (λ x h. h.1) heads;
    others = λ source is. elim (c.others source is) [
      | inl inside ↦ inl inside
      | inr look ↦ elim (looked source look) [
        | inl mine ↦ (let nothing : None ≡ Some slot = sym (none source mine) ∙ is in absurd cc)
        | inr further ↦ inr further
      ]
    ];
  }

-- the first group that is left is of a later slot
pub collects_stops : (set : Remembered) (slot : ℕ) (before out : List RefSource) (left : List (ℕ × RefSource)) (p : ℕ × RefSource) (rest : List (ℕ × RefSource)) → left ≡ p ∷ rest → (p.0 ≡ slot → ⊥) → Collects set slot before out left → AppendsSources set slot before out
unfolding IsStrictlySortedBy
collects_stops set slot before out left p rest begins apart c =
    let rises : IsStrictlySortedBy pair_cmp (p ∷ rest) = subst (IsStrictlySortedBy pair_cmp) begins c.sorted in
    let froms : AllByRecursion (λ k. k.0 < slot → ⊥) (p ∷ rest) = subst (AllByRecursion (λ k. k.0 < slot → ⊥)) begins c.from_slot in
    let not_low : p.0 < slot → ⊥ = froms.0 in
    let after : slot < p.0 = omega (arith, apart, not_low) in
    collects_ends set slot before out left (λ source look.
    let none : list_any (is_at (pair_cmp (slot, group_name source))) (p ∷ rest) ≡ false = (λ i. not_at slot (group_name source) p (λ same. apart (sym same)) i || none_later slot (group_name source) p rest after rises.0 i) in
    let some : list_any (is_at (pair_cmp (slot, group_name source))) (p ∷ rest) ≡ true = ap (list_any (is_at (pair_cmp (slot, group_name source)))) (sym begins) ∙ look in
    cc) c

-- ---- the part of the index from the slot on

by_recursion : (P : ℕ × RefSource → Type 0) (xs : List (ℕ × RefSource)) → All P xs → AllByRecursion P xs
by_recursion P [] h = tt
by_recursion P (x ∷ xs) h = (All-head P x xs h, by_recursion P xs (All-tail P x xs h))

module _ (index : BTreeSet (ℕ × RefSource)) (slot : ℕ) (r : List (ℕ × RefSource)) (between : r ≡ keys_between pair_cmp (Included (slot, Root 0)) Unbounded index) (part : IsKeyRangeOf pair_cmp (Included (slot, Root 0)) Unbounded index r) (ordered : sorted.IsOrdered pair_cmp index) where
  pub part_sorted : IsStrictlySortedBy pair_cmp r
  part_sorted = subst (IsStrictlySortedBy pair_cmp) (sym between) (IsStrictlySortedBy-filter pair_cmp _ index.keys ordered)

  in_range : (h : RefSource) (k : ℕ × RefSource) → is_at (pair_cmp (slot, h)) k ≡ true → range_contains pair_cmp (Included (slot, Root 0)) Unbounded k ≡ true
  in_range h k at =
      let both = and_parts (slot == k.0) (is_eq (ghosts.cmp h k.1)) (sym (at_pair slot k.0 h k.1) ∙ at) in
      let same : slot ≡ k.0 = eqb-true slot k.0 both.0 in
      let from : is_gt (pair_cmp (slot, Root 0) k) ≡ false = (λ i. is_gt (pair_cmp (slot, Root 0) (sym same i, k.1))) ∙ ap is_gt (same_slot slot (Root 0) k.1) ∙ first_root k.1 in
      (λ i. at_or_above (pair_cmp (slot, Root 0) k) from i && true)

  pub in_part : (h : RefSource) → sorted.contains pair_cmp index (slot, h) ≡ true → list_any (is_at (pair_cmp (slot, h))) r ≡ true
  in_part h is = ap (list_any (is_at (pair_cmp (slot, h)))) between ∙ any-filter_same (is_at (pair_cmp (slot, h))) _ true (in_range h) index.keys ∙ is

  pub part_from : AllByRecursion (λ p. p.0 < slot → ⊥) r
  part_from = by_recursion (λ p. p.0 < slot → ⊥) r (λ k d inside low. not_lower (get_or r k d) (part.0 k d inside).0.0 low)
    where
      not_lower : (p : ℕ × RefSource) → is_gt (pair_cmp (slot, Root 0) p) ≡ false → p.0 < slot → ⊥
      not_lower p from low = let above = lower_slot p.0 slot (Root 0) p.1 low in cc

pub nothing_in : {X : Type 0} (p : X → Bool) (xs : List X) → xs ≡ [] → list_any p xs ≡ true → ⊥
nothing_in p xs none look = (let no_more : false ≡ true = ap (list_any p) (sym none) ∙ look in cc)
