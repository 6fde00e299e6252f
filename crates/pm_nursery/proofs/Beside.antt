-- The holders that stand beside an identity, as they are read from the sorted pairs.
use Rattle.std.proofs.Common.{◌≡◌, ⊎_elim, inl, inr, ℕ, ◌<◌, true, false, List, [], ◌∷◌, ◌++◌, map, append_assoc, append-nil, refl, sym, ap, subst, ◌∙◌, arith}
use Rattle.std.specs.declared.cmp.Ordering.TheVariants.{Less}
use Rattle.std.specs.declared.ops.Bound.TheVariants.{Included, Unbounded}
use Rattle.std.specs.Ordering.{is_gt, eq_by_cmp}
use Rattle.std.specs.List.{All, AllByRecursion, Contains, list_any}
use Rattle.std.specs.List.Sorted.{IsStrictlySortedBy}
use Rattle.std.specs.BTreeMap.{is_at}
use Rattle.std.specs.BTreeMap.Range.{range_contains}
use Rattle.std.specs.BTreeSet.{BTreeSet, IsKeyRangeOf, keys_between, contains}
use Rattle.std.specs.BTreeSet as sorted
use Rattle.std.proofs.lemmas.Bool.Decides.{nat_tests}
use Rattle.std.proofs.lemmas.List.Elements.{Contains-append_cases, Contains-append_left, Contains-append_right}
use Rattle.std.proofs.lemmas.List.Kept.{IsStrictlySortedBy-filter}
use Rattle.std.proofs.lemmas.Map.Views.{any-filter_same, Contains-from_any}
use Rattle.pm_types.specs.Orders.{place_cmp}
use Rattle.pm_types.proofs.Orders.{places_antisymmetric}
use Rattle.pm_types.proofs.Shown.{tied}
use Rattle.pm_model.proofs.Members.{at_first, in_rest, in_none, first_or_rest}
use Rattle.pm_nursery.specs.Walking.{PushesHolders}

-- what holds of all of a list holds of each that it contains
pub each_of : {X : Type 0} (P : X → Type 0) (xs : List X) (x : X) → All P xs → Contains xs x → P x
each_of P xs x all within = subst P within.2 (all within.0 x within.1)

pub each_said : {X : Type 0} (P : X → Type 0) (xs : List X) (x : X) → AllByRecursion P xs → Contains xs x → P x
each_said P [] x all within = absurd (in_none x within)
each_said P (y ∷ ys) x all within = ⊎_elim (λ (same : y ≡ x). subst P same all.0) (λ (there : Contains ys x). each_said P ys x all.1 there) (first_or_rest y x ys within)

-- a mapped list
pub in_map : {X Y : Type 0} (f : X → Y) (xs : List X) (x : X) → Contains xs x → Contains (map f xs) (f x)
in_map f [] x within = absurd (in_none x within)
in_map f (y ∷ ys) x within = ⊎_elim (λ (same : y ≡ x). subst (λ z. Contains (f y ∷ map f ys) (f z)) same (at_first (f y) (map f ys))) (λ (there : Contains ys x). in_rest (f y) (f x) (map f ys) (in_map f ys x there)) (first_or_rest y x ys within)

pub of_map : {X Y : Type 0} (f : X → Y) (xs : List X) (z : Y) → Contains (map f xs) z → (x : X) × Contains xs x × (f x ≡ z)
of_map f [] z within = absurd (in_none z within)
of_map f (y ∷ ys) z within =
    ⊎_elim (λ (same : f y ≡ z). let here : (x : _) × Contains (y ∷ ys) x × (f x ≡ z) = (y, at_first y ys, same) in here)
    (λ (there : Contains (map f ys) z). let rest = of_map f ys z there in (rest.0, in_rest y rest.0 ys rest.1, rest.2))
    (first_or_rest (f y) z (map f ys) within)

-- ---- the way through the pairs

pub record Pushing (id : ℕ) (before out : List ℕ) (all left : List (ℕ × ℕ)) : Type 0 where
  pub so_far : List (ℕ × ℕ)
  pub parted : all ≡ so_far ++ left
  pub pushed : out ≡ before ++ map (λ p. p.1) so_far
  pub same : AllByRecursion (λ p. p.0 ≡ id) so_far

pub pushing_begins : (id : ℕ) (before : List ℕ) (all : List (ℕ × ℕ)) → Pushing id before before all all
pushing_begins id before all = record { so_far = []; parted = refl; pushed = sym (append-nil before); same = tt }

all_more : (P : ℕ × ℕ → Type 0) (xs : List (ℕ × ℕ)) (x : ℕ × ℕ) → AllByRecursion P xs → P x → AllByRecursion P (xs ++ x ∷ [])
all_more P [] x all here = (here, tt)
all_more P (y ∷ ys) x all here = (all.0, all_more P ys x all.1 here)

map_more : (xs : List (ℕ × ℕ)) (x : ℕ × ℕ) → map (λ p. p.1) (xs ++ x ∷ []) ≡ map (λ p. p.1) xs ++ x.1 ∷ []
map_more [] x = refl
map_more (y ∷ ys) x = ap (λ zs. y.1 ∷ zs) (map_more ys x)

pub pushing_goes_on : (id : ℕ) (before out after : List ℕ) (all left : List (ℕ × ℕ)) (p : ℕ × ℕ) (rest : List (ℕ × ℕ)) → left ≡ p ∷ rest → p.0 ≡ id → after ≡ out ++ p.1 ∷ [] → Pushing id before out all left → Pushing id before after all rest
pushing_goes_on id before out after all left p rest is same pushes pushing = record {
  so_far = pushing.so_far ++ p ∷ [];
  parted = pushing.parted ∙ ap (λ xs. pushing.so_far ++ xs) is ∙ sym (append_assoc pushing.so_far (p ∷ []) rest);
  pushed = pushes ∙ ap (λ xs. xs ++ p.1 ∷ []) pushing.pushed ∙ append_assoc before (map (λ p. p.1) pushing.so_far) (p.1 ∷ []) ∙ ap (λ xs. before ++ xs) (sym (map_more pushing.so_far p));
  same = all_more (λ p. p.0 ≡ id) pushing.so_far p pushing.same same;
}

-- nothing of the identity is left
abbrev pub NoneLeft : ℕ → List (ℕ × ℕ) → Type 0
NoneLeft id left = (other : ℕ) → Contains left (id, other) → ⊥

-- what stands behind one is above it
behind : (p : ℕ × ℕ) (rest so_far : List (ℕ × ℕ)) → IsStrictlySortedBy place_cmp (so_far ++ p ∷ rest) → AllByRecursion (λ q. place_cmp p q ≡ Less) rest
unfolding IsStrictlySortedBy
behind p rest [] order = order.0
behind p rest (q ∷ so_far) order = behind p rest so_far order.1

module _ (pairs : BTreeSet (ℕ × ℕ)) (id : ℕ) (r : List (ℕ × ℕ)) (between : r ≡ keys_between place_cmp (Included (id, 0)) Unbounded pairs) (part : IsKeyRangeOf place_cmp (Included (id, 0)) Unbounded pairs r) (ordered : sorted.IsOrdered place_cmp pairs) where
  sorted_part : IsStrictlySortedBy place_cmp r
  sorted_part = subst (IsStrictlySortedBy place_cmp) (sym between) (IsStrictlySortedBy-filter place_cmp _ pairs.keys ordered)

  same_pair : (p q : ℕ × ℕ) → is_at (place_cmp p) q ≡ true → p ≡ q
  same_pair p q at = places_antisymmetric p q (tied (place_cmp p q) at)

  start_low : (other : ℕ) (q : ℕ × ℕ) → is_at (place_cmp (id, other)) q ≡ true → range_contains place_cmp (Included (id, 0)) Unbounded q ≡ true
  start_low other q at = subst (λ q. range_contains place_cmp (Included (id, 0)) Unbounded q ≡ true) (same_pair (id, other) q at) low
    where
      low : range_contains place_cmp (Included (id, 0)) Unbounded (id, other) ≡ true
      low = grind (arith, nat_tests)

  -- a pair of the identity is read
  in_part : (other : ℕ) → contains place_cmp pairs (id, other) ≡ true → Contains r (id, other)
  in_part other has =
      Contains-from_any {eq = eq_by_cmp place_cmp} same_pair (id, other) r
      (ap (list_any (is_at (place_cmp (id, other)))) between ∙ any-filter_same (is_at (place_cmp (id, other))) _ true (start_low other) pairs.keys ∙ has)

  not_before : (p : ℕ × ℕ) → Contains r p → p.0 < id → ⊥
  not_before p within low = let from : is_gt (place_cmp (id, 0) p) ≡ false = (each_of (sorted.IsKeyInRange place_cmp (Included (id, 0)) Unbounded pairs) r p part.0 within).0.0 in grind (arith, nat_tests, from, low)

  later_pair : (p q : ℕ × ℕ) → id < p.0 → place_cmp p q ≡ Less → id < q.0
  later_pair p q later less = grind (arith, nat_tests, later, less)

  -- once one of another identity is met, none of this one is left
  pub past_none : (so_far rest : List (ℕ × ℕ)) (p : ℕ × ℕ) → r ≡ so_far ++ p ∷ rest → (p.0 ≡ id → ⊥) → NoneLeft id (p ∷ rest)
  past_none so_far rest p is apart other within =
      let here : Contains r p = subst (λ xs. Contains xs p) (sym is) (Contains-append_right so_far (p ∷ rest) p (at_first p rest)) in
      let later : id < p.0 = let low = not_before p here in omega (arith, low, apart) in
      ⊎_elim
      (λ (same : p ≡ (id, other)). apart (ap (λ (q : ℕ × ℕ). q.0) same))
      (λ (there : Contains rest (id, other)). let below = later_pair p (id, other) later (each_said (λ q. place_cmp p q ≡ Less) rest (id, other) (behind p rest so_far (subst (IsStrictlySortedBy place_cmp) is sorted_part)) there) in omega (arith, below))
      (first_or_rest p (id, other) rest within)

  pub pushing_ends : (before out : List ℕ) (left : List (ℕ × ℕ)) → NoneLeft id left → Pushing id before out r left → PushesHolders pairs id before out
  pushing_ends before out left none pushing = record {
    each = λ other within. ⊎_elim
        (λ (old : Contains before other). inl old)
        (λ (new : Contains (map (λ p. p.1) pushing.so_far) other).
        let pair = of_map (λ (p : ℕ × ℕ). p.1) pushing.so_far other new in
        let first : pair.0.0 ≡ id = each_said (λ p. p.0 ≡ id) pushing.so_far pair.0 pushing.same pair.1 in
        let read : Contains r pair.0 = subst (λ xs. Contains xs pair.0) (sym pushing.parted) (Contains-append_left pushing.so_far left pair.0 pair.1) in
        let there : contains place_cmp pairs pair.0 ≡ true = (each_of (sorted.IsKeyInRange place_cmp (Included (id, 0)) Unbounded pairs) r pair.0 part.0 read).1 in
        inr (subst (λ p. contains place_cmp pairs p ≡ true) (λ i. (first i, pair.2 i)) there))
        (Contains-append_cases before (map (λ p. p.1) pushing.so_far) other (subst (λ xs. Contains xs other) pushing.pushed within));
    kept = λ other within. subst (λ xs. Contains xs other) (sym pushing.pushed) (Contains-append_left before (map (λ p. p.1) pushing.so_far) other within);
    all = λ other has. ⊎_elim
        (λ (read : Contains pushing.so_far (id, other)).
        subst (λ xs. Contains xs other) (sym pushing.pushed) (Contains-append_right before (map (λ p. p.1) pushing.so_far) other (in_map (λ (p : ℕ × ℕ). p.1) pushing.so_far (id, other) read)))
        (λ (unread : Contains left (id, other)). absurd (none other unread))
        (Contains-append_cases pushing.so_far left (id, other) (subst (λ xs. Contains xs (id, other)) pushing.parted (in_part other has)));
  }
