-- Sources in groups: a group's sources stand together in order, and all groups in one set.
use Rattle.std.proofs.Common.{◌≡◌, ℕ, inl, inr, true, false, cond, refl, sym, ap, subst, ◌∙◌, List, [], ◌∷◌, ◌++◌, Option, Some, None}
use Rattle.std.specs.declared.cmp.Ordering.TheVariants.{Less}
use Rattle.std.specs.Cmp.{eq_by_cmp_equiv}
use Rattle.std.specs.Ordering.{is_eq}
use Rattle.std.specs.List.{AllByRecursion, flat_map}
use Rattle.std.specs.List.Sorted.{IsStrictlySortedBy}
use Rattle.std.specs.Map.{lookup, keys_of}
use Rattle.std.specs.FinMap.{find, entries, get, get-entries, get-from_entries}
use Rattle.std.specs.BTreeMap.{BTreeMap, is_at, IsOrdered}
use Rattle.std.specs.BTreeMap as tree
use Rattle.std.proofs.lemmas.Bool.{cases_Bool}
use Rattle.pm_types.specs.declared.source.RefSource.{RefSource}
use Rattle.pm_types.specs.contracts.source.RefSourceOrd.TheImpl.{ghosts}
use Rattle.pm_types.specs.Orders.{source_cmp}
use Rattle.pm_types.proofs.Orders.{sources_total, sources_antisymmetric}
use Rattle.pm_types.proofs.Shown.{tied}
use Rattle.pm_remset.specs.Grouped.{group_name, joined}
use Rattle.pm_remset.specs.Remembered.{Remembered}
use Rattle.pm_remset.proofs.Sources.{derived_is}

-- what a group answers at a source
abbrev pub answered : Option Remembered → RefSource → Option ℕ
answered None q = None
answered (Some set) q = get set q

-- the first of two answers that is one
abbrev pub or_else : Option ℕ → Option ℕ → Option ℕ
or_else None other = other
or_else (Some n) other = Some n

pub find-append : (q : RefSource) (xs ys : List (RefSource × ℕ)) → find source_cmp q (xs ++ ys) ≡ or_else (find source_cmp q xs) (find source_cmp q ys)
find-append q [] ys = refl
find-append q (x ∷ xs) ys = elim (cases_Bool (is_eq (source_cmp q x.0))) [
  | inl tie ↦ ap (λ b. cond b (Some x.1) (find source_cmp q (xs ++ ys))) tie ∙ sym (ap (λ b. or_else (cond b (Some x.1) (find source_cmp q xs)) (find source_cmp q ys)) tie)
  | inr apart ↦ ap (λ b. cond b (Some x.1) (find source_cmp q (xs ++ ys))) apart ∙ find-append q xs ys ∙ sym (ap (λ b. or_else (cond b (Some x.1) (find source_cmp q xs)) (find source_cmp q ys)) apart)
]

-- each source stands in the group of its name
abbrev pub AllInGroup : List (RefSource × Remembered) → Type 0
AllInGroup [] = Unit {0}
AllInGroup (g ∷ gs) = ((q : RefSource) (n : ℕ) → get g.1 q ≡ Some n → group_name q ≡ g.0) × AllInGroup gs

-- what all of them answer
abbrev at_first : List (RefSource × Remembered) → RefSource → Option ℕ
at_first gs q = find source_cmp q (flat_map (λ (g : RefSource × Remembered). entries g.1) gs)

one_answer : (found : Option ℕ) → found ≡ None → (later : Option ℕ) → or_else found later ≡ later
one_answer None is later = refl
one_answer (Some n) is later = cc

two_answers : (found later : Option ℕ) → later ≡ None → or_else found later ≡ found
two_answers None later is = is
two_answers (Some n) later is = refl

-- a group answers at none but its own sources
not_there : (set : Remembered) (q g : RefSource) → ((q : RefSource) (n : ℕ) → get set q ≡ Some n → group_name q ≡ g) → is_eq (source_cmp (group_name q) g) ≡ false → get set q ≡ None
not_there set q g own apart = by (get set q) refl
  where
    by : (found : Option ℕ) → get set q ≡ found → get set q ≡ None
    by None is = is
    by (Some n) is =
        let tie : is_eq (source_cmp (group_name q) g) ≡ true = ap (λ x. is_eq (source_cmp x g)) (own q n is) ∙ (eq_by_cmp_equiv sources_total).refl g in
        absurd cc

-- all groups answer what the group of the source does
pub joined_at : (gs : List (RefSource × Remembered)) → AllInGroup gs → IsStrictlySortedBy source_cmp (keys_of gs) → (q : RefSource) → at_first gs q ≡ answered (lookup (is_at (source_cmp (group_name q))) gs) q
unfolding IsStrictlySortedBy
joined_at [] own ordered q = refl
joined_at (g ∷ gs) own ordered q =
    find-append q (entries g.1) (flat_map (λ (g : RefSource × Remembered). entries g.1) gs)
    ∙ (λ i. or_else (sym (get-entries g.1 q) i) (joined_at gs own.1 ordered.1 q i))
    ∙ elim (cases_Bool (is_eq (source_cmp (group_name q) g.0))) [
      | inl tie ↦ two_answers (get g.1 q) _ (ap (λ found. answered found q) (none_there tie))
          ∙ sym (ap (λ b. answered (cond b (Some g.1) (lookup (is_at (source_cmp (group_name q))) gs)) q) tie)
      | inr apart ↦ one_answer (get g.1 q) (not_there g.1 q g.0 own.0 apart) _
          ∙ sym (ap (λ b. answered (cond b (Some g.1) (lookup (is_at (source_cmp (group_name q))) gs)) q) apart)
    ]
  where
    none_after : (x : RefSource) (es : List (RefSource × Remembered)) → AllByRecursion (λ k. source_cmp x k ≡ Less) (keys_of es) → lookup (is_at (source_cmp x)) es ≡ None
    none_after x [] h = refl
    none_after x (e ∷ es) h = ap (λ r. cond (is_eq r) (Some e.1) (lookup (is_at (source_cmp x)) es)) h.0 ∙ none_after x es h.1

    none_there : is_eq (source_cmp (group_name q) g.0) ≡ true → lookup (is_at (source_cmp (group_name q))) gs ≡ None
    none_there tie = ap (λ x. lookup (is_at (source_cmp x)) gs) (sources_antisymmetric (group_name q) g.0 (tied (source_cmp (group_name q) g.0) tie)) ∙ none_after g.0 gs ordered.0

-- the same of a tree of groups
module _ {P : RefSource → Remembered → Type 0} where
  each_entry : (es : List (RefSource × Remembered)) → IsStrictlySortedBy source_cmp (keys_of es) → ((g : RefSource) (set : Remembered) → lookup (is_at (source_cmp g)) es ≡ Some set → P g set) → AllByRecursion (λ (e : RefSource × Remembered). P e.0 e.1) es
  unfolding IsStrictlySortedBy
  each_entry [] ordered holds = tt
  each_entry (e ∷ es) ordered holds = (
    holds e.0 e.1 (ap (λ b. cond b (Some e.1) (lookup (is_at (source_cmp e.0)) es)) (itself e.0)),
    each_entry es ordered.1 (λ g set is. holds g set (elim (cases_Bool (is_eq (source_cmp g e.0))) [
      | inl tie ↦ (let none : lookup (is_at (source_cmp g)) es ≡ None = ap (λ x. lookup (is_at (source_cmp x)) es) (sources_antisymmetric g e.0 (tied (source_cmp g e.0) tie)) ∙ not_above e.0 es ordered.0 in absurd cc)
      | inr apart ↦ ap (λ b. cond b (Some e.1) (lookup (is_at (source_cmp g)) es)) apart ∙ is
    ])),
  )
    where
      itself : (x : RefSource) → is_eq (source_cmp x x) ≡ true
      itself x = (eq_by_cmp_equiv sources_total).refl x

      not_above : (x : RefSource) (es : List (RefSource × Remembered)) → AllByRecursion (λ k. source_cmp x k ≡ Less) (keys_of es) → lookup (is_at (source_cmp x)) es ≡ None
      not_above x [] h = refl
      not_above x (e ∷ es) h = ap (λ r. cond (is_eq r) (Some e.1) (lookup (is_at (source_cmp x)) es)) h.0 ∙ not_above x es h.1

all_in_group : (es : List (RefSource × Remembered)) → AllByRecursion (λ (e : RefSource × Remembered). (q : RefSource) (n : ℕ) → get e.1 q ≡ Some n → group_name q ≡ e.0) es → AllInGroup es
all_in_group [] h = tt
all_in_group (e ∷ es) h = (h.0, all_in_group es h.1)

-- what all groups of a tree answer
pub at_joined : (m : BTreeMap RefSource Remembered) → IsOrdered ghosts.cmp m
    → ((g : RefSource) (set : Remembered) → tree.get ghosts.cmp m g ≡ Some set → (q : RefSource) (n : ℕ) → get set q ≡ Some n → group_name q ≡ g)
    → (q : RefSource) → get (joined m.entries) q ≡ answered (tree.get ghosts.cmp m (group_name q)) q
at_joined m ordered own q =
    let sorted : IsStrictlySortedBy source_cmp (keys_of m.entries) = subst (λ R. IsOrdered R m) derived_is ordered in
    let at : (g : RefSource) → tree.get ghosts.cmp m g ≡ lookup (is_at (source_cmp g)) m.entries = λ g. ap (λ R. tree.get R m g) derived_is in
    get-from_entries sources_total (flat_map (λ (g : RefSource × Remembered). entries g.1) m.entries) q
    ∙ joined_at m.entries (all_in_group m.entries (each_entry m.entries sorted (λ g set is. own g set (at g ∙ is)))) sorted q
    ∙ ap (λ found. answered found q) (sym (at (group_name q)))
