-- What the index finds from a slot on, where it has groups.
use Rattle.std.proofs.Common.{◌≡◌, ◌==◌, ℕ, ◌<◌, ◌/◌, true, false, refl, sym, ap, subst, ◌∙◌, arith, List, [], ◌∷◌, Option, Some, None}
use Rattle.std.specs.declared.cmp.Ordering.{Ordering}
use Rattle.std.specs.declared.cmp.Ordering.TheVariants.{Less, Equal, Greater}
use Rattle.std.specs.declared.ops.Bound.TheVariants.{Included, Unbounded}
use Rattle.std.specs.Ordering.{is_gt, nat_cmp, ordering_then, ordering_reverse}
use Rattle.std.specs.List.{slice_get}
use Rattle.std.specs.Option.{IfSome}
use Rattle.std.specs.FinMap.{get}
use Rattle.std.specs.BTreeMap.{BTreeMap}
use Rattle.std.specs.BTreeMap as tree
use Rattle.std.specs.BTreeMap.Range.{IsLeBy}
use Rattle.std.specs.BTreeSet.{BTreeSet, IsKeyRangeOf}
use Rattle.std.specs.BTreeSet as sorted
use Rattle.std.proofs.lemmas.Bool.Decides.{nat_tests}
use Rattle.pm_types.specs.declared.source.RefSource.{RefSource}
use Rattle.pm_types.specs.declared.source.RefSource.TheVariants.{Root, Handle, Field}
use Rattle.pm_types.specs.contracts.source.RefSourceOrd.TheImpl.{ghosts}
use Rattle.pm_types.specs.Orders.{source_cmp}
use Rattle.pm_types.proofs.Orders.{sources_total, sources_antisymmetric}
use Rattle.pm_remset.specs.Grouped.{group_name, names_in, joined, AreGrouped}
use Rattle.pm_remset.specs.Indexed.{pair_cmp}
use Rattle.pm_remset.specs.Remembered.{Remembered, FindsLeastOf}
use Rattle.pm_remset.proofs.Finds.{first_root, same_slot, lower_slot, differ, slot_is}
use Rattle.pm_remset.proofs.Groups.{answered, at_joined}
use Rattle.pm_remset.proofs.Naming.{names_it, named_by}

-- sources of a lower group are lower
below : (m n : ℕ) → nat_cmp m n ≡ Less → m < n
below m n is = grind (arith, nat_tests, is)

is_below : (m n : ℕ) → m < n → nat_cmp m n ≡ Less
is_below m n less = grind (arith, nat_tests, less)

by_64 : (m n : ℕ) → nat_cmp (m / 64) (n / 64) ≡ Less → nat_cmp m n ≡ Less
by_64 m n is = (let less = below (m / 64) (n / 64) is in is_below m n (omega (arith, less)))

then_less : (a b c : Ordering) → ordering_then a b ≡ Less → (b ≡ Less → c ≡ Less) → ordering_then a c ≡ Less
then_less Less b c is h = refl
then_less Equal b c is h = h is
then_less Greater b c is h = cc

first_less : (a b : Ordering) → a ≡ Less → ordering_then a b ≡ Less
first_less Less b is = refl
first_less Equal b is = cc
first_less Greater b is = cc

only_first : (a b : Ordering) → ordering_then a b ≡ Less → b ≡ Equal → a ≡ Less
only_first Less b is equal = refl
only_first Equal b is equal = sym equal ∙ is
only_first Greater b is equal = is

pub groups_apart : (x y : RefSource) → source_cmp (group_name x) (group_name y) ≡ Less → source_cmp x y ≡ Less
groups_apart (Root m) (Root n) is = by_64 m n is
groups_apart (Root m) (Handle d s) is = refl
groups_apart (Root m) (Field b j) is = refl
groups_apart (Handle c r) (Root n) is = is
groups_apart (Handle c r) (Handle d s) is = then_less (nat_cmp c d) (nat_cmp (r / 64) (s / 64)) (nat_cmp r s) is (by_64 r s)
groups_apart (Handle c r) (Field b j) is = refl
groups_apart (Field a i) (Root n) is = is
groups_apart (Field a i) (Handle d s) is = is
groups_apart (Field a i) (Field b j) is =
    first_less (ordering_then (nat_cmp a.car b.car) (nat_cmp a.slot b.slot)) (nat_cmp i j)
    (then_less (nat_cmp a.car b.car) (nat_cmp (a.slot / 64) (b.slot / 64)) (nat_cmp a.slot b.slot)
    (only_first (ordering_then (nat_cmp a.car b.car) (nat_cmp (a.slot / 64) (b.slot / 64))) (nat_cmp 0 0) is refl) (by_64 a.slot b.slot))

module _ (m : BTreeMap RefSource Remembered) (index : BTreeSet (ℕ × RefSource)) (count : ℕ) (kept : AreGrouped m index count) (set : Remembered) (seen : joined m.entries ≡ set) where
  pub at : (x : RefSource) → get set x ≡ answered (tree.get ghosts.cmp m (group_name x)) x
  at x = ap (λ s. get s x) (sym seen) ∙ at_joined m kept.ordered kept.in_group x

  named_in : (slot : ℕ) (x : RefSource) (found : Option Remembered) → answered found x ≡ Some slot → names_in slot found ≡ true
  named_in slot x None is = cc
  named_in slot x (Some l) is = names_it slot l x is

  -- the index has the group of each source that names the slot
  pub has_group : (slot : ℕ) (x : RefSource) → get set x ≡ Some slot → sorted.contains pair_cmp index (slot, group_name x) ≡ true
  has_group slot x is = kept.indexed slot (group_name x) ∙ named_in slot x (tree.get ghosts.cmp m (group_name x)) (sym (at x) ∙ is)

  module _ (slot : ℕ) (r : List (ℕ × RefSource)) (part : IsKeyRangeOf pair_cmp (Included (slot, Root 0)) Unbounded index r) where
    from_start : (h : RefSource) → is_gt (pair_cmp (slot, Root 0) (slot, h)) ≡ false
    from_start h = ap is_gt (same_slot slot (Root 0) h) ∙ first_root h

    -- nothing from the slot on
    pub no_group_from : r ≡ [] → FindsLeastOf set slot None
    no_group_from none source n is = differ n slot (λ same.
        let absent = part.5 none (slot, group_name source) (from_start (group_name source), tt) in
        let there = has_group slot source (is ∙ ap Some same) in cc)

    module _ (p : ℕ × RefSource) (rest : List (ℕ × RefSource)) (begins : r ≡ p ∷ rest) where
      first : (sorted.IsKeyInRange pair_cmp (Included (slot, Root 0)) Unbounded index p)
      first = subst (λ xs. IfSome (slice_get xs 0) (sorted.IsKeyInRange pair_cmp (Included (slot, Root 0)) Unbounded index)) begins part.1

      least : (source : RefSource) → get set source ≡ Some slot → is_gt (pair_cmp p (slot, group_name source)) ≡ false
      least source is = subst (λ xs. IfSome (slice_get xs 0) (λ k. IsLeBy pair_cmp k (slot, group_name source))) begins (part.2 (slot, group_name source) (from_start (group_name source), tt) (has_group slot source is))

      -- the first one names a later slot
      pub later_group : (p.0 ≡ slot → ⊥) → FindsLeastOf set slot None
      later_group apart source n is =
          differ n slot (λ same.
          let le = least source (is ∙ ap Some same) in
          let from : is_gt (pair_cmp (slot, Root 0) p) ≡ false = first.0.0 in
          let after : p.0 < slot → ⊥ = λ h. let gt = lower_slot p.0 slot (Root 0) p.1 h in cc in
          let before : slot < p.0 → ⊥ = λ h. let gt = lower_slot slot p.0 p.1 (group_name source) h in cc in
          apart (omega (arith, after, before)))

      module _ (same : p.0 ≡ slot) where
        -- it is there
        pub group_there : (found : Option Remembered) → tree.get ghosts.cmp m p.1 ≡ found → names_in slot found ≡ true
        group_there found is = ap (names_in slot) (sym is) ∙ sym (kept.indexed slot p.1) ∙ subst (λ s. sorted.contains pair_cmp index (s, p.1) ≡ true) same first.1

        -- what its group finds
        pub least_in_group : (l : Remembered) → tree.get ghosts.cmp m p.1 ≡ Some l → (found : Option RefSource) → FindsLeastOf l slot found → FindsLeastOf set slot found
        least_in_group l is None none =
            let by = named_by slot l (group_there (Some l) is) in
            let no_other : (slot == slot) ≡ false = none by.0 slot by.1 in
            let itself : (slot == slot) ≡ true = slot_is slot in
            absurd cc
        least_in_group l is (Some x) finds =
            let in_it : group_name x ≡ p.1 = kept.in_group p.1 l is x slot finds.there in
            let got : (y : RefSource) → group_name y ≡ p.1 → get set y ≡ get l y = λ y it. at y ∙ ap (λ h. answered (tree.get ghosts.cmp m h) y) it ∙ ap (λ found. answered found y) is in
            record {
              there = got x in_it ∙ finds.there;
              passed = slot_is slot;
              lower_failed = λ other n named less. differ n slot (λ at_slot.
                  let here : get set other ≡ Some slot = named ∙ ap Some at_slot in
                  let le : is_gt (source_cmp p.1 (group_name other)) ≡ false = sym (ap is_gt (same_slot slot p.1 (group_name other))) ∙ subst (λ s. is_gt (pair_cmp (s, p.1) (slot, group_name other)) ≡ false) same (least other here) in
                  by_order (source_cmp p.1 (group_name other)) refl le (λ lower.
                  let above : source_cmp x other ≡ Less = groups_apart x other (ap (λ h. source_cmp h (group_name other)) in_it ∙ lower) in
                  let turned : source_cmp x other ≡ Greater = sources_total.antisymm x other ∙ ap ordering_reverse less in cc)
                  (λ equal.
                  let mine : group_name other ≡ p.1 = sym (sources_antisymmetric p.1 (group_name other) equal) in
                  let no_other : (slot == slot) ≡ false = finds.lower_failed other slot (sym (got other mine) ∙ here) less in
                  let itself : (slot == slot) ≡ true = slot_is slot in cc));
            }
          where
            by_order : {o : Ordering} (r : Ordering) → o ≡ r → is_gt r ≡ false → (r ≡ Less → ⊥) → (r ≡ Equal → ⊥) → ⊥
            by_order Less is not_gt less equal = less refl
            by_order Equal is not_gt less equal = equal refl
            by_order Greater is not_gt less equal = absurd cc
