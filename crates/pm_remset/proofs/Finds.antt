-- How a slot beside a source compares.
use Rattle.std.proofs.Common.{◌≡◌, ◌==◌, Ordering, ℕ, ◌<◌, true, false, refl, sym, ap, ◌∙◌, arith}
use Rattle.std.specs.declared.cmp.Ordering.TheVariants.{Less, Equal, Greater}
use Rattle.std.specs.Ordering.{is_le, is_gt, nat_cmp, ordering_then, ordering_reverse}
use Rattle.std.proofs.lemmas.Bool.Decides.{nat_tests}
use Rattle.pm_types.specs.declared.source.RefSource.{RefSource}
use Rattle.pm_types.specs.declared.source.RefSource.TheVariants.{Root, Handle, Field}
use Rattle.pm_types.specs.contracts.source.RefSourceOrd.TheImpl.{ghosts}
use Rattle.pm_types.specs.Orders.{source_cmp}
use Rattle.pm_types.proofs.Orders.{source_cmp_is, sources_total}
use Rattle.pm_remset.specs.Indexed.{pair_cmp}

pub slot_is : (slot : ℕ) → (slot == slot) ≡ true
slot_is slot = grind (arith, nat_tests)

pub differ : (m n : ℕ) → (m ≡ n → ⊥) → (m == n) ≡ false
differ m n apart = grind (arith, nat_tests, apart)

-- no source is below the first root
pub first_root : (source : RefSource) → is_gt (source_cmp (Root 0) source) ≡ false
first_root (Root n) = grind (arith, nat_tests)
first_root (Handle c r) = refl
first_root (Field a i) = refl

-- pairs of one slot compare as their sources do
pub same_slot : (slot : ℕ) (x y : RefSource) → pair_cmp (slot, x) (slot, y) ≡ source_cmp x y
same_slot slot x y = ap (λ o. ordering_then o (ghosts.cmp x y)) equal ∙ source_cmp_is x y
  where
    equal : nat_cmp slot slot ≡ Equal
    equal = grind (arith, nat_tests)

-- a pair of a lower slot is below
pub lower_slot : (s slot : ℕ) (x y : RefSource) → s < slot → is_gt (pair_cmp (slot, x) (s, y)) ≡ true
lower_slot s slot x y h = ap (λ o. is_gt (ordering_then o (ghosts.cmp x y))) above
  where
    above : nat_cmp slot s ≡ Greater
    above = grind (arith, nat_tests, h)

-- a source that is below another is not at or above it
pub below_not_above : (x y : RefSource) → source_cmp y x ≡ Less → is_gt (source_cmp x y) ≡ false → ⊥
below_not_above x y less le =
    let above : is_gt (source_cmp x y) ≡ true = ap is_gt (sources_total.antisymm x y ∙ ap ordering_reverse less) in cc

-- a source that is not at or above another is below it
pub at_or_above : (o : Ordering) → is_gt o ≡ false → is_le o ≡ true
at_or_above Less h = refl
at_or_above Equal h = refl
at_or_above Greater h = sym h
