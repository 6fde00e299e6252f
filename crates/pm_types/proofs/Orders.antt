-- The orders are total, and tie only what is equal.
use Rattle.std.proofs.Common.{◌≡◌, ℕ, refl, ap, subst}
use Rattle.std.specs.declared.cmp.Ordering.{Ordering}
use Rattle.std.specs.declared.cmp.Ordering.TheVariants.{Less, Equal, Greater}
use Rattle.std.specs.Ordering.{nat_cmp, ordering_then}
use Rattle.std.specs.Cmp.{IsTotalOrder, nat_cmp_total, then_total, on_total}
use Rattle.std.specs.Cmp.Lexicographic.{nat_list_cmp_total}
use Rattle.std.specs.FinMap.{IsAntisymmetric, nat_cmp-IsAntisymmetric, slice_cmp-IsAntisymmetric}
use Rattle.std.proofs.lemmas.Map.Lookups.{exact_pairs}
use Rattle.pm_types.specs.declared.source.RefSource.{RefSource}
use Rattle.pm_types.specs.declared.source.RefSource.TheVariants.{Root, Handle, Field}
use Rattle.pm_types.specs.contracts.source.RefSourceOrd.TheImpl.{ghosts}
use Rattle.pm_types.specs.contracts.source.RefSourceOrd.TheImpl.Laws as laws
use Rattle.pm_types.specs.Orders.{name_cmp, place_cmp, address_cmp, source_cmp}

pub names_total : IsTotalOrder name_cmp
names_total = nat_list_cmp_total

pub names_antisymmetric : IsAntisymmetric name_cmp
names_antisymmetric = slice_cmp-IsAntisymmetric nat_cmp-IsAntisymmetric

pub places_total : IsTotalOrder place_cmp
places_total = then_total (on_total (λ (p : ℕ × ℕ). p.0) nat_cmp_total) (on_total (λ (p : ℕ × ℕ). p.1) nat_cmp_total)

pub places_antisymmetric : IsAntisymmetric place_cmp
places_antisymmetric = exact_pairs nat_cmp nat_cmp nat_cmp-IsAntisymmetric nat_cmp-IsAntisymmetric

-- two comparisons one after the other tie only where both do
both_tie : (one two : Ordering) → ordering_then one two ≡ Equal → (one ≡ Equal) × (two ≡ Equal)
both_tie Less two is = cc
both_tie Equal two is = (refl, is)
both_tie Greater two is = cc

pub addresses_antisymmetric : IsAntisymmetric address_cmp
addresses_antisymmetric a b is =
    let both = both_tie (nat_cmp a.car b.car) (nat_cmp a.slot b.slot) is in
    let car : a.car ≡ b.car = nat_cmp-IsAntisymmetric a.car b.car both.0 in
    let slot : a.slot ≡ b.slot = nat_cmp-IsAntisymmetric a.slot b.slot both.1 in
    λ i. record { car = car i; slot = slot i }

-- the derived order of sources is the one that is said
pub source_cmp_is : (x y : RefSource) → ghosts.cmp x y ≡ source_cmp x y
source_cmp_is (Root m) (Root n) = refl
source_cmp_is (Root m) (Handle d s) = refl
source_cmp_is (Root m) (Field b j) = refl
source_cmp_is (Handle c r) (Root n) = refl
source_cmp_is (Handle c r) (Handle d s) = refl
source_cmp_is (Handle c r) (Field b j) = refl
source_cmp_is (Field a i) (Root n) = refl
source_cmp_is (Field a i) (Handle d s) = refl
source_cmp_is (Field a i) (Field b j) = refl

pub sources_total : IsTotalOrder source_cmp
sources_total = subst IsTotalOrder (λ i x y. source_cmp_is x y i) laws.total-law

pub sources_antisymmetric : IsAntisymmetric source_cmp
sources_antisymmetric (Root m) (Root n) is = ap Root (nat_cmp-IsAntisymmetric m n is)
sources_antisymmetric (Root m) (Handle d s) is = cc
sources_antisymmetric (Root m) (Field b j) is = cc
sources_antisymmetric (Handle c r) (Root n) is = cc
sources_antisymmetric (Handle c r) (Handle d s) is =
    let both = both_tie (nat_cmp c d) (nat_cmp r s) is in
    let client : c ≡ d = nat_cmp-IsAntisymmetric c d both.0 in
    let register : r ≡ s = nat_cmp-IsAntisymmetric r s both.1 in
    λ i. Handle (client i) (register i)
sources_antisymmetric (Handle c r) (Field b j) is = cc
sources_antisymmetric (Field a i) (Root n) is = cc
sources_antisymmetric (Field a i) (Handle d s) is = cc
sources_antisymmetric (Field a i) (Field b j) is =
    let both = both_tie (address_cmp a b) (nat_cmp i j) is in
    let at : a ≡ b = addresses_antisymmetric a b both.0 in
    let index : i ≡ j = nat_cmp-IsAntisymmetric i j both.1 in
    λ k. Field (at k) (index k)
