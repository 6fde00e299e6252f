-- Whether two sources are one.
use Rattle.std.proofs.Common.{◌≡◌, ℕ, Bool, true, ◌&&◌, ◌==◌, arith, ap, refl, sym, ◌∙◌}
use Rattle.std.proofs.lemmas.Bool.{eqb-true, and_parts, eq-eqb, and_from}
use Rattle.std.proofs.lemmas.Bool.Decides.{nat_tests}
use Rattle.std.specs.declared.cmp.Ordering.{Ordering}
use Rattle.std.specs.Ordering.{eq_by_cmp, nat_cmp, ordering_then, is_eq}
use Rattle.std.specs.Cmp.{tied_then}
use Rattle.pm_types.specs.Orders.{source_cmp, place_cmp}
use Rattle.pm_types.specs.declared.address.Addr.{Addr}
use Rattle.pm_types.specs.declared.source.RefSource.{RefSource}
use Rattle.pm_types.specs.declared.source.RefSource.TheVariants.{Root, Handle, Field}
use Rattle.pm_view.specs.Sources.{same_source, same_address}

pub same_address-true : (a b : Addr) → same_address a b ≡ true → a ≡ b
same_address-true a b e =
    let p = and_parts (a.car == b.car) (a.slot == b.slot) e in
    let c = eqb-true a.car b.car p.0 in
    let d = eqb-true a.slot b.slot p.1 in
    λ i. record { car = c i; slot = d i }

pub same-true : (x y : RefSource) → same_source x y ≡ true → x ≡ y
same-true (Root m) (Root n) e = ap Root (eqb-true m n e)
same-true (Root m) (Handle d s) e = cc
same-true (Root m) (Field b j) e = cc
same-true (Handle c r) (Root n) e = cc
same-true (Handle c r) (Handle d s) e =
    let p = and_parts (c == d) (r == s) e in
    let u = eqb-true c d p.0 in
    let v = eqb-true r s p.1 in
    λ i. Handle (u i) (v i)
same-true (Handle c r) (Field b j) e = cc
same-true (Field a i) (Root n) e = cc
same-true (Field a i) (Handle d s) e = cc
same-true (Field a i) (Field b j) e =
    let p = and_parts (same_address a b) (i == j) e in
    let u = same_address-true a b p.0 in
    let v = eqb-true i j p.1 in
    λ k. Field (u k) (v k)

pub same_itself : (x : RefSource) → same_source x x ≡ true
same_itself (Root m) = eq-eqb m m refl
same_itself (Handle c r) = and_from _ _ (eq-eqb c c refl) (eq-eqb r r refl)
same_itself (Field a i) = and_from _ _ (and_from _ _ (eq-eqb a.car a.car refl) (eq-eqb a.slot a.slot refl)) (eq-eqb i i refl)

pub tied_nat : (m n : ℕ) → is_eq (nat_cmp m n) ≡ (m == n)
tied_nat m n = grind (arith, nat_tests)

tied_pair : (o p : Ordering) (a b : Bool) → is_eq o ≡ a → is_eq p ≡ b → is_eq (ordering_then o p) ≡ (a && b)
tied_pair o p a b e f = sym (tied_then o p) ∙ (λ i. e i && f i)

-- sources tie exactly where they are one
pub source_ties : (x y : RefSource) → eq_by_cmp source_cmp x y ≡ same_source x y
source_ties (Root m) (Root n) = tied_nat m n
source_ties (Root m) (Handle d s) = refl
source_ties (Root m) (Field b j) = refl
source_ties (Handle c r) (Root n) = refl
source_ties (Handle c r) (Handle d s) = tied_pair _ _ _ _ (tied_nat c d) (tied_nat r s)
source_ties (Handle c r) (Field b j) = refl
source_ties (Field a i) (Root n) = refl
source_ties (Field a i) (Handle d s) = refl
source_ties (Field a i) (Field b j) = tied_pair _ _ _ _ (tied_pair _ _ _ _ (tied_nat a.car b.car) (tied_nat a.slot b.slot)) (tied_nat i j)

-- and so do places of registers
pub place_ties : (c r d s : ℕ) → eq_by_cmp place_cmp (c, r) (d, s) ≡ ((c == d) && (r == s))
place_ties c r d s = tied_pair _ _ _ _ (tied_nat c d) (tied_nat r s)
