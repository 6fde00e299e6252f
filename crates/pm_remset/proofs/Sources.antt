-- The derived order of sources, and of a slot beside a source.
use Rattle.std.proofs.Common.{◌≡◌, ℕ, ◌==◌, ◌&&◌, true, sym, ap, ◌∙◌, arith}
use Rattle.std.specs.Cmp.{tied_then, Equal-is}
use Rattle.std.specs.Ordering.{is_eq, nat_cmp}
use Rattle.std.specs.BTreeMap.{is_at}
use Rattle.std.proofs.lemmas.Bool.Decides.{nat_tests}
use Rattle.pm_types.specs.declared.source.RefSource.{RefSource}
use Rattle.pm_types.specs.contracts.source.RefSourceOrd.TheImpl.{ghosts}
use Rattle.pm_types.specs.Orders.{source_cmp}
use Rattle.pm_types.proofs.Orders.{source_cmp_is, sources_antisymmetric}
use Rattle.pm_remset.specs.Indexed.{pair_cmp}

-- the derived order is the one that is said
pub derived_is : ghosts.cmp ≡ source_cmp
derived_is i x y = source_cmp_is x y i

-- sources that tie are one
pub tied_source : (x y : RefSource) → is_eq (ghosts.cmp x y) ≡ true → x ≡ y
tied_source x y e = sources_antisymmetric x y (sym (source_cmp_is x y) ∙ (Equal-is (ghosts.cmp x y)).0 e)

tied_number : (m n : ℕ) → is_eq (nat_cmp m n) ≡ (m == n)
tied_number m n = grind (arith, nat_tests)

-- pairs tie where both parts do
pub at_pair : (slot s : ℕ) (source q : RefSource) → is_at (pair_cmp (slot, source)) (s, q) ≡ ((slot == s) && is_eq (ghosts.cmp source q))
at_pair slot s source q = sym (tied_then (nat_cmp slot s) (ghosts.cmp source q)) ∙ ap (λ b. b && is_eq (ghosts.cmp source q)) (tied_number slot s)
