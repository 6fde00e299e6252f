-- The train that is noted for each car, once one was noted or forgotten.
use Rattle.std.proofs.Common.{◌≡◌, ℕ, ◌==◌, cond, ap, ◌∙◌, arith, Some, None}
use Rattle.std.specs.Bool.{if◌then◌else◌}
use Rattle.std.specs.Ordering.{nat_cmp}
use Rattle.std.specs.Cmp.{nat_cmp_total}
use Rattle.std.specs.FinMap.{FinMap, get, insert, remove, empty, get-empty, get-insert, get-remove}
use Rattle.std.proofs.lemmas.Bool.Decides.{nat_tests}
use Rattle.std.proofs.lemmas.Grind.{common_steps}

pub noted : (homes : FinMap nat_cmp ℕ) (car number q : ℕ) → get (insert homes car number) q ≡ (if q == car then Some number else get homes q)
noted homes car number q = let is = get-insert nat_cmp_total homes car number q in grind (arith, common_steps, nat_tests, is)

pub forgotten : (homes : FinMap nat_cmp ℕ) (car q : ℕ) → get (remove homes car) q ≡ cond (q == car) None (get homes q)
forgotten homes car q = let is = get-remove nat_cmp_total homes car q in grind (arith, common_steps, nat_tests, is)

pub none_noted : (homes : FinMap nat_cmp ℕ) (q : ℕ) → homes ≡ empty → get homes q ≡ None
none_noted homes q is = ap (λ (m : FinMap nat_cmp ℕ). get m q) is ∙ get-empty nat_cmp q
