-- Some number of a root is free.
use Rattle.std.proofs.Common.{◌≡◌, ℕ, ◌+◌, ◌<◌, Bool, true, false, cond, ap, sym, ◌∙◌, List, [], ◌∷◌, Option, Some, None, arith}
use Rattle.std.specs.Ordering.{eq_by_cmp}
use Rattle.std.specs.FinMap.{entries, get-entries}
use Rattle.std.specs.FinMap.Entries.{find}
use Rattle.pm_types.specs.Orders.{name_cmp}
use Rattle.pm_types.specs.declared.address.Addr.{Addr}
use Rattle.pm_roots.specs.Bindings.{Bindings, IsFree}

abbrev Rows : Type 0
Rows = List (List ℕ × (ℕ × Addr))

-- a number over all that are listed
abbrev above : Rows → ℕ
above [] = 0
above (e ∷ es) = e.1.0 + 1 + above es

below_first : (b : Bool) (e : ℕ × Addr) (o : Option (ℕ × Addr)) (n rest : ℕ) (a : Addr) → cond b (Some e) o ≡ Some (n, a) → (o ≡ Some (n, a) → n < rest) → n < e.0 + 1 + rest
below_first true e o n rest a is later = let same : e.0 ≡ n = ap (λ (o : Option (ℕ × Addr)). elim o as (λ _. ℕ) [ None ↦ n | Some bound ↦ bound.0 ]) is in omega (arith, same)
below_first false e o n rest a is later = let below = later is in omega (arith, below)

below : (es : Rows) (q : List ℕ) (n : ℕ) (a : Addr) → find name_cmp q es ≡ Some (n, a) → n < above es
below [] q n a is = cc
below (e ∷ es) q n a is = below_first (eq_by_cmp name_cmp q e.0) e.1 (find name_cmp q es) n (above es) a is (below es q n a)

-- the number that is taken
abbrev pub spare_root : Bindings → ℕ
spare_root roots = above (entries roots)

-- no name has it
pub is_spare : (roots : Bindings) → IsFree roots (spare_root roots)
is_spare roots = λ name a is.
    let less : above (entries roots) < above (entries roots) = below (entries roots) name (above (entries roots)) a (sym (get-entries roots name) ∙ is) in omega (arith, less)
