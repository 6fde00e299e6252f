use Rattle.std.proofs.Common.{◌≡◌, ℕ, List, map, take}
use Rattle.std.specs.List.{AllByRecursion}
use Rattle.std.specs.FinMap.{entries}
use Rattle.pm_types.specs.Names.{IsName}
use Rattle.pm_types.specs.declared.address.Addr.{Addr}
use Rattle.pm_copies.specs.Opened.{unnumbered}
use Rattle.pm_save.proofs.roots.copy_roots.Given as goal

-- the roots so far
abbrev pub invariant-loop-place : goal.invariant-loop-place
invariant-loop-place l =
    record {
      roots : l.copied.items ≡ map unnumbered (take l.place (entries l.roots));
      names : AllByRecursion (λ (root : List ℕ × Addr). IsName root.0) l.copied.items;
    }
