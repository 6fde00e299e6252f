use Rattle.std.proofs.Common.{◌≡◌, ◌+◌, ◌≤◌, length}
use Rattle.std.specs.Vec.Iter.{into_iter_items}
use Rattle.std.specs.FinMap.{empty, len}
use Rattle.pm_types.specs.declared.limits.TheConstants.{ROOTS}
use Rattle.pm_reopen.specs.Rebuild.Naming.{addresses, with_named}
use Rattle.pm_reopen.proofs.rebuild.naming.bind_roots.Given as goal

abbrev pub invariant-loop-name : goal.invariant-loop-name
invariant-loop-name l = record {
  so_far : with_named (addresses l.roots) (into_iter_items l.name-iterator) ≡ with_named empty l.fn.list;
  few : len l.roots + length (into_iter_items l.name-iterator) ≤ ROOTS;
}
