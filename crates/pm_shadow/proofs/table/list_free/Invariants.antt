use Rattle.std.proofs.Common.{◌≡◌, ◌+◌, ◌≤◌, ◌++◌, drop, length, vec_capacity}
use Rattle.pm_shadow.specs.Uses.{free_from}
use Rattle.pm_shadow.proofs.table.list_free.Given as goal

-- the free pages so far, and those behind, are all of them; there is room
abbrev pub invariant-loop-index : goal.invariant-loop-index
invariant-loop-index l = record {
  pages : l.free.items ++ free_from (2 + l.index) (drop l.index l.uses) ≡ free_from 2 l.uses;
  few : length l.free.items ≤ l.index;
  capacity : vec_capacity l.free ≡ vec_capacity l.fn.free;
}
