use Rattle.std.proofs.Common.{take}
use Rattle.std.specs.List.{AllByRecursion}
use Rattle.pm_graphs.specs.Settled.Packed.{IsRecord}
use Rattle.pm_graphs.proofs.settled.known.know_records.Given as goal

-- the slots so far
abbrev pub invariant-loop-number : goal.invariant-loop-number
invariant-loop-number l = AllByRecursion IsRecord (take l.number-index l.slots)
