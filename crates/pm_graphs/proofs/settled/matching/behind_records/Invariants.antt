use Rattle.std.proofs.Common.{take, Some}
use Rattle.std.specs.List.{AllByRecursion, flat_map}
use Rattle.pm_image.specs.CarPages.{record_spelling}
use Rattle.pm_graphs.specs.Settled.Behind.{IsBehindOf}
use Rattle.pm_graphs.specs.Settled.Packed.{IsRecord}
use Rattle.pm_graphs.proofs.settled.matching.behind_records.Given as goal

-- the slots so far
abbrev pub invariant-loop-number : goal.invariant-loop-number
invariant-loop-number l = IsBehindOf (AllByRecursion IsRecord (take l.number-index l.slots)) l.bytes (flat_map record_spelling (take l.number-index l.slots)) (Some l.rest)
