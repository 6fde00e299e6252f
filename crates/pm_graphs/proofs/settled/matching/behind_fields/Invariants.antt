use Rattle.std.proofs.Common.{take, Some}
use Rattle.std.specs.Prelude.{IfSome}
use Rattle.std.specs.List.{AllByRecursion, flat_map}
use Rattle.pm_layout.specs.Spelling.{HasCar, IsAddress, field}
use Rattle.pm_graphs.specs.Settled.Behind.{IsBehindOf}
use Rattle.pm_graphs.proofs.settled.matching.behind_fields.Given as goal

-- the fields so far
abbrev pub invariant-loop-reference : goal.invariant-loop-reference
invariant-loop-reference l = record {
  behind : IsBehindOf (AllByRecursion HasCar (take l.reference-index l.fields)) l.bytes (flat_map field (take l.reference-index l.fields)) (Some l.rest);
  range : AllByRecursion (λ reference. IfSome reference IsAddress) (take l.reference-index l.fields);
}
