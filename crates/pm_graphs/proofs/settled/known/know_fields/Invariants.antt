use Rattle.std.proofs.Common.{take}
use Rattle.std.specs.Prelude.{IfSome}
use Rattle.std.specs.List.{AllByRecursion}
use Rattle.pm_layout.specs.Spelling.{IsAddress}
use Rattle.pm_graphs.proofs.settled.known.know_fields.Given as goal

-- the fields so far
abbrev pub invariant-loop-reference : goal.invariant-loop-reference
invariant-loop-reference l = AllByRecursion (λ reference. IfSome reference IsAddress) (take l.reference-index l.fields)
