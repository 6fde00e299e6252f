use Rattle.std.proofs.Common.{drop}
use Rattle.pm_space.specs.Shown.{view, KeepsRest}
use Rattle.pm_young.proofs.Holding.{HoldingOne}
use Rattle.pm_young.proofs.escape.hold_one.Given as goal

-- so many of the registers hold it
abbrev pub invariant-loop-client : goal.invariant-loop-client
invariant-loop-client g l = record {
  so_far : HoldingOne (view l.fn.space.parts) (view l.space.parts) l.id l.at l.holders (drop l.client-index l.holders);
  rest : KeepsRest l.fn.space.parts l.space.parts;
}
