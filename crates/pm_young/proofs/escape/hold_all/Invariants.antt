use Rattle.std.proofs.Common.{take}
use Rattle.pm_space.specs.Shown.{view, KeepsRest}
use Rattle.pm_young.specs.Rows.{AreNowHeld}
use Rattle.pm_young.proofs.Holding.{HoldingAll}
use Rattle.pm_young.proofs.escape.hold_all.Given as goal

-- the registers that name one of so many hold it
abbrev pub invariant-loop-index : goal.invariant-loop-index
invariant-loop-index g l = record {
  so_far : HoldingAll (view l.fn.space.parts) (view l.space.parts) l.nursery.registers l.ids l.index;
  rows : AreNowHeld (view l.fn.space.parts) l.nursery.registers (take l.index l.ids) (take l.index l.places) (view l.space.parts);
  rest : KeepsRest l.fn.space.parts l.space.parts;
}
