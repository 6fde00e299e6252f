use Rattle.std.proofs.Common.{take}
use Rattle.pm_save.specs.Writer.Planned.{IsIndex}
use Rattle.pm_ship.proofs.index.index_of.Given as goal

-- the places of the cars so far
abbrev pub invariant-loop-place : goal.invariant-loop-place
invariant-loop-place l = IsIndex (take l.place l.cars) l.index
