use Rattle.std.proofs.Common.{◌≡◌, ◌++◌, map, take, drop}
use Rattle.pm_shadow.specs.Uses.{abandoned}
use Rattle.pm_shadow.proofs.table.abandon_all.Given as goal

abbrev pub invariant-loop-page_use : goal.invariant-loop-page_use
invariant-loop-page_use l = l.uses ≡ map abandoned (take l.page_use-index l.initial.uses) ++ drop l.page_use-index l.initial.uses
