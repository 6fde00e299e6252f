use Rattle.std.proofs.Common.{◌≡◌}
use Rattle.std.specs.FinMap.{empty}
use Rattle.pm_types.proofs.Orders.{names_total}
use Rattle.pm_types.proofs.Shown.{filled}
use Rattle.pm_model.proofs.roots.Roots.copy.Given as goal

abbrev pub invariant-loop-name : goal.invariant-loop-name
invariant-loop-name l = filled names_total l.name-iterator l.copied ≡ filled names_total l.initial.name-iterator empty
