use Rattle.std.proofs.Common.{◌≡◌}
use Rattle.pm_restore.specs.Restored.{open_cars}
use Rattle.pm_restore.proofs.beginning.unwritten.Given as goal

abbrev pub invariant-loop-index : goal.invariant-loop-index
invariant-loop-index l = l.cars.items ≡ open_cars 1 l.index
