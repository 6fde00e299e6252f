use Rattle.std.proofs.Common.{◌≡◌, take}
use Rattle.pm_save.specs.Progress.Kept.{open_count}
use Rattle.pm_save.proofs.writer.writer.count_open.Given as goal

abbrev pub invariant-loop-one : goal.invariant-loop-one
invariant-loop-one l = l.count ≡ open_count (take l.one-index l.cars)
