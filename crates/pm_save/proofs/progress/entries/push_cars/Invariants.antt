use Rattle.std.proofs.Common.{◌≡◌, ◌++◌, map, take}
use Rattle.pm_save.specs.Progress.Seen.{car_seen}
use Rattle.pm_save.specs.Progress.Entries.{entry_of}
use Rattle.pm_save.proofs.progress.entries.push_cars.Given as goal

abbrev pub invariant-loop-one : goal.invariant-loop-one
invariant-loop-one l = l.entries.items ≡ l.initial.entries.items ++ map entry_of (map (car_seen l.settled) (take l.one-index l.cars))
