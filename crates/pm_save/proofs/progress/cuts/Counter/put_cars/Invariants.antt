use Rattle.std.proofs.Common.{List, ◌++◌, map, take}
use Rattle.pm_image.specs.declared.catalog.CatEntry.{CatEntry}
use Rattle.pm_save.specs.Progress.Counted.{IsCounted, drafted}
use Rattle.pm_save.proofs.progress.cuts.Counter.put_cars.Given as goal

-- the entries of the cars so far were met
abbrev pub invariant-loop-car : goal.invariant-loop-car
invariant-loop-car l = (met : List CatEntry) → IsCounted met l.initial.self → IsCounted (met ++ map drafted (take l._car-index l.cars)) l.self
