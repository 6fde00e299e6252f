use Rattle.std.proofs.Common.{List, ◌++◌, map, take}
use Rattle.pm_image.specs.declared.catalog.CatEntry.{CatEntry}
use Rattle.pm_copies.specs.Plans.{root_entry}
use Rattle.pm_save.specs.Progress.Counted.{IsCounted}
use Rattle.pm_save.proofs.progress.cuts.Counter.put_roots.Given as goal

-- the entries of the roots so far were met
abbrev pub invariant-loop-name : goal.invariant-loop-name
invariant-loop-name l = (met : List CatEntry) → IsCounted met l.initial.self → IsCounted (met ++ map root_entry (take l.name-index l.roots)) l.self
