-- How a remembered set is kept: in a list, or in trees. No public clause cites this module.
use Rattle.pm_remset.specs.declared.remset.Kept.{Kept}
use Rattle.pm_remset.specs.declared.remset.Kept.TheVariants.{Few, Many}
use Rattle.pm_remset.specs.Remembered.{Remembered}

-- the set that is kept so
abbrev pub set_of : Kept → Remembered
set_of (Few list) = list
set_of (Many trees) = trees
