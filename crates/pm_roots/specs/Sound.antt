-- What holds of the named roots at every moment.
use Rattle.std.specs.Prelude.{◌≤◌}
use Rattle.std.specs.FinMap.{len}
use Rattle.pm_roots.specs.Bindings.{Bindings, AllNumbersDiffer}
use Rattle.pm_types.specs.declared.limits.TheConstants.{ROOTS}

-- at most 4,096 names are bound, and no two to one number
pub record IsSound (bindings : Bindings) : Type 0 where
  pub few : len bindings ≤ ROOTS
  pub differ : AllNumbersDiffer bindings
