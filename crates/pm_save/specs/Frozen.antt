-- The frozen cars of a table.
use Rattle.std.specs.Prelude.{option_map}
use Rattle.pm_types.specs.Mapped.{mapped}
use Rattle.pm_snap.specs.Snapped.{Snapped}
use Rattle.pm_view.specs.View.{Cars}
use Rattle.pm_space.specs.declared.held.Held.{Held}
use Rattle.pm_space.specs.Shown.{car_of}
use Rattle.pm_saving.specs.Progress.{cars_or_none}

-- the cars that are frozen, none where they are not
abbrev pub frozen_in : Snapped Held → Cars
frozen_in table = cars_or_none (option_map (mapped car_of) table.frozen)
