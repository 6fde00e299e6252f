-- What contracts see of a saver, and of the frozen cars of a space.
use Rattle.std.specs.Prelude.{Option, option_map}
use Rattle.pm_types.specs.Mapped.{mapped}
use Rattle.pm_view.specs.View.{Cars}
use Rattle.pm_space.specs.declared.parts.Parts.{Parts}
use Rattle.pm_space.specs.Shown.{car_of}
use Rattle.pm_saving.specs.Progress.{Saving, cars_or_none}
use Rattle.pm_save.specs.Writer.Shown.{writing}
use Rattle.pm_save.specs.declared.saver.Saver.{Saver}

-- the settled cars and the copy in progress
abbrev pub saving : Saver → Saving
saving it = writing it.writer

-- the cars of a space as they were frozen, if they are frozen
abbrev pub frozen_of : {F : Type 0} → Parts F → Option Cars
frozen_of parts = option_map (mapped car_of) parts.cars.frozen

-- the same, none where they are not frozen
abbrev pub frozen_cars : {F : Type 0} → Parts F → Cars
frozen_cars parts = cars_or_none (frozen_of parts)
