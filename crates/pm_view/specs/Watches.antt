-- What a watch notes when it is set, and what is told of it at the end.
use Rattle.std.specs.Prelude.{ℕ, ◌+◌, ◌-◌, ◌*◌, min, List, [], ◌∷◌, length}
use Rattle.pm_types.specs.Counts.{capped}
use Rattle.pm_types.specs.declared.event.Watch.{Watch}
use Rattle.pm_types.specs.declared.event.WatchLine.{WatchLine}
use Rattle.pm_trains.specs.declared.trains.TheConstants.{BIRTHS}
use Rattle.pm_trains.specs.Trains.{youngest}
use Rattle.pm_view.specs.View.{SpaceView}
use Rattle.pm_view.specs.Counts.{standing, old}

-- how many objects stand, and how many more can be born in the open train
abbrev pub objects_in : SpaceView → ℕ
objects_in view = capped (standing view + (BIRTHS - view.trains.births))

-- the greatest number of 128 bits
abbrev pub greatest_bound : ℕ
greatest_bound = 340282366920938463463374607431768211455

-- for so many trains and objects, how many collections may pass
abbrev pub bound_of : ℕ → ℕ → ℕ
bound_of trains objects = min (trains * ((objects + 2) * (objects + 2))) greatest_bound

-- the watch that is set in a space, where the journal has so many entries
abbrev pub watch_in : SpaceView → ℕ → Watch
watch_in view position = record {
  position = position;
  youngest = youngest view.trains.trains;
  objects = objects_in view;
  bound = bound_of (length view.trains.trains) (objects_in view);
  completed = view.completed;
}

-- what is told of a watch with this number
abbrev pub line_of : SpaceView → ℕ → Watch → WatchLine
line_of view number watch = record {
  number = number;
  bound = watch.bound;
  done = view.completed - watch.completed;
  old = capped (old view watch.youngest);
}

-- what is told of watches, the first of which has this number
abbrev pub lines_from : SpaceView → ℕ → List Watch → List WatchLine
lines_from view number [] = []
lines_from view number (watch ∷ watches) = line_of view number watch ∷ lines_from view (number + 1) watches
