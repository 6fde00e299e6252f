use Rattle.std.proofs.Common.{◌≡◌, ◌++◌, take}
use Rattle.std.specs.List.{flat_map}
use Rattle.pm_space.specs.Shown.{view}
use Rattle.pm_inspect.specs.Report.{train_text}
use Rattle.pm_inspect.proofs.reporting.append_trains.Given as goal

-- the lines of the trains so far
abbrev pub invariant-loop-place : goal.invariant-loop-place
invariant-loop-place g l = l.out.items ≡ l.initial.out.items ++ flat_map (train_text (view l.parts)) (take l.place l.parts.trains.trains)
