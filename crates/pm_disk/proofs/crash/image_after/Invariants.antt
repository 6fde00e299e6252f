use Rattle.std.proofs.Common.{◌≤◌, take}
use Rattle.pm_disk.specs.Replay.{held_after}
use Rattle.pm_disk.specs.Crash.{Follows}
use Rattle.pm_disk.proofs.crash.image_after.Given as goal

abbrev pub invariant-loop-place : goal.invariant-loop-place
invariant-loop-place l = record {
  follows : Follows l.pick (held_after l.start l.fails (take l.place l.calls)) l.crashed;
  few : l.crashed.writes ≤ l.place;
}
