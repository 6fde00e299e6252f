use Rattle.std.proofs.Common.{◌+◌, ◌-◌, length}
use Rattle.pm_image.specs.Marked.{MarksNothing}
use Rattle.pm_image.proofs.number_set.reach.Given as goal

abbrev pub invariant-loop-near : goal.invariant-loop-near
invariant-loop-near l = MarksNothing l.fn.near.items l.near.items

abbrev pub decreases-loop-near : goal.decreases-loop-near
decreases-loop-near l = (l.number + 1) - length l.near.items
