use Rattle.std.proofs.Common.{◌+◌}
use Rattle.pm_script.specs.Parted.Lists.{count_left}
use Rattle.pm_lock.specs.Shown.{collects_in, flushes_in, left_in}
use Rattle.pm_lock.specs.Crew.Whole.{LastsBook}
use Rattle.pm_lock.proofs.crew.finish.finish_one.Given as goal

abbrev pub invariant-loop : goal.invariant-loop
invariant-loop g l = LastsBook l.fn.book l.book

abbrev pub decreases-loop : goal.decreases-loop
decreases-loop g l = count_left (left_in l.book) + collects_in l.book + flushes_in l.book
