use Rattle.std.proofs.Common.{sym}
use Rattle.pm_cars.proofs.Places.{first_later, first_here, first_end, blank}
use Rattle.pm_cars.proofs.entry.first_live.Goals as goal

pub loop-place-preserved : goal.loop-place-preserved
loop-place-preserved c =
    first_later c.args.entries.now c.loop-place.place c.index-entries-place.result c.loop-place.invariant c.loop-place-test.true (sym c.if-not-is_live.ensures)

pub returns-else-not-is_live : goal.returns-else-not-is_live
returns-else-not-is_live c = first_here c.args.entries.now c.loop-place.place c.index-entries-place.result c.loop-place.invariant (sym c.if-not-is_live.ensures)

pub returns-after-loop-place : goal.returns-after-loop-place
returns-after-loop-place c = first_end c.args.entries.now c.loop-place.place blank c.loop-place.invariant c.loop-place-test.false
