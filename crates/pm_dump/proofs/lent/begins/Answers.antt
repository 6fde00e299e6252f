use Rattle.std.proofs.Common.{arith, ◌<◌}
use Rattle.pm_dump.proofs.Begun.{first_begins, next_begins}
use Rattle.pm_dump.proofs.lent.begins.Goals as goal

pub returns-then-at-eq0 : goal.returns-then-at-eq0
returns-then-at-eq0 c = first_begins c.args.places.now c.args.at c.if-at-eq0.true

pub returns : goal.returns
returns c = let some : 0 < c.args.at = omega (arith, c.if-at-eq0.false) in next_begins c.args.places.now c.args.at c.place_at-before.result some c.place_at-before.ensures
