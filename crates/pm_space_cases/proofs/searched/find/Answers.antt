use Rattle.std.proofs.Common.{arith}
use Rattle.pm_space.specs.Shown.{view}
use Rattle.pm_space_cases.proofs.Searching.{lacks}
use Rattle.pm_space_cases.proofs.searched.find.Goals as goal

pub returns : goal.returns
returns g c = λ same.
    let low = c.loop-place-test.false in
    let end = c.len-place-end.ensures.len in
    lacks (view c.args.space.now.parts) c.args.id c.args.space.now.kept (λ q lt. c.loop-place.invariant q (omega (arith, lt, low, end)))
