use Rattle.std.proofs.Common.{◌++◌, ◌∷◌, [], ◌∙◌, arith}
use Rattle.pm_space.specs.Shown.{view}
use Rattle.pm_reclaim.proofs.watch.tell_watches.Goals as goal
use Rattle.pm_reclaim.proofs.WatchLines.{lines_next}

pub loop-watch-preserved : goal.loop-watch-preserved
loop-watch-preserved g c =
    let was = c.loop-watch.invariant in
    let numbered = was.0 in
    let before = was.1 in
    let long = c.push.ensures.len in (
      omega (arith, numbered),
      omega (arith, before, long),
      c.push.ensures.items ∙ (λ i. was.2 i ++ c.tell_watch.ensures i ∷ []) ∙ lines_next (view c.args.space.now.parts) c.args.watches.now c.loop-watch.watch-index c.loop-watch.number _ c.loop-watch-test.true numbered,
    )
