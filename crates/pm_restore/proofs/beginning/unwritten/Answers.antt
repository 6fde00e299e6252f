use Rattle.pm_restore.proofs.BeginLemmas.{open_pushed}
use Rattle.pm_restore.proofs.beginning.unwritten.Goals as goal

pub loop-index-preserved : goal.loop-index-preserved
loop-index-preserved c = open_pushed _ _ c.loop-index.index c.in_ok-push.ensures.items c.loop-index.invariant
