use Rattle.pm_model.proofs.Worklist.{Covers, to_do}
use Rattle.pm_model.proofs.graph.reach.Given as goal

abbrev pub invariant-loop-id : goal.invariant-loop-id
invariant-loop-id l = Covers l.objects l.initial.pending.items l.kept l.pending.items

abbrev pub decreases-loop-id : goal.decreases-loop-id
decreases-loop-id l = to_do l.objects l.kept l.pending.items
