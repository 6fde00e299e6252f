use Rattle.pm_nursery.proofs.Walks.{Walking, to_do}
use Rattle.pm_nursery.proofs.walk.walk.Given as goal

-- what is met or pending was arrived at, and each step from what is met leads there
abbrev pub invariant-loop-id : goal.invariant-loop-id
invariant-loop-id l = Walking l.objects l.holders l.initial.pending.items l.met l.pending.items

abbrev pub decreases-loop-id : goal.decreases-loop-id
decreases-loop-id l = to_do l.objects l.holders l.initial.pending.items l.met l.pending.items
