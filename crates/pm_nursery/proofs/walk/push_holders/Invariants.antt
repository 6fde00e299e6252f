use Rattle.pm_nursery.proofs.Beside.{Pushing}
use Rattle.pm_nursery.proofs.walk.push_holders.Given as goal

-- the holders so far are pushed
abbrev pub invariant-loop-held : goal.invariant-loop-held
invariant-loop-held l = Pushing l.id l.fn.pending.items l.pending.items l.initial.held-iterator l.held-iterator
