use Rattle.std.specs.FinMap.{len}
use Rattle.pm_nursery.proofs.Held.{Freeing}
use Rattle.pm_nursery.proofs.registers.Registers.forget_holders.Given as goal

-- each register holds what it held, or was emptied of the identity
abbrev pub invariant-loop-client : goal.invariant-loop-client
invariant-loop-client l = Freeing l.initial.self l.id l.self

abbrev pub decreases-loop-client : goal.decreases-loop-client
decreases-loop-client l = len l.self
