use Rattle.std.proofs.Common.{take}
use Rattle.pm_nursery.specs.Holding.{AreFree}
use Rattle.pm_nursery.proofs.registers.Registers.forget_all.Given as goal

-- the registers that held one of the identities so far are emptied
abbrev pub invariant-loop-id : goal.invariant-loop-id
invariant-loop-id l = AreFree l.initial.self (take l.id-index l.ids) l.self
