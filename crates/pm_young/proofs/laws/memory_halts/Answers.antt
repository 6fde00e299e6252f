use Rattle.std.proofs.Common.{Some}
use Rattle.pm_types.specs.declared.fault.EngineFault.TheVariants.{Memory, Disk}
use Rattle.pm_young.proofs.Halted.{after_halt, tells, while_running}
use Rattle.pm_young.proofs.laws.memory_halts.Goals as goal

pub returns-clause-memory : goal.returns-clause-memory
returns-clause-memory g c = λ old new refused called. tells g.F.Fn old new (Some (Memory refused)) called

pub returns-clause-disk : goal.returns-clause-disk
returns-clause-disk g c = λ old new before after called. tells g.F.Fn old new (Some (Disk before after)) called

pub returns-clause-after : goal.returns-clause-after
returns-clause-after g c = λ old new halt fault is called. after_halt g.F.Fn old new halt fault is called

pub returns-clause-running : goal.returns-clause-running
returns-clause-running g c = λ old new fault none still called. while_running g.F.Fn old new fault none still called
