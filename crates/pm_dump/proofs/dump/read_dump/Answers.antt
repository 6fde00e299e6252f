use Rattle.pm_dump.specs.Read.{dump_in}
use Rattle.pm_dump.proofs.Reader.{found_only, fault_only, told_not, told_only}
use Rattle.pm_dump.proofs.dump.read_dump.Goals as goal

pub returns-in-Ok-clause-only : goal.returns-in-Ok-clause-only
returns-in-Ok-clause-only c dump spelled sound = found_only c.args.bytes.now (dump_in c.in-Ok.parts) dump c.in-Ok.ensures.spelled spelled

pub returns-in-Ok-clause-told : goal.returns-in-Ok-clause-told
returns-in-Ok-clause-told c fault is = absurd (told_not fault c.args.bytes.now (dump_in c.in-Ok.parts) is c.in-Ok.ensures.spelled c.in-Ok.ensures.sound)

pub returns-in-Err-clause-only : goal.returns-in-Err-clause-only
returns-in-Err-clause-only c dump spelled sound = fault_only c.in-Err.fault c.args.bytes.now dump c.in-Err.ensures.bad spelled sound

pub returns-in-Err-clause-told : goal.returns-in-Err-clause-told
returns-in-Err-clause-told c fault is = told_only c.in-Err.fault fault c.args.bytes.now c.in-Err.ensures.bad is
