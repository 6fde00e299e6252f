use Rattle.pm_dump.proofs.DumpLaws.{either, not_both, one_fault}
use Rattle.pm_dump.proofs.laws.a_dump_is_spelled_or_has_one_fault.Goals as goal

pub returns-clause-either : goal.returns-clause-either
returns-clause-either c = either

pub returns-clause-not_both : goal.returns-clause-not_both
returns-clause-not_both c = not_both

pub returns-clause-one : goal.returns-clause-one
returns-clause-one c = one_fault
