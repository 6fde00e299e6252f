use Rattle.pm_dump.proofs.DumpLaws.{one_reading}
use Rattle.pm_dump.proofs.Written.{dump_spelled}
use Rattle.pm_dump.proofs.laws.a_dump_has_one_reading.Goals as goal

pub returns-clause-one : goal.returns-clause-one
returns-clause-one c = one_reading

pub returns-clause-text : goal.returns-clause-text
returns-clause-text c = dump_spelled
