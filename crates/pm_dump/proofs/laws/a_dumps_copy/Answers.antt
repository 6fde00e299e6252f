use Rattle.pm_dump.proofs.Copies.{copy_again, dump_again, reached_again}
use Rattle.pm_dump.proofs.laws.a_dumps_copy.Goals as goal

pub returns-clause-copy : goal.returns-clause-copy
returns-clause-copy c = copy_again

pub returns-clause-dump : goal.returns-clause-dump
returns-clause-dump c = dump_again

pub returns-clause-reached : goal.returns-clause-reached
returns-clause-reached c = reached_again
