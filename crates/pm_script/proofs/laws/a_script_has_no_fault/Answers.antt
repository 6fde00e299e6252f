use Rattle.pm_script.proofs.BadLaws.{one_fault, no_fault}
use Rattle.pm_script.proofs.laws.a_script_has_no_fault.Goals as goal

pub returns-clause-one : goal.returns-clause-one
returns-clause-one c = one_fault

pub returns-clause-none : goal.returns-clause-none
returns-clause-none c = no_fault
