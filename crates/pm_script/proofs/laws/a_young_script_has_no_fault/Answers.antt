use Rattle.pm_script.proofs.YoungLaws.{one_young_fault, no_young_fault}
use Rattle.pm_script.proofs.laws.a_young_script_has_no_fault.Goals as goal

pub returns-clause-one : goal.returns-clause-one
returns-clause-one c = one_young_fault

pub returns-clause-none : goal.returns-clause-none
returns-clause-none c = no_young_fault
