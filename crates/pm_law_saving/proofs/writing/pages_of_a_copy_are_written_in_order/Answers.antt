use Rattle.pm_law_saving.proofs.Next.{all_left, next_goes, next_left, next_none}
use Rattle.pm_law_saving.proofs.Planned.{next_has_page}
use Rattle.pm_law_saving.proofs.writing.pages_of_a_copy_are_written_in_order.Goals as goal

pub returns-clause-none : goal.returns-clause-none
returns-clause-none c = next_none

pub returns-clause-left : goal.returns-clause-left
returns-clause-left c = next_left

pub returns-clause-may : goal.returns-clause-may
returns-clause-may c = next_has_page

pub returns-clause-goes_on : goal.returns-clause-goes_on
returns-clause-goes_on c = next_goes

pub returns-clause-all : goal.returns-clause-all
returns-clause-all c = all_left
