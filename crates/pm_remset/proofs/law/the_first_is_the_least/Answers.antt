use Rattle.pm_remset.specs.Remembered.{first_that}
use Rattle.pm_remset.proofs.First.{first_found, found_once}
use Rattle.pm_remset.proofs.law.the_first_is_the_least.Goals as goal

pub returns-clause-finds : goal.returns-clause-finds
returns-clause-finds c = λ test set. first_found test set

pub returns-clause-only : goal.returns-clause-only
returns-clause-only c = λ test set found finds. found_once test set found (first_that test set) finds (first_found test set)
