use Rattle.pm_model.proofs.Reached.{copied_kept, copied_reached, copied_again}
use Rattle.pm_model.proofs.laws.a_copy_keeps_what_the_roots_reach.Goals as goal

pub returns-clause-kept : goal.returns-clause-kept
returns-clause-kept c heap roots next id object is = copied_kept heap roots next id object is

pub returns-clause-reached : goal.returns-clause-reached
returns-clause-reached c heap roots next id object from is = copied_reached heap roots next id object from is

pub returns-clause-again : goal.returns-clause-again
returns-clause-again c heap roots next = copied_again heap roots next
