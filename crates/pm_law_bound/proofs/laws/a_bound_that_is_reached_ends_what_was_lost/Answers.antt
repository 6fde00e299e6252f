use Rattle.pm_law_bound.proofs.Reached.{trains_younger, none_old, lost_gone, line_honest}
use Rattle.pm_law_bound.proofs.laws.a_bound_that_is_reached_ends_what_was_lost.Goals as goal

pub returns-clause-trains : goal.returns-clause-trains
returns-clause-trains c = trains_younger

pub returns-clause-old : goal.returns-clause-old
returns-clause-old c = none_old

pub returns-clause-gone : goal.returns-clause-gone
returns-clause-gone c = lost_gone

pub returns-clause-line : goal.returns-clause-line
returns-clause-line c = line_honest
