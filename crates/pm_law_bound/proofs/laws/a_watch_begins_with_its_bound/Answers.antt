use Rattle.pm_law_bound.proofs.Begins.{begins_bounded, bound_least}
use Rattle.pm_law_bound.proofs.laws.a_watch_begins_with_its_bound.Goals as goal

pub returns-clause-begins : goal.returns-clause-begins
returns-clause-begins c = begins_bounded

pub returns-clause-least : goal.returns-clause-least
returns-clause-least c = bound_least
