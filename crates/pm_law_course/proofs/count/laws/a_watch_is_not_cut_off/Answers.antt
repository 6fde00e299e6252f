use Rattle.pm_law_course.proofs.CountLemmas.Watched.{objects_noted, bound_noted}
use Rattle.pm_law_course.proofs.count.laws.a_watch_is_not_cut_off.Goals as goal

pub returns-clause-objects : goal.returns-clause-objects
returns-clause-objects c = λ view position law. objects_noted view law position

pub returns-clause-bound : goal.returns-clause-bound
returns-clause-bound c = λ view position law. bound_noted view law position
