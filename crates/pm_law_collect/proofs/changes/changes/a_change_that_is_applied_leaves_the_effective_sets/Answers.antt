use Rattle.pm_view.specs.Events.{apply}
use Rattle.pm_law_collect.proofs.PhasesLemmas.Comes.{comes_where}
use Rattle.pm_law_collect.proofs.ChangesLemmas.Changing.{applied_effective, changed_some, queue_then, set_then, other_queue, other_set}
use Rattle.pm_law_collect.proofs.changes.changes.a_change_that_is_applied_leaves_the_effective_sets.Goals as goal

pub returns-clause-effective : goal.returns-clause-effective
returns-clause-effective c = λ view car picked number e x law. applied_effective view car law e x

pub returns-clause-some : goal.returns-clause-some
returns-clause-some c = λ view car next. changed_some view car (comes_where view (apply car) next)

pub returns-clause-queue : goal.returns-clause-queue
returns-clause-queue c = λ view car picked number change changes is. queue_then view car change changes is

pub returns-clause-set : goal.returns-clause-set
returns-clause-set c = λ view car picked number change changes x is. set_then view car change changes is x

pub returns-clause-other_queues : goal.returns-clause-other_queues
returns-clause-other_queues c = λ view car picked number e apart. other_queue view car e apart

pub returns-clause-other_sets : goal.returns-clause-other_sets
returns-clause-other_sets c = λ view car picked number e apart. other_set view car e apart
