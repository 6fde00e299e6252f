use Rattle.pm_view.specs.Events.{doom, finish}
use Rattle.pm_law_collect.proofs.PhasesLemmas.Comes.{comes_where}
use Rattle.pm_law_collect.proofs.PhasesLemmas.Outside.{doomed_within, swept_within}
use Rattle.pm_law_collect.proofs.phases.laws.nothing_outside_names_what_is_given_up.Goals as goal

pub returns-clause-train : goal.returns-clause-train
returns-clause-train c = λ view train x a law next stores home. doomed_within view train x a law (comes_where view (doom train) next) stores home

pub returns-clause-car : goal.returns-clause-car
returns-clause-car c = λ view car x a law next stores here. swept_within view car x a law (comes_where view (finish car) next) stores here
