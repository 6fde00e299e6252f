use Rattle.pm_view.specs.Events.{move_on}
use Rattle.pm_law_collect.proofs.PhasesLemmas.Comes.{comes_where}
use Rattle.pm_law_collect.proofs.PhasesLemmas.Outside.{moving_within}
use Rattle.pm_law_collect.proofs.phases.laws.an_object_moves_on_where_nothing_outside_names_it.Goals as goal

pub returns : goal.returns
returns c = λ view train x a law next stores. moving_within view train x a law (comes_where view (move_on a train) next) stores
