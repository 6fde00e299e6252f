use Rattle.pm_view.specs.Events.{start, move_out}
use Rattle.pm_law_collect.proofs.PhasesLemmas.Comes.{comes_where}
use Rattle.pm_law_collect.proofs.Picks.{noted_way, noted_to, out_way, out_to}
use Rattle.pm_law_collect.proofs.laws.there_is_a_train_to_pick.Goals as goal

pub returns-clause-noted : goal.returns-clause-noted
returns-clause-noted c = λ view car a law next. noted_way view car a law (comes_where view (start car a) next)

pub returns-clause-moved : goal.returns-clause-moved
returns-clause-moved c = λ view a law next. out_way view a law (comes_where view (move_out a) next)

pub returns-clause-noted_to : goal.returns-clause-noted_to
returns-clause-noted_to c = λ view car train a law next among. noted_to view car a law (comes_where view (start car a) next) train among

pub returns-clause-moved_to : goal.returns-clause-moved_to
returns-clause-moved_to c = λ view train a law next among. out_to view a law (comes_where view (move_out a) next) train among
