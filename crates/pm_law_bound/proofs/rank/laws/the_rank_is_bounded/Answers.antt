use Rattle.std.proofs.Common.{ap}
use Rattle.pm_view.specs.Ranking.{rank_of}
use Rattle.pm_law_bound.proofs.RankLemmas.Bounds.{rank_below, none_left}
use Rattle.pm_law_bound.proofs.rank.laws.the_rank_is_bounded.Goals as goal

pub returns-clause-below : goal.returns-clause-below
returns-clause-below c = λ view number objects law. rank_below view law number objects

pub returns-clause-none : goal.returns-clause-none
returns-clause-none c = λ view number objects law. none_left view law number objects

pub returns-clause-empty : goal.returns-clause-empty
returns-clause-empty c = λ view number objects none. ap (rank_of view objects) none
