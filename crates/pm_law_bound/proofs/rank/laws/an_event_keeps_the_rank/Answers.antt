use Rattle.pm_law_bound.proofs.RankLemmas.Rows.{event_rank, event_falls}
use Rattle.pm_law_bound.proofs.rank.laws.an_event_keeps_the_rank.Goals as goal

pub returns-clause-keeps : goal.returns-clause-keeps
returns-clause-keeps c = λ view row picked number law next may vacant. event_rank view law picked number row next may vacant

pub returns-clause-falls : goal.returns-clause-falls
returns-clause-falls c = λ view row picked number law next may vacant completed n m fits. event_falls view law picked number row next may vacant completed n m fits
