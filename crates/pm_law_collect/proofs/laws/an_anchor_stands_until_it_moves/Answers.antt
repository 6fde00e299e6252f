use Rattle.pm_law_collect.proofs.Event.{anchor_stays, event_tails}
use Rattle.pm_law_collect.proofs.laws.an_anchor_stands_until_it_moves.Goals as goal

pub returns-clause-anchor : goal.returns-clause-anchor
returns-clause-anchor c = λ view row picked number anchor keeps stands. anchor_stays view picked number row anchor keeps stands

pub returns-clause-tail : goal.returns-clause-tail
returns-clause-tail c = λ view row picked number train car a law next may vacant moves last. event_tails view picked number row law next may vacant a train car moves last
