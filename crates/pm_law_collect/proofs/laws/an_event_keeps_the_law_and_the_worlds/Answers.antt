use Rattle.pm_law_collect.proofs.Event.{event_keeps}
use Rattle.pm_law_collect.proofs.laws.an_event_keeps_the_law_and_the_worlds.Goals as goal

pub returns-clause-law : goal.returns-clause-law
returns-clause-law c = λ view row picked number law next may vacant. (event_keeps view picked number row law next may vacant).0

pub returns-clause-world : goal.returns-clause-world
returns-clause-world c = λ view world row picked number law next may vacant stands. (event_keeps view picked number row law next may vacant).1 world stands
