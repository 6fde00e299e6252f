use Rattle.pm_law_collect.proofs.SameObjects.{event_makes_none}
use Rattle.pm_law_collect.proofs.making.an_event_makes_no_object.Goals as goal

pub returns : goal.returns
returns c = λ view row picked number id a law next may vacant is. event_makes_none view picked number row law next may vacant id a is
