use Rattle.pm_view.specs.Sinking.{Passes, IsLost}
use Rattle.pm_law_bound.proofs.SunkLemmas.Eventful.{event_sunk}
use Rattle.pm_law_bound.proofs.sunk.laws.an_event_keeps_sunk_sets.Goals as goal

pub returns : goal.returns
returns c = λ view row picked number law next may vacant.
    record {
      every = λ test n sunk. event_sunk view (Passes test) n picked number row law next may vacant sunk;
      lost = λ world n sunk. event_sunk view (IsLost world) n picked number row law next may vacant sunk;
    }
