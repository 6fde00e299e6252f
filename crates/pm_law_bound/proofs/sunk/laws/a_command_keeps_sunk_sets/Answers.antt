use Rattle.pm_view.specs.Sinking.{Passes, IsLost}
use Rattle.pm_law_bound.proofs.SunkLemmas.Commanding.{command_sunk}
use Rattle.pm_law_bound.proofs.sunk.laws.a_command_keeps_sunk_sets.Goals as goal

pub returns : goal.returns
returns c = λ view client cmd picks law few registers picked.
    record {
      every = λ test n sunk. command_sunk view law (Passes test) n sunk client few cmd picks registers picked;
      lost = λ world n sunk. command_sunk view law (IsLost world) n sunk client few cmd picks registers picked;
    }
