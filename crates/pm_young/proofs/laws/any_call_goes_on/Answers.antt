use Rattle.pm_young.proofs.Halted.{called_goes}
use Rattle.pm_young.proofs.laws.any_call_goes_on.Goals as goal

pub returns : goal.returns
returns g c = λ old new fault called. called_goes g.F.Fn old new fault called
