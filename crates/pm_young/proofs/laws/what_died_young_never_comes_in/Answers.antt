use Rattle.pm_young.proofs.GoesOn.{never_comes}
use Rattle.pm_young.proofs.laws.what_died_young_never_comes_in.Goals as goal

pub returns : goal.returns
returns g c = λ it later id goes given none out apart here. never_comes it later id goes given none out apart here
