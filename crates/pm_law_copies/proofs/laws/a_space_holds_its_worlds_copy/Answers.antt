use Rattle.pm_law_copies.proofs.CopyOf.{worlds_copy}
use Rattle.pm_law_copies.proofs.laws.a_space_holds_its_worlds_copy.Goals as goal

pub returns : goal.returns
returns c = λ view world law represents. worlds_copy view law world represents
