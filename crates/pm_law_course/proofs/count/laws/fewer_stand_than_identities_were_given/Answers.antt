use Rattle.pm_law_course.proofs.CountLemmas.Few.{fewer_than_given}
use Rattle.pm_law_course.proofs.count.laws.fewer_stand_than_identities_were_given.Goals as goal

pub returns : goal.returns
returns c = λ view law. fewer_than_given view law
