use Rattle.pm_law_course.proofs.CountLemmas.Few.{few_trains}
use Rattle.pm_law_course.proofs.count.laws.few_trains_stand.Goals as goal

pub returns : goal.returns
returns c = λ view law. few_trains view law
