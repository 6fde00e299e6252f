use Rattle.pm_law_course.proofs.Counting.{few_stand}
use Rattle.pm_law_course.proofs.standing.no_more_is_reached_than_stands.Goals as goal

pub returns-clause-stands : goal.returns-clause-stands
returns-clause-stands c = λ view world id stands reached. stands.reached id reached

pub returns-clause-few : goal.returns-clause-few
returns-clause-few c = λ view world ids law stands apart reached. few_stand view ids law apart (λ id among. stands.reached id (reached id among))
