use Rattle.pm_law_young.proofs.escapes.what_is_young_then.Goals as goal
use Rattle.pm_law_young.proofs.Then.{young_alone_born, young_born, young_on}

pub returns-clause-stays : goal.returns-clause-stays
returns-clause-stays c = λ world nursery after client cmd ids id none goes. young_on world nursery client cmd id after ids none goes

pub returns-clause-born : goal.returns-clause-born
returns-clause-born c = λ world nursery client cmd object id makes room. young_born world nursery client cmd id object makes room

pub returns-clause-swept : goal.returns-clause-swept
returns-clause-swept c = λ world nursery client cmd object ids id makes full. young_alone_born world nursery client cmd id object ids makes full
