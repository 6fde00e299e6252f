use Rattle.pm_dump.proofs.WordLemmas.{spent_not}
use Rattle.pm_dump.proofs.words.is_spent.Goals as goal

pub returns-in-Some : goal.returns-in-Some
returns-in-Some c = spent_not c.args.words c.in-Some._text c.in-Some.is
