use Rattle.pm_dump.proofs.WordLemmas.{count_is}
use Rattle.pm_dump.proofs.words.count_words.Goals as goal

pub returns-in-Some : goal.returns-in-Some
returns-in-Some c = count_is c.args.words c.in-Some.text c.spaces.result c.in-Some.is c.spaces.ensures
