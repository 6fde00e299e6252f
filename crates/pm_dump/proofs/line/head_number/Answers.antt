use Rattle.pm_dump.specs.Read.{words_in}
use Rattle.pm_dump.proofs.WordLemmas.{few_head}
use Rattle.pm_dump.proofs.line.head_number.Goals as goal

pub returns-in-None : goal.returns-in-None
returns-in-None c = few_head (words_in c.args.words) c.in-None.ensures
