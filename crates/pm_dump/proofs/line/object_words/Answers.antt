use Rattle.pm_dump.specs.Read.{words_in}
use Rattle.pm_dump.proofs.WordLemmas.{few_object}
use Rattle.pm_dump.proofs.line.object_words.Goals as goal

pub returns-in-None-clause-err : goal.returns-in-None-clause-err
returns-in-None-clause-err c = few_object (words_in c.args.words) c.in-None.ensures
