use Rattle.std.proofs.Common.{◌∙◌, sym}
use Rattle.pm_dump.specs.Read.{words_in}
use Rattle.pm_dump.proofs.WordLemmas.{few_root, more_root}
use Rattle.pm_dump.proofs.line.root_words.Goals as goal

pub returns-else-is_spent-clause-err : goal.returns-else-is_spent-clause-err
returns-else-is_spent-clause-err c =
    more_root (words_in c.args.words) c.in-Some.name.now c.in-Some.number.now (words_in c.in-Some.rest) c.in-Some.ensures (sym c.is_spent.ensures ∙ c.if-is_spent.false)

pub returns-in-None-clause-err : goal.returns-in-None-clause-err
returns-in-None-clause-err c = few_root (words_in c.args.words) c.in-None.ensures
