use Rattle.pm_view.specs.Seen.{seen}
use Rattle.pm_law_commands.proofs.RowLemmas.Words.{in_words, exactly}
use Rattle.pm_law_commands.proofs.row.laws.effective_sets_tell_the_sources_outside.Goals as goal

pub returns-clause-words : goal.returns-clause-words
returns-clause-words c = λ view law. in_words (seen view) law.tied

pub returns-clause-exactly : goal.returns-clause-exactly
returns-clause-exactly c = λ view law none car x. exactly (seen view) law.tied none car x
