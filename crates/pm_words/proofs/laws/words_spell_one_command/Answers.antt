use Rattle.pm_words.proofs.Commands.{one_asked}
use Rattle.pm_words.proofs.laws.words_spell_one_command.Goals as goal

pub returns : goal.returns
returns c = one_asked
