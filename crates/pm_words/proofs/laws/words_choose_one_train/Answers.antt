use Rattle.pm_words.proofs.Choices.{one_choice}
use Rattle.pm_words.proofs.laws.words_choose_one_train.Goals as goal

pub returns : goal.returns
returns c = one_choice
