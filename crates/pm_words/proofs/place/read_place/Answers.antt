use Rattle.std.proofs.Common.{rules}
use Rattle.pm_words.proofs.Choices.{one_choice}
use Rattle.pm_words.proofs.place.read_place.Goals as goal

pub returns-clause-alone : goal.returns-clause-alone
returns-clause-alone c chosen places = one_choice _ chosen c.unwrap_or.result places (search rules)
