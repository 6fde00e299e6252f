use Rattle.pm_script.proofs.SpellingLaws.{young_text_read}
use Rattle.pm_script.proofs.laws.spelled_young_lines_are_read_again.Goals as goal

pub returns : goal.returns
returns c = young_text_read
