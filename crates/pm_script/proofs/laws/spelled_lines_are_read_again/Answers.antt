use Rattle.pm_script.proofs.SpellingLaws.{text_read}
use Rattle.pm_script.proofs.laws.spelled_lines_are_read_again.Goals as goal

pub returns : goal.returns
returns c = text_read
