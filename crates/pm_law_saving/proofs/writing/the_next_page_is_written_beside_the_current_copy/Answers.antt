use Rattle.pm_law_saving.proofs.Written.{next_tied}
use Rattle.pm_law_saving.proofs.writing.the_next_page_is_written_beside_the_current_copy.Goals as goal

pub returns : goal.returns
returns c = next_tied
