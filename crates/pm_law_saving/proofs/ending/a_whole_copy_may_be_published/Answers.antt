use Rattle.pm_law_saving.proofs.Whole.{copy_header, copy_whole}
use Rattle.pm_law_saving.proofs.ending.a_whole_copy_may_be_published.Goals as goal

pub returns-clause-header : goal.returns-clause-header
returns-clause-header c = copy_header

pub returns-clause-whole : goal.returns-clause-whole
returns-clause-whole c = copy_whole
