use Rattle.pm_image.proofs.BlankLaws.{blank_behind, blank_stands, blank_current}
use Rattle.pm_image.proofs.law.a_new_store_is_empty.Goals as goal

pub returns-clause-store : goal.returns-clause-store
returns-clause-store c = blank_stands

pub returns-clause-header : goal.returns-clause-header
returns-clause-header c = blank_current

pub returns-clause-behind : goal.returns-clause-behind
returns-clause-behind c = blank_behind
