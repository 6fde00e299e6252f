use Rattle.pm_law_saving.proofs.Publishing.{copy_held, copy_next, copy_renewed, copy_settled, copy_still}
use Rattle.pm_law_saving.proofs.ending.a_published_copy_is_the_settled_one.Goals as goal

pub returns-clause-held : goal.returns-clause-held
returns-clause-held c = copy_held

pub returns-clause-still : goal.returns-clause-still
returns-clause-still c = copy_still

pub returns-clause-renewed : goal.returns-clause-renewed
returns-clause-renewed c = copy_renewed

pub returns-clause-next : goal.returns-clause-next
returns-clause-next c = copy_next

pub returns-clause-tied : goal.returns-clause-tied
returns-clause-tied c = copy_settled
