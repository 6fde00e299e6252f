use Rattle.pm_model.proofs.ClosedLaws.{empty_closed, begin_closed, copied_closed, closed_after, empty_within, within_after}
use Rattle.pm_model.proofs.lasting.worlds_stay_closed.Goals as goal

pub returns-clause-empty : goal.returns-clause-empty
returns-clause-empty c = empty_closed

pub returns-clause-begin : goal.returns-clause-begin
returns-clause-begin c number copy closed = begin_closed number copy closed

pub returns-clause-copied : goal.returns-clause-copied
returns-clause-copied c heap roots next closed = copied_closed heap roots next closed

pub returns-clause-after : goal.returns-clause-after
returns-clause-after c world journal closed = closed_after world journal closed

pub returns-clause-unlimited : goal.returns-clause-unlimited
returns-clause-unlimited c = empty_within

pub returns-clause-limits : goal.returns-clause-limits
returns-clause-limits c world journal within = within_after world journal within
