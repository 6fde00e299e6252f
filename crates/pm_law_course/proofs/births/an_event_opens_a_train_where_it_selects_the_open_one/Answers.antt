use Rattle.pm_law_course.proofs.Opening.{opened_then, open_same}
use Rattle.pm_law_course.proofs.births.an_event_opens_a_train_where_it_selects_the_open_one.Goals as goal

pub returns-clause-opened : goal.returns-clause-opened
returns-clause-opened c = opened_then

pub returns-clause-same : goal.returns-clause-same
returns-clause-same c = λ view row picked number still. (open_same view row picked number still).youngest

pub returns-clause-births : goal.returns-clause-births
returns-clause-births c = λ view row picked number still. (open_same view row picked number still).births
