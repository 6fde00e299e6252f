use Rattle.pm_law_bound.proofs.Many.{all_stay, all_with_one, all_honest, all_least, all_end}
use Rattle.pm_law_bound.proofs.laws.watches_keep_their_bounds.Goals as goal

pub returns-clause-stay : goal.returns-clause-stay
returns-clause-stay c = all_stay

pub returns-clause-one_more : goal.returns-clause-one_more
returns-clause-one_more c = all_with_one

pub returns-clause-honest : goal.returns-clause-honest
returns-clause-honest c = all_honest

pub returns-clause-least : goal.returns-clause-least
returns-clause-least c = all_least

pub returns-clause-gone : goal.returns-clause-gone
returns-clause-gone c = all_end
