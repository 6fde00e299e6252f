use Rattle.pm_law_commands.proofs.RowLemmas.News.{told_once}
use Rattle.pm_law_commands.proofs.RowLemmas.SpreadKept.{effective_here, effective_elsewhere}
use Rattle.pm_law_commands.proofs.row.laws.a_car_hears_at_most_once.Goals as goal

pub returns-clause-once : goal.returns-clause-once
returns-clause-once c = told_once

pub returns-clause-here : goal.returns-clause-here
returns-clause-here c = effective_here

pub returns-clause-others : goal.returns-clause-others
returns-clause-others c = effective_elsewhere
