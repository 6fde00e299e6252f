use Rattle.std.proofs.Common.{◌∙◌}
use Rattle.pm_view.specs.Reading.{stored}
use Rattle.pm_view.specs.Rows.{with_stored}
use Rattle.pm_law_commands.proofs.RowLemmas.Stored.{stored_after}
use Rattle.pm_law_commands.proofs.RowLemmas.Spread.{stored_news}
use Rattle.pm_law_commands.proofs.RowLemmas.SpreadKept.{spread_keeps_law}
use Rattle.pm_law_commands.proofs.row.laws.a_source_is_set.Goals as goal

pub returns-clause-stored : goal.returns-clause-stored
returns-clause-stored c = λ view x to at some y. stored_news (with_stored view x to) x (stored view x) to y ∙ stored_after view x to at some y

pub returns-clause-law : goal.returns-clause-law
returns-clause-law c = spread_keeps_law
