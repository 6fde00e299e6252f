use Rattle.std.proofs.Common.{refl}
use Rattle.pm_view.specs.Rows.{spread, spent, born}
use Rattle.pm_law_commands.proofs.RowLemmas.SpreadKept.{reshaped_spread}
use Rattle.pm_law_collect.proofs.WorkLemmas.StaleLooks.{sole_still, reshaped_keeps}
use Rattle.pm_law_collect.proofs.WorkLemmas.StaleCommands.{born_keeps}
use Rattle.pm_law_collect.proofs.work.single_rows.a_source_or_a_birth_leaves_the_slot_that_moved.Goals as goal

pub returns-clause-source : goal.returns-clause-source
returns-clause-source c = λ view x to slot sole. sole_still view (spread view x to) (reshaped_keeps view (spread view x to) (reshaped_spread view x to)) slot sole

pub returns-clause-birth : goal.returns-clause-birth
returns-clause-birth c = λ view number object slot law vacant sole. sole_still view (born view number object) (born_keeps view number object law vacant.vacant) slot sole

pub returns-clause-identity : goal.returns-clause-identity
returns-clause-identity c = λ view slot sole. sole_still view (spent view) (record { phase = refl; set = λ car at. refl; look = λ car slot at. refl }) slot sole
