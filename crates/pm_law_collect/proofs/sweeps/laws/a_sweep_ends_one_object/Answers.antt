use Rattle.pm_view.specs.Events.{sweep, free, free_doomed}
use Rattle.pm_law_collect.proofs.PhasesLemmas.Comes.{comes_where}
use Rattle.pm_law_collect.proofs.PhasesLemmas.Fronts.{swept_aside}
use Rattle.pm_law_collect.proofs.SweepsLemmas.SweepRow.{swept_slot, swept_there}
use Rattle.pm_law_collect.proofs.SweepsLemmas.FreeRow.{no_object}
use Rattle.pm_law_collect.proofs.sweeps.laws.a_sweep_ends_one_object.Goals as goal

pub returns-clause-there : goal.returns-clause-there
returns-clause-there c = λ view a next. swept_there view a (comes_where view (sweep a) next)

pub returns-clause-aside : goal.returns-clause-aside
returns-clause-aside c = λ view a next. swept_aside view a.car (comes_where view (sweep a) next).swept

pub returns-clause-slots : goal.returns-clause-slots
returns-clause-slots c = λ view picked number a b law next. swept_slot view a law (comes_where view (sweep a) next) b

pub returns-clause-freed : goal.returns-clause-freed
returns-clause-freed c = λ view car slot next. no_object view car (comes_where view (free car) next).empty slot

pub returns-clause-freed_doomed : goal.returns-clause-freed_doomed
returns-clause-freed_doomed c = λ view train car slot next. no_object view car (comes_where view (free_doomed train car) next).empty slot
