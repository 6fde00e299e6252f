use Rattle.std.proofs.Common.{Some, None, ◌∙◌}
use Rattle.pm_save.proofs.FrozenSlots.{frozen_slots}
use Rattle.pm_save.proofs.copying.slots_in.Goals as goal

pub returns-in-Some : goal.returns-in-Some
returns-in-Some c = c.slots.ensures ∙ frozen_slots c.args.cars.now.frozen c.args.number (Some c.in-Some.held.now) c.in-Some.ensures

pub returns-in-None : goal.returns-in-None
returns-in-None c = frozen_slots c.args.cars.now.frozen c.args.number None c.in-None.ensures
