use Rattle.std.proofs.Common.{sym, ap, ◌∙◌}
use Rattle.pm_view.specs.Counts.{live_in}
use Rattle.pm_space.proofs.HeldCars.{get_car}
use Rattle.pm_inspect.proofs.counting.live_in_car.Goals as goal

pub returns-in-Some : goal.returns-in-Some
returns-in-Some g c = c.live.ensures.count ∙ sym (ap live_in (get_car c.args.parts.now.cars c.args.car _ c.in-Some.ensures))

pub returns-in-None : goal.returns-in-None
returns-in-None g c = sym (ap live_in (get_car c.args.parts.now.cars c.args.car _ c.in-None.ensures))
