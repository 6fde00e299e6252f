use Rattle.std.proofs.Common.{ap, ◌∙◌}
use Rattle.std.specs.FinMap.{get}
use Rattle.pm_trains.proofs.Homes.{noted}
use Rattle.pm_trains.proofs.line.Line.append.Goals as goal

pub returns-clause-home : goal.returns-clause-home
returns-clause-home c = rw (← c.self.view_is) (λ q. ap (λ m. get m q) c.in_ok-insert.ensures.ok ∙ noted c.args.homes.now c.args.car c.self.inside.number q)
