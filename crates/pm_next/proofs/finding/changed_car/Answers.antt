use Rattle.std.proofs.Common.{[], sym, ap, ◌∙◌}
use Rattle.std.specs.Option.{unwrap_or}
use Rattle.pm_space.specs.Shown.{view}
use Rattle.pm_next.specs.Sought.{first_changed}
use Rattle.pm_next.proofs.Drained.{drained_stands}
use Rattle.pm_next.proofs.finding.changed_car.Goals as goal

pub cars-cars-requires : goal.cars-cars-requires
cars-cars-requires g c = drained_stands (view c.args.space.now.parts) c.args.space.now.kept c.args.train c.requires

pub returns-clause-car : goal.returns-clause-car
returns-clause-car g c = c.changed_from-quiet.ensures.found ∙ sym (ap (λ o. first_changed c.args.space.now.parts.links (unwrap_or o [])) c.cars-cars.ensures)
