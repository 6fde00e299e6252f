use Rattle.std.proofs.Common.{sym, ap, ◌∙◌}
use Rattle.pm_cars.specs.Cars.{object_of}
use Rattle.pm_space.proofs.HeldCars.{no_slot, object_there, none_moved, none_gone}
use Rattle.pm_space.proofs.sources.object_at.Goals as goal

pub returns-in_default-clause-object : goal.returns-in_default-clause-object
returns-in_default-clause-object c = sym (ap object_of (no_slot c.args.cars.now c.args.at c.in_default.ensures))

pub returns-in-Live-clause-object : goal.returns-in-Live-clause-object
returns-in-Live-clause-object c = sym c.object.ensures.object ∙ sym (object_there c.args.cars.now c.args.at c.in-Some.held.now c.in-Some.ensures)

pub returns-in-Moved-clause-object : goal.returns-in-Moved-clause-object
returns-in-Moved-clause-object c = none_moved _ c.in-Moved.field-0 c.in-Moved.ensures.look ∙ sym (object_there c.args.cars.now c.args.at c.in-Some.held.now c.in-Some.ensures)

pub returns-in-Gone-clause-object : goal.returns-in-Gone-clause-object
returns-in-Gone-clause-object c = none_gone _ c.in-Gone.ensures.look ∙ sym (object_there c.args.cars.now c.args.at c.in-Some.held.now c.in-Some.ensures)
