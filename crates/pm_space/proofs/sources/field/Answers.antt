use Rattle.std.proofs.Common.{sym, ap, ◌∙◌}
use Rattle.pm_view.specs.Reading.{field_of}
use Rattle.pm_space.proofs.HeldCars.{object_there, field_there, no_field, field_read}
use Rattle.pm_space.proofs.sources.field.Goals as goal

pub field-requires : goal.field-requires
field-requires c = record { field = field_there c.args.cars.now c.args.at c.args.index c.in-Some.held.now c.in-Some.ensures c.requires }

pub unreachable-requires : goal.unreachable-requires
unreachable-requires c = no_field c.args.cars.now c.args.at c.args.index c.in-None.ensures c.requires

pub returns : goal.returns
returns c = field_read _ c.args.index c.field.result c.field.ensures ∙ sym (ap (λ o. field_of o c.args.index) (object_there c.args.cars.now c.args.at c.in-Some.held.now c.in-Some.ensures))
