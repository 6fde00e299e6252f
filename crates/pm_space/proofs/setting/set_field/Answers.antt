use Rattle.std.proofs.Common.{refl, sym, ap, subst, ◌∙◌, IsOk}
use Rattle.std.specs.FinMap.{get}
use Rattle.pm_cars.specs.Cars.{with_field}
use Rattle.pm_space.specs.Shown.{cars_of}
use Rattle.pm_space.proofs.HeldCars.{car_there, field_there, object_written}
use Rattle.pm_space.proofs.setting.set_field.Goals as goal

pub change-requires : goal.change-requires
change-requires c = car_there c.args.cars.now c.args.at c.args.index c.requires (get c.args.cars.now.current c.args.at.car) refl

pub set_field-requires : goal.set_field-requires
set_field-requires c = record { field = field_there c.args.cars.now c.args.at c.args.index c.in_ok-held.held.now (sym c.in_ok-held.ensures.value) c.requires }

pub returns-clause-ok : goal.returns-clause-ok
returns-clause-ok c =
    ap cars_of (c.change.follows.holds (record { car = c.set_field.new.self }) (subst IsOk (sym c.in_ok-held.was) refl))
    ∙ object_written c.args.cars.now c.args.at c.in_ok-held.held.now (record { car = c.set_field.new.self }) (λ object. with_field object c.args.index c.args.to) (sym c.in_ok-held.ensures.value) c.set_field.ensures
