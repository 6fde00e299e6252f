use Rattle.std.proofs.Common.{◌≤◌, ◌+◌, refl, sym, ap, subst, ◌∙◌, IsOk, IsSomeAnd, length}
use Rattle.std.specs.FinMap.{get}
use Rattle.pm_types.specs.declared.object.Object.{Object}
use Rattle.pm_cars.specs.Cars.{with_bytes}
use Rattle.pm_view.specs.Reading.{object_at}
use Rattle.pm_space.specs.Shown.{cars_of}
use Rattle.pm_space.proofs.HeldCars.{object_there, some_and, has_car, object_written}
use Rattle.pm_mutate.proofs.commands.bytes.write.Goals as goal

pub change-requires : goal.change-requires
change-requires c = has_car c.args.cars.now c.args.at (some_and (object_at (cars_of c.args.cars.now) c.args.at) (λ object. c.args.place + length c.args.bytes.now ≤ length object.bytes) c.requires) (get c.args.cars.now.current c.args.at.car) refl

pub set_bytes-requires : goal.set_bytes-requires
set_bytes-requires c = record {
  inside = subst (λ o. IsSomeAnd o (λ (object : Object). c.args.place + length c.args.bytes.now ≤ length object.bytes)) (object_there c.args.cars.now c.args.at c.in_ok-held.held.now (sym c.in_ok-held.ensures.value)) c.requires;
}

pub returns-clause-ok : goal.returns-clause-ok
returns-clause-ok c =
    ap cars_of (c.change.follows.holds (record { car = c.set_bytes.new.self }) (subst IsOk (sym c.in_ok-held.was) refl))
    ∙ object_written c.args.cars.now c.args.at c.in_ok-held.held.now (record { car = c.set_bytes.new.self }) (λ object. with_bytes object c.args.place c.args.bytes.now) (sym c.in_ok-held.ensures.value) c.set_bytes.ensures
