use Rattle.std.proofs.Common.{refl, sym, ap, subst, ◌∙◌, IsOk, IsSomeAnd}
use Rattle.std.specs.FinMap.{insert}
use Rattle.pm_cars.specs.Cars.{Car, CarAndSpare, Fits, object_room, with_birth}
use Rattle.pm_view.specs.Rows.{put_car, next_of}
use Rattle.pm_space.specs.Shown.{cars_of}
use Rattle.pm_space.proofs.HeldCars.{get_car}
use Rattle.pm_space.proofs.OpenedCars.{cars_added}
use Rattle.pm_space.proofs.placing.put_into.Goals as goal

pub birth-requires-clause-fits : goal.birth-requires-clause-fits
birth-requires-clause-fits c =
    subst (λ o. IsSomeAnd o (λ (it : Car). Fits it (object_room c.args.object))) (get_car c.args.cars.now c.args.car _ (sym c.in-Ok.ensures.value)) c.requires.fits

pub returns-clause-cars : goal.returns-clause-cars
returns-clause-cars c =
    let cars = cars_of c.args.cars.now in
    ap cars_of (c.change.follows.holds (record { car = c.birth.new.self }) (subst IsOk (sym c.in-Ok.is) refl))
    ∙ cars_added c.args.cars.now c.args.car (record { car = c.birth.new.self })
    ∙ ap (λ (it : CarAndSpare). insert cars c.args.car it.car) c.birth.ensures.car
    ∙ sym (ap (λ o. put_car cars c.args.car o (λ it. with_birth it c.args.object)) (get_car c.args.cars.now c.args.car _ (sym c.in-Ok.ensures.value)))

pub returns-clause-slot : goal.returns-clause-slot
returns-clause-slot c = c.birth.ensures.slot ∙ sym (ap next_of (get_car c.args.cars.now c.args.car _ (sym c.in-Ok.ensures.value)))
