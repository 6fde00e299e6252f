use Rattle.std.proofs.Common.{ap, sym, ◌∙◌, Some, None}
use Rattle.pm_view.specs.Rows.{place_in, next_of}
use Rattle.pm_space.specs.Shown.{cars_of}
use Rattle.pm_space.proofs.HeldCars.{get_car}
use Rattle.pm_evac.proofs.relocate.placing.place_in.Goals as goal

pub returns-in-Some-get : goal.returns-in-Some-get
returns-in-Some-get c =
    let next = c.next_slot.ensures ∙ sym (ap next_of (get_car c.args.cars.now c.in-Some.car (Some c.in-Some-get.held.now) c.in-Some-get.ensures)) in
    (λ i. record { car = c.in-Some.car; slot = next i }) ∙ sym (ap (λ o. place_in (cars_of c.args.cars.now) o c.args.number) c.in-Some.is)

pub returns-in-None : goal.returns-in-None
returns-in-None c =
    let next = sym (ap next_of (get_car c.args.cars.now c.in-Some.car None c.in-None.ensures)) in
    (λ i. record { car = c.in-Some.car; slot = next i }) ∙ sym (ap (λ o. place_in (cars_of c.args.cars.now) o c.args.number) c.in-Some.is)
