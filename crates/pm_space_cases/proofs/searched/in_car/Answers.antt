use Rattle.std.proofs.Common.{subst}
use Rattle.pm_space.specs.Shown.{view}
use Rattle.pm_space.proofs.HeldCars.{slot_there, no_slot}
use Rattle.pm_space_cases.specs.Lacking.{LacksBelow}
use Rattle.pm_space_cases.proofs.Searching.{all_slots, no_slots}
use Rattle.pm_space_cases.proofs.searched.in_car.Goals as goal

pub returns-in_default : goal.returns-in_default
returns-in_default g c = λ same.
    no_slots (view c.args.parts.now) c.args.id c.args.car (λ slot. no_slot c.args.parts.now.cars (record { car = c.args.car; slot = slot }) c.in_default.ensures)

pub returns : goal.returns
returns g c = λ none.
    let v = view c.args.parts.now in
    let held = c.in-Some.held.now in
    all_slots v c.args.id c.args.car held.car.car.next held.car.car.slots
    (λ slot. slot_there c.args.parts.now.cars (record { car = c.args.car; slot = slot }) held c.in-Some.ensures) c.sound.ensures.below
    (subst (LacksBelow v c.args.id c.args.car) c.next_slot.ensures (c.in_slots.ensures none))
