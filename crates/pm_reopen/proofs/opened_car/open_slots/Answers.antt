use Rattle.std.proofs.Common.{ap, arith}
use Rattle.std.specs.Vec.Iter.{into_iter_items}
use Rattle.pm_image.specs.CarPages.{car_used}
use Rattle.pm_reopen.proofs.CarLaws.{room_of_slot, head_used}
use Rattle.pm_reopen.proofs.opened_car.open_slots.Goals as goal

pub open_slot-requires-clause-fits : goal.open_slot-requires-clause-fits
open_slot-requires-clause-fits c =
    let here = ap car_used c.in-Some.ensures.steps.0 in
    let rest = head_used (into_iter_items c.next.new.self) in
    let room = room_of_slot c.in-Some.content in
    let fits = c.loop-slot.invariant.fits in
    omega (arith, here, rest, room, fits)
