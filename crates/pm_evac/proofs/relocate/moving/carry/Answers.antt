use Rattle.std.proofs.Common.{◌≡◌, ◌+◌, ◌*◌, sym, ap, subst, ◌∙◌, length}
use Rattle.pm_types.specs.declared.object.Slot.TheVariants.{Moved}
use Rattle.pm_cars.specs.Cars.{object_room}
use Rattle.pm_view.specs.View.{Cars}
use Rattle.pm_view.specs.Reading.{object_at, aside_in}
use Rattle.pm_view.specs.Barrier.{told}
use Rattle.pm_space.specs.Places.{FitsIn, with_object_in}
use Rattle.pm_space.specs.Shown.{view}
use Rattle.pm_evac.specs.Relocate.Moves.{MayCarry, moves_told}
use Rattle.pm_evac.proofs.RelocateLemmas.Places.{some_with, of_some, fits_still}
use Rattle.pm_evac.proofs.relocate.moving.carry.Goals as goal

pub put_into-requires-clause-fits : goal.put_into-requires-clause-fits
put_into-requires-clause-fits g c =
    let v = view c.args.parts.now in
    let object = c.take_away-object.result in
    let may = of_some (object_at v.cars c.args.from) object (λ object. MayCarry v c.args.parts.now.links c.args.to object c.args.fields.items) c.take_away-object.ensures.object c.requires.may in
    let room : object_room object ≡ object_room (record object { fields = c.from_vec-fields.result }) = ap (λ n. 17 + 12 * n + length object.bytes) (sym may.same ∙ ap length (sym c.from_vec-fields.ensures)) in
    subst (λ (cars : Cars). FitsIn cars c.args.to.car (object_room (record object { fields = c.from_vec-fields.result }))) (sym c.take_away-object.ensures.cars)
    (fits_still v.cars c.args.from (Moved c.args.to) c.args.to.car (object_room (record object { fields = c.from_vec-fields.result })) c.requires.apart (subst (FitsIn v.cars c.args.to.car) room may.fits))

pub returns-clause-view : goal.returns-clause-view
returns-clause-view g c =
    let v = view c.args.parts.now in
    let object = c.take_away-object.result in
    let cars = c.put_into.ensures.cars ∙ (λ i. with_object_in (c.take_away-object.ensures.cars i) c.args.to.car (record object { fields = c.from_vec-fields.ensures i })) in
    let queues = c.tell_moved.ensures.queues ∙ (λ i. told v.queues (moves_told (aside_in v.phase v.trains.trains) c.args.from c.args.to (c.as_slice.ensures i) (c.deref.ensures.value i))) in
    some_with (object_at v.cars c.args.from) object (λ object. _) c.take_away-object.ensures.object
    (λ i. record v { cars = cars i; sets = c.tell_moved.ensures.sets i; queues = queues i })
