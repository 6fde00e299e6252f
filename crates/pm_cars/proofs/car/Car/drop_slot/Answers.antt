use Rattle.std.proofs.Common.{◌≡◌, ◌≤◌, ap, sym, subst, ◌∙◌, List, Some, arith}
use Rattle.pm_types.specs.declared.object.Slot.TheVariants.{Live}
use Rattle.pm_cars.specs.Cars.{CarAndSpare, IsLive, object_at, without_slot}
use Rattle.pm_cars.specs.Entries.{Entry, first_place}
use Rattle.pm_cars.proofs.Places.{first_without, is_object}
use Rattle.pm_cars.proofs.Kept.{stocked, live_kept, room_within, some_live, object_seen, kept_without, seen_without}
use Rattle.pm_cars.proofs.car.Car.drop_slot.Goals as goal

pub take_object-dropped-requires-clause-live : goal.take_object-dropped-requires-clause-live
take_object-dropped-requires-clause-live c =
    live_kept _ _ _ _ _ _ _ c.self.invariant c.self.inside.number c.args.slot (subst (λ (it : CarAndSpare). IsLive it.car c.args.slot) (sym c.self.view_is) c.requires.live)

pub room_of-requires : goal.room_of-requires
room_of-requires c =
    omega (arith, room_within _ _ _ _ _ _ _ c.self.invariant c.args.slot (Live c.take_object-dropped.result) c.take_object-dropped.ensures.object, c.self.invariant.within)

pub overflow_sub-self : goal.overflow_sub-self
overflow_sub-self c =
    omega (arith, room_within _ _ _ _ _ _ _ c.self.invariant c.args.slot (Live c.take_object-dropped.result) c.take_object-dropped.ensures.object, c.room_of.ensures)

pub overflow_sub-self-2 : goal.overflow_sub-self-2
overflow_sub-self-2 c = some_live _ _ _ _ _ _ _ c.self.invariant c.args.slot c.take_object-dropped.result c.take_object-dropped.ensures.object

pub first_live-self-inside-requires : goal.first_live-self-inside-requires
first_live-self-inside-requires c =
    let es = c.self.inside.entries.items in
    subst (λ (es : List Entry). c.self.inside.first ≤ first_place es) (sym (c.as_slice.ensures ∙ c.take_object-dropped.ensures.items))
    (omega (arith, first_without es c.args.slot (ap is_object c.take_object-dropped.ensures.object), c.self.invariant.lowest))

pub invariant_of-self : goal.invariant_of-self
invariant_of-self c =
    let found = c.take_object-dropped.ensures.object in
    let within = room_within _ _ _ _ _ _ _ c.self.invariant c.args.slot (Live c.take_object-dropped.result) found in
    let some = some_live _ _ _ _ _ _ _ c.self.invariant c.args.slot c.take_object-dropped.result found in
    rw c.take_object-dropped.ensures.items
    (kept_without _ _ _ _ _ _ _ c.self.invariant c.args.slot (Live c.take_object-dropped.result) found _ _ _ _ c.take_object-dropped.ensures.capacity
    (omega (arith, c.room_of.ensures, within)) (omega (arith, some))
    (c.first_live-self-inside.ensures ∙ ap first_place (c.as_slice.ensures ∙ c.take_object-dropped.ensures.items)))

pub returns-clause-object : goal.returns-clause-object
returns-clause-object c =
    subst (λ (it : CarAndSpare). object_at it.car c.args.slot ≡ Some c.take_object-dropped.result) c.self.view_is
    (object_seen _ _ _ _ _ _ _ c.self.invariant c.self.inside.number c.args.slot c.take_object-dropped.result c.take_object-dropped.ensures.object)

pub returns-clause-car : goal.returns-clause-car
returns-clause-car c =
    let inside = c.self.inside in
    ap (λ (es : List Entry). stocked inside.number es inside.next inside.spare) c.take_object-dropped.ensures.items
    ∙ (λ i. record { car = seen_without _ _ _ _ _ _ _ c.self.invariant c.args.slot (Live c.take_object-dropped.result) c.take_object-dropped.ensures.object inside.number i; spare = inside.spare })
    ∙ ap (λ (it : CarAndSpare). record it { car = without_slot it.car c.args.slot }) c.self.view_is
