use Rattle.std.proofs.Common.{◌≡◌, ◌≤◌, ap, sym, subst, ◌∙◌, List, Some, arith, refl}
use Rattle.pm_types.specs.declared.object.Slot.TheVariants.{Live, Moved}
use Rattle.pm_cars.specs.Cars.{CarAndSpare, IsLive, object_at, with_slot}
use Rattle.pm_cars.specs.Entries.{Entry, first_place}
use Rattle.pm_cars.proofs.Places.{first_with}
use Rattle.pm_cars.proofs.Kept.{stocked, live_kept, room_within, some_live, object_seen, kept_with, seen_with}
use Rattle.pm_cars.proofs.car.Car.mark_moved.Goals as goal

pub exchange-object-requires-clause-live : goal.exchange-object-requires-clause-live
exchange-object-requires-clause-live c =
    live_kept _ _ _ _ _ _ _ c.self.invariant c.self.inside.number c.args.slot (subst (λ (it : CarAndSpare). IsLive it.car c.args.slot) (sym c.self.view_is) c.requires.live)

pub room_of-requires : goal.room_of-requires
room_of-requires c =
    omega (arith, room_within _ _ _ _ _ _ _ c.self.invariant c.args.slot (Live c.exchange-object.result) c.exchange-object.ensures.object, c.self.invariant.within)

pub overflow_sub-self : goal.overflow_sub-self
overflow_sub-self c =
    omega (arith, room_within _ _ _ _ _ _ _ c.self.invariant c.args.slot (Live c.exchange-object.result) c.exchange-object.ensures.object, c.room_of.ensures)

pub overflow_sub-self-2 : goal.overflow_sub-self-2
overflow_sub-self-2 c = some_live _ _ _ _ _ _ _ c.self.invariant c.args.slot c.exchange-object.result c.exchange-object.ensures.object

pub first_live-self-inside-requires : goal.first_live-self-inside-requires
first_live-self-inside-requires c =
    let es = c.self.inside.entries.items in
    subst (λ (es : List Entry). c.self.inside.first ≤ first_place es) (sym (c.as_slice.ensures ∙ c.exchange-object.ensures.items))
    (omega (arith, first_with es c.args.slot (Moved c.args.to) refl, c.self.invariant.lowest))

pub invariant_of-self : goal.invariant_of-self
invariant_of-self c =
    let found = c.exchange-object.ensures.object in
    let within = room_within _ _ _ _ _ _ _ c.self.invariant c.args.slot (Live c.exchange-object.result) found in
    let some = some_live _ _ _ _ _ _ _ c.self.invariant c.args.slot c.exchange-object.result found in
    rw (c.exchange-object.ensures.items, c.exchange-object.ensures.capacity)
    (kept_with _ _ _ _ _ _ _ c.self.invariant c.args.slot (Live c.exchange-object.result) found (Moved c.args.to) _ _ _
    (omega (arith, c.room_of.ensures)) (omega (arith, some)) (omega (arith, c.self.invariant.within))
    (c.first_live-self-inside.ensures ∙ ap first_place (c.as_slice.ensures ∙ c.exchange-object.ensures.items)))

pub returns-clause-object : goal.returns-clause-object
returns-clause-object c =
    subst (λ (it : CarAndSpare). object_at it.car c.args.slot ≡ Some c.exchange-object.result) c.self.view_is
    (object_seen _ _ _ _ _ _ _ c.self.invariant c.self.inside.number c.args.slot c.exchange-object.result c.exchange-object.ensures.object)

pub returns-clause-car : goal.returns-clause-car
returns-clause-car c =
    let inside = c.self.inside in
    ap (λ (es : List Entry). stocked inside.number es inside.next inside.spare) c.exchange-object.ensures.items
    ∙ (λ i. record { car = seen_with _ _ _ _ _ _ _ c.self.invariant c.args.slot (Live c.exchange-object.result) c.exchange-object.ensures.object inside.number (Moved c.args.to) i; spare = inside.spare })
    ∙ ap (λ (it : CarAndSpare). record it { car = with_slot it.car c.args.slot (Moved c.args.to) }) c.self.view_is
