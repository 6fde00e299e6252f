use Rattle.std.proofs.Common.{◌≡◌, ◌<◌, ap, sym, subst, ◌∙◌, List, length, IsSomeAnd}
use Rattle.pm_types.specs.declared.object.Object.{Object}
use Rattle.pm_types.specs.declared.object.Slot.TheVariants.{Live}
use Rattle.pm_cars.specs.Cars.{CarAndSpare, HasField, object_at, with_slot, with_field, object_room}
use Rattle.pm_cars.specs.Entries.{Entry, with_content, numbers, IsAscending}
use Rattle.pm_cars.proofs.Listed.{numbers_with}
use Rattle.pm_cars.proofs.Kept.{stocked, has_kept, from_seen, to_seen, kept_edit, seen_edit, room_with_field, nowhere}
use Rattle.pm_cars.proofs.car.Car.set_field.Goals as goal

pub exchange-object-requires-clause-live : goal.exchange-object-requires-clause-live
exchange-object-requires-clause-live c =
    has_kept _ _ _ _ _ _ _ c.self.invariant c.self.inside.number c.args.slot (λ object. c.args.index < length object.fields)
    (subst (λ (it : CarAndSpare). HasField it.car c.args.slot c.args.index) (sym c.self.view_is) c.requires.field)

pub set_field-changed-requires : goal.set_field-changed-requires
set_field-changed-requires c =
    from_seen _ _ _ _ _ _ _ c.self.invariant c.self.inside.number c.args.slot c.exchange-object.result (λ object. c.args.index < length object.fields) c.exchange-object.ensures.object
    (subst (λ (it : CarAndSpare). HasField it.car c.args.slot c.args.index) (sym c.self.view_is) c.requires.field)

pub put_back-requires : goal.put_back-requires
put_back-requires c = record {
  ascending = subst IsAscending (sym (ap numbers c.exchange-object.ensures.items ∙ numbers_with c.self.inside.entries.items c.args.slot nowhere)) c.self.invariant.ascending;
}

pub invariant_of-self : goal.invariant_of-self
invariant_of-self c =
    let one = c.exchange-object.result in
    let same = ap object_room c.set_field-changed.ensures ∙ room_with_field one c.args.index c.args.value in
    rw (c.put_back.ensures.items, c.put_back.ensures.capacity, c.exchange-object.ensures.items, c.exchange-object.ensures.capacity)
    (kept_edit _ _ _ _ _ _ _ c.self.invariant c.args.slot one c.set_field-changed.result nowhere c.exchange-object.ensures.object same)

pub returns : goal.returns
returns c =
    let inside = c.self.inside in
    let one = c.exchange-object.result in
    let two = c.set_field-changed.result in
    let same = ap object_room c.set_field-changed.ensures ∙ room_with_field one c.args.index c.args.value in
    let view = λ (es : List Entry). stocked inside.number es inside.next inside.spare in
    let old = view inside.entries.items in
    let edited : view c.put_back.new.entries.items ≡ record old { car = with_slot old.car c.args.slot (Live (with_field one c.args.index c.args.value)) } =
    ap view (c.put_back.ensures.items ∙ ap (λ (es : List Entry). with_content es c.args.slot (Live two)) c.exchange-object.ensures.items)
    ∙ (λ i. record { car = seen_edit _ _ _ _ _ _ _ c.self.invariant c.args.slot one two nowhere c.exchange-object.ensures.object same inside.number i; spare = inside.spare })
    ∙ ap (λ (object : Object). record old { car = with_slot old.car c.args.slot (Live object) }) c.set_field-changed.ensures in
    subst (λ (it : CarAndSpare). IsSomeAnd (object_at it.car c.args.slot) (λ object. view c.put_back.new.entries.items ≡ record it { car = with_slot it.car c.args.slot (Live (with_field object c.args.index c.args.value)) })) c.self.view_is
    (to_seen _ _ _ _ _ _ _ c.self.invariant inside.number c.args.slot one (λ object. view c.put_back.new.entries.items ≡ record old { car = with_slot old.car c.args.slot (Live (with_field object c.args.index c.args.value)) })
    c.exchange-object.ensures.object edited)
