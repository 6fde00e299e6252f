use Rattle.std.proofs.Common.{◌+◌, ◌-◌, arith, ap, sym, subst, ◌∙◌, List}
use Rattle.pm_cars.specs.Cars.{CarAndSpare, FitsAt, object_room, placed}
use Rattle.pm_cars.specs.Entries.{Entry}
use Rattle.pm_cars.proofs.Kept.{kept_place, seen_place, stocked}
use Rattle.pm_cars.proofs.Counts.{few, live_or_moved}
use Rattle.pm_cars.proofs.car.Car.place.Goals as goal

pub invariant_of-self : goal.invariant_of-self
invariant_of-self c =
    let fits = subst (λ (it : CarAndSpare). FitsAt it.car c.args.slot (object_room c.args.object)) (sym c.self.view_is) c.requires.fits in
    let spare = ap (λ (it : CarAndSpare). it.spare) c.self.view_is in
    let more = ap (λ n. c.self.inside.used + n) c.room_of.ensures in
    rw (c.push_reserved.ensures.items, c.push_reserved.ensures.capacity)
    (kept_place _ _ _ _ _ _ _ c.self.invariant c.args.slot c.args.object fits.1 _ more (omega (arith, c.self.invariant.counted, fits.0)) fits.2 (omega (arith, c.requires.spare)))

pub returns : goal.returns
returns c =
    let inside = c.self.inside in
    let fits = subst (λ (it : CarAndSpare). FitsAt it.car c.args.slot (object_room c.args.object)) (sym c.self.view_is) c.requires.fits in
    ap (λ (es : List Entry). stocked inside.number es (c.args.slot + 1) (inside.spare - 1)) c.push_reserved.ensures.items
    ∙ (λ i. record { car = seen_place _ _ _ _ _ _ _ c.self.invariant c.args.slot c.args.object fits.1 inside.number i; spare = inside.spare - 1 })
    ∙ ap (λ (it : CarAndSpare). record { car = placed it.car c.args.slot c.args.object; spare = it.spare - 1 }) c.self.view_is

pub overflow_add-self-3 : goal.overflow_add-self-3
overflow_add-self-3 c = let some = live_or_moved _ _ _ _ _ _ _ c.self.invariant in omega (arith, some, few _ _ _ _ _ _ _ c.self.invariant)
