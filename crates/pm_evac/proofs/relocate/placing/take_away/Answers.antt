use Rattle.std.proofs.Common.{◌≡◌, ◌<◌, ℕ, refl, sym, ap, subst, ◌∙◌, IsOk, IsSome, IsSomeAnd}
use Rattle.std.specs.FinMap.{get}
use Rattle.pm_types.specs.declared.object.Slot.TheVariants.{Moved}
use Rattle.pm_cars.specs.Cars.{CarAndSpare}
use Rattle.pm_space.specs.Shown.{cars_of, HasBirthRoom, KeepsReady}
use Rattle.pm_space.proofs.HeldCars.{object_there, has_car}
use Rattle.pm_space.proofs.Readiness.{kept_by_value, room_kept}
use Rattle.pm_evac.proofs.RelocateLemmas.Swept.{slot_told}
use Rattle.pm_evac.proofs.relocate.placing.take_away.Goals as goal

pub change-requires : goal.change-requires
change-requires c = has_car c.args.cars.now c.args.from c.requires.live (get c.args.cars.now.current c.args.from.car) refl

pub mark_moved-requires : goal.mark_moved-requires
mark_moved-requires c = record { live = subst IsSome (object_there c.args.cars.now c.args.from c.in-Ok.held.now (sym c.in-Ok.ensures.value)) c.requires.live }

pub returns-clause-object : goal.returns-clause-object
returns-clause-object c =
    subst (λ o. IsSomeAnd o (λ object. c.mark_moved.result ≡ object)) (sym (object_there c.args.cars.now c.args.from c.in-Ok.held.now (sym c.in-Ok.ensures.value) ∙ c.mark_moved.ensures.object)) refl

pub returns-clause-cars : goal.returns-clause-cars
returns-clause-cars c =
    ap cars_of (c.change.follows.holds (record { car = c.mark_moved.new.self }) (subst IsOk (sym c.in-Ok.is) refl))
    ∙ slot_told c.args.cars.now c.args.from c.in-Ok.held.now (record { car = c.mark_moved.new.self }) (Moved c.args.to) (sym c.in-Ok.ensures.value) c.mark_moved.ensures.car

pub returns-clause-births : goal.returns-clause-births
returns-clause-births c =
    subst (λ t. (car : ℕ) → HasBirthRoom c.args.cars.now car → HasBirthRoom t car) (sym (c.change.follows.holds (record { car = c.mark_moved.new.self }) (subst IsOk (sym c.in-Ok.is) refl)))
    (room_kept c.args.cars.now c.args.from.car c.in-Ok.held.now (record { car = c.mark_moved.new.self }) c.in-Ok.ensures.value (λ some. subst (λ (it : CarAndSpare). 0 < it.spare) (sym c.mark_moved.ensures.car) some))

pub returns-clause-others : goal.returns-clause-others
returns-clause-others c =
    subst (KeepsReady c.args.cars.now) (sym (c.change.follows.holds (record { car = c.mark_moved.new.self }) (subst IsOk (sym c.in-Ok.is) refl)))
    (kept_by_value c.args.cars.now c.args.from.car (record { car = c.mark_moved.new.self }))
