use Rattle.std.proofs.Common.{refl, sym, ap, subst, ◌∙◌, IsOk, IsSome}
use Rattle.std.specs.FinMap.{get}
use Rattle.pm_space.specs.Shown.{cars_of}
use Rattle.pm_space.proofs.HeldCars.{object_there, has_car}
use Rattle.pm_evac.proofs.RelocateLemmas.Swept.{object_dropped}
use Rattle.pm_evac.proofs.relocate.sweeping.take_object.Goals as goal

pub change-requires : goal.change-requires
change-requires c = has_car c.args.cars.now c.args.at c.requires.live (get c.args.cars.now.current c.args.at.car) refl

pub drop_slot-requires : goal.drop_slot-requires
drop_slot-requires c = record { live = subst IsSome (object_there c.args.cars.now c.args.at c.in_ok-held.held.now (sym c.in_ok-held.ensures.value)) c.requires.live }

pub returns-clause-ok : goal.returns-clause-ok
returns-clause-ok c =
    ap cars_of (c.change.follows.holds (record { car = c.drop_slot.new.self }) (subst IsOk (sym c.in_ok-held.was) refl))
    ∙ object_dropped c.args.cars.now c.args.at c.in_ok-held.held.now (record { car = c.drop_slot.new.self }) (sym c.in_ok-held.ensures.value) (ap (λ k. k.car) c.drop_slot.ensures.car)

pub returns-clause-object : goal.returns-clause-object
returns-clause-object c = object_there c.args.cars.now c.args.at c.in_ok-held.held.now (sym c.in_ok-held.ensures.value) ∙ c.drop_slot.ensures.object
