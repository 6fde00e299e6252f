use Rattle.std.proofs.Common.{sym, Some, None}
use Rattle.std.specs.FinMap.{get}
use Rattle.pm_space.specs.Linked.{set_of}
use Rattle.pm_space.specs.Shown.{view}
use Rattle.pm_space.proofs.Linking.{at_car, not_at_car}
use Rattle.pm_space.proofs.HeldCars.{no_slot, slot_there}
use Rattle.pm_next.proofs.Fixes.{no_set, no_car, fix_sole, fix_sole_none, went_moved, went_live, went_gone}
use Rattle.pm_next.proofs.sources.stale_in_slot.Goals as goal

pub returns-in_default : goal.returns-in_default
returns-in_default g c = no_set (view c.args.parts.now) c.args.car (not_at_car set_of c.args.parts.now.links c.args.car (sym c.in_default.ensures))

pub returns-in_default-get : goal.returns-in_default-get
returns-in_default-get g c = no_car (view c.args.parts.now) c.args.car (λ slot. no_slot c.args.parts.now.cars (record { car = c.args.car; slot = slot }) c.in_default-get.ensures)

pub returns-in-Some-least_of : goal.returns-in-Some-least_of
returns-in-Some-least_of g c =
    let slots = c.in-Some-get.held.now.car.car.slots in
    fix_sole (view c.args.parts.now) c.args.car c.in-Some.links.now.set slots
    (at_car set_of c.args.parts.now.links c.args.car c.in-Some.links.now (sym c.in-Some.ensures))
    (λ slot. slot_there c.args.parts.now.cars (record { car = c.args.car; slot = slot }) c.in-Some-get.held.now c.in-Some-get.ensures)
    c.args.slot c.requires.phase c.requires.sole c.in-Moved.to (Some c.in-Some-least_of.source)
    (went_moved (get slots c.args.slot) c.in-Moved.to c.in-Moved.ensures.look) c.in-Some-least_of.ensures

pub returns-in-None : goal.returns-in-None
returns-in-None g c =
    let slots = c.in-Some-get.held.now.car.car.slots in
    fix_sole (view c.args.parts.now) c.args.car c.in-Some.links.now.set slots
    (at_car set_of c.args.parts.now.links c.args.car c.in-Some.links.now (sym c.in-Some.ensures))
    (λ slot. slot_there c.args.parts.now.cars (record { car = c.args.car; slot = slot }) c.in-Some-get.held.now c.in-Some-get.ensures)
    c.args.slot c.requires.phase c.requires.sole c.in-Moved.to None
    (went_moved (get slots c.args.slot) c.in-Moved.to c.in-Moved.ensures.look) c.in-None.ensures

pub returns-in-Live : goal.returns-in-Live
returns-in-Live g c =
    let slots = c.in-Some-get.held.now.car.car.slots in
    fix_sole_none (view c.args.parts.now) c.args.car c.in-Some.links.now.set slots
    (at_car set_of c.args.parts.now.links c.args.car c.in-Some.links.now (sym c.in-Some.ensures))
    (λ slot. slot_there c.args.parts.now.cars (record { car = c.args.car; slot = slot }) c.in-Some-get.held.now c.in-Some-get.ensures)
    c.args.slot c.requires.phase c.requires.sole (went_live (get slots c.args.slot) c.in-Live.ensures.look)

pub returns-in-Gone : goal.returns-in-Gone
returns-in-Gone g c =
    let slots = c.in-Some-get.held.now.car.car.slots in
    fix_sole_none (view c.args.parts.now) c.args.car c.in-Some.links.now.set slots
    (at_car set_of c.args.parts.now.links c.args.car c.in-Some.links.now (sym c.in-Some.ensures))
    (λ slot. slot_there c.args.parts.now.cars (record { car = c.args.car; slot = slot }) c.in-Some-get.held.now c.in-Some-get.ensures)
    c.args.slot c.requires.phase c.requires.sole (went_gone (get slots c.args.slot) c.in-Gone.ensures.look)
