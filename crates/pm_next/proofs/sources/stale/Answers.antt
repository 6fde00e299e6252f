use Rattle.std.proofs.Common.{sym, ap, ◌∙◌, Some, None}
use Rattle.std.specs.FinMap.{get}
use Rattle.pm_remset.specs.Remembered.{first_that}
use Rattle.pm_space.specs.Linked.{set_of}
use Rattle.pm_space.specs.Shown.{view}
use Rattle.pm_space.proofs.Linking.{at_car, not_at_car}
use Rattle.pm_space.proofs.HeldCars.{no_slot, slot_there}
use Rattle.pm_next.specs.Sought.{is_moved}
use Rattle.pm_next.proofs.Fixes.{no_set, no_car, fix_none, fix_some, went_moved, went_live, went_gone}
use Rattle.pm_next.proofs.sources.stale.Goals as goal

pub returns-in_default : goal.returns-in_default
returns-in_default g c = no_set (view c.args.parts.now) c.args.car (not_at_car set_of c.args.parts.now.links c.args.car (sym c.in_default.ensures))

pub returns-in_default-get : goal.returns-in_default-get
returns-in_default-get g c = no_car (view c.args.parts.now) c.args.car (λ slot. no_slot c.args.parts.now.cars (record { car = c.args.car; slot = slot }) c.in_default-get.ensures)

pub returns-in_default-least_moved : goal.returns-in_default-least_moved
returns-in_default-least_moved g c =
    let set = c.in-Some.links.now.set in
    let slots = c.in-Some-get.held.now.car.car.slots in
    fix_none (view c.args.parts.now) c.args.car set slots
    (at_car set_of c.args.parts.now.links c.args.car c.in-Some.links.now (sym c.in-Some.ensures))
    (λ slot. slot_there c.args.parts.now.cars (record { car = c.args.car; slot = slot }) c.in-Some-get.held.now c.in-Some-get.ensures)
    (c.in_default-least_moved.ensures ∙ ap (λ es. first_that (λ _ slot. is_moved es slot) set) c.slots.ensures)

pub returns-in-Moved : goal.returns-in-Moved
returns-in-Moved g c =
    let set = c.in-Some.links.now.set in
    let slots = c.in-Some-get.held.now.car.car.slots in
    fix_some (view c.args.parts.now) c.args.car set slots
    (at_car set_of c.args.parts.now.links c.args.car c.in-Some.links.now (sym c.in-Some.ensures))
    (λ slot. slot_there c.args.parts.now.cars (record { car = c.args.car; slot = slot }) c.in-Some-get.held.now c.in-Some-get.ensures)
    c.in-Some-least_moved.found (Some c.in-Moved.to)
    (c.in-Some-least_moved.ensures ∙ ap (λ es. first_that (λ _ slot. is_moved es slot) set) c.slots.ensures)
    (went_moved (get slots c.in-Some-least_moved.found.1) c.in-Moved.to c.in-Moved.ensures.look)

pub returns-in-Live : goal.returns-in-Live
returns-in-Live g c =
    let set = c.in-Some.links.now.set in
    let slots = c.in-Some-get.held.now.car.car.slots in
    fix_some (view c.args.parts.now) c.args.car set slots
    (at_car set_of c.args.parts.now.links c.args.car c.in-Some.links.now (sym c.in-Some.ensures))
    (λ slot. slot_there c.args.parts.now.cars (record { car = c.args.car; slot = slot }) c.in-Some-get.held.now c.in-Some-get.ensures)
    c.in-Some-least_moved.found None
    (c.in-Some-least_moved.ensures ∙ ap (λ es. first_that (λ _ slot. is_moved es slot) set) c.slots.ensures)
    (went_live (get slots c.in-Some-least_moved.found.1) c.in-Live.ensures.look)

pub returns-in-Gone : goal.returns-in-Gone
returns-in-Gone g c =
    let set = c.in-Some.links.now.set in
    let slots = c.in-Some-get.held.now.car.car.slots in
    fix_some (view c.args.parts.now) c.args.car set slots
    (at_car set_of c.args.parts.now.links c.args.car c.in-Some.links.now (sym c.in-Some.ensures))
    (λ slot. slot_there c.args.parts.now.cars (record { car = c.args.car; slot = slot }) c.in-Some-get.held.now c.in-Some-get.ensures)
    c.in-Some-least_moved.found None
    (c.in-Some-least_moved.ensures ∙ ap (λ es. first_that (λ _ slot. is_moved es slot) set) c.slots.ensures)
    (went_gone (get slots c.in-Some-least_moved.found.1) c.in-Gone.ensures.look)
