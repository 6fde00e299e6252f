use Rattle.std.proofs.Common.{◌<◌, length, sym, ap, ◌∙◌, rules}
use Rattle.std.specs.FinMap.{entries}
use Rattle.pm_image.specs.declared.car.CarImage.{CarImage}
use Rattle.pm_image.specs.declared.settled.KeptPage.{KeptPage}
use Rattle.pm_save.proofs.WriterLemmas.PlaceLemmas.{first_within, placed_clean, placed_dirty, placed_new}
use Rattle.pm_save.proofs.clean.place_of.Goals as goal

pub offset_bounds-settled-place : goal.offset_bounds-settled-place
offset_bounds-settled-place c =
    let inside : c.in-Some.place.now < length c.args.settled.now = first_within c.args.number c.args.settled.now c.in-Some.place.now (sym (c.requires c.args.number) ∙ sym c.in-Some.ensures.value) in
    search (rules, inside)

pub bounds-settled-place : goal.bounds-settled-place
bounds-settled-place c = first_within c.args.number c.args.settled.now c.in-Some.place.now (sym (c.requires c.args.number) ∙ sym c.in-Some.ensures.value)

pub returns-then-has_slots-clause-placed : goal.returns-then-has_slots-clause-placed
returns-then-has_slots-clause-placed c =
    placed_clean c.args.number (entries c.args.car.now.car.slots) c.args.settled.now c.in-Some.place.now c.index-settled-place.result (sym (c.requires c.args.number) ∙ sym c.in-Some.ensures.value)
    (sym c.slots.ensures ∙ c.has_slots.ensures.0 c.if-has_slots.true ∙ ap (λ (car : CarImage). car.slots) c.car.ensures ∙ ap (λ (kept : KeptPage). kept.image.slots) c.index-settled-place.is)

pub returns-then-has_slots-clause-within : goal.returns-then-has_slots-clause-within
returns-then-has_slots-clause-within c = first_within c.args.number c.args.settled.now c.in-Some.place.now (sym (c.requires c.args.number) ∙ sym c.in-Some.ensures.value)

pub returns-else-has_slots-clause-placed : goal.returns-else-has_slots-clause-placed
returns-else-has_slots-clause-placed c =
    placed_dirty c.args.number (entries c.args.car.now.car.slots) c.args.settled.now c.in-Some.place.now c.index-settled-place.result (sym (c.requires c.args.number) ∙ sym c.in-Some.ensures.value)
    (λ same. let is = c.has_slots.ensures.1 (c.slots.ensures ∙ same ∙ ap (λ (kept : KeptPage). kept.image.slots) (sym c.index-settled-place.is) ∙ ap (λ (car : CarImage). car.slots) (sym c.car.ensures)) in let not = c.if-has_slots.false in cc)

pub returns-in-None-clause-placed : goal.returns-in-None-clause-placed
returns-in-None-clause-placed c = placed_new c.args.number (entries c.args.car.now.car.slots) c.args.settled.now (sym (c.requires c.args.number) ∙ sym c.in-None.ensures.value)
