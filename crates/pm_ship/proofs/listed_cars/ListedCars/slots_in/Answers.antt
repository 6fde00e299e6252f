use Rattle.std.proofs.Common.{List, ◌<◌, length, get_or, sym, ap, subst, ◌∙◌, rules}
use Rattle.std.specs.FinMap.{get}
use Rattle.pm_image.specs.declared.settled.KeptPage.{KeptPage}
use Rattle.pm_saving.specs.Progress.{slots_of}
use Rattle.pm_save.proofs.WriterLemmas.PlaceLemmas.{first_within}
use Rattle.pm_ship.specs.Cars.{cars_kept}
use Rattle.pm_ship.proofs.CarLemmas.{slots_none, slots_there}
use Rattle.pm_ship.proofs.listed_cars.ListedCars.slots_in.Goals as goal

pub offset_bounds-as_slice-place : goal.offset_bounds-as_slice-place
offset_bounds-as_slice-place c =
    let there : c.in-Some.place.now < length c.as_slice.result.now =
    subst (λ (cars : List KeptPage). c.in-Some.place.now < length cars) (sym c.as_slice.ensures) (first_within c.args.number c.self.inside.cars c.in-Some.place.now (sym (c.self.invariant.1 c.args.number) ∙ sym c.in-Some.ensures.value)) in
    search (rules, there)

pub bounds-as_slice-place : goal.bounds-as_slice-place
bounds-as_slice-place c =
    subst (λ (cars : List KeptPage). c.in-Some.place.now < length cars) (sym c.as_slice.ensures) (first_within c.args.number c.self.inside.cars c.in-Some.place.now (sym (c.self.invariant.1 c.args.number) ∙ sym c.in-Some.ensures.value))

pub returns-in-Some : goal.returns-in-Some
returns-in-Some c =
    let d = c.index-as_slice-place.result in
    c.as_slice-in-Some.ensures
    ∙ ap (λ (kept : KeptPage). kept.image.slots) (c.index-as_slice-place.is ∙ ap (λ (cars : List KeptPage). get_or cars c.in-Some.place.now d) c.as_slice.ensures)
    ∙ slots_there c.self.inside.cars c.args.number c.in-Some.place.now d c.self.invariant.0 (sym (c.self.invariant.1 c.args.number) ∙ sym c.in-Some.ensures.value)
    ∙ ap (λ (cars : List KeptPage). slots_of (get (cars_kept cars) c.args.number)) c.self.view_is

pub returns-in-None : goal.returns-in-None
returns-in-None c =
    slots_none c.self.inside.cars c.args.number (sym (c.self.invariant.1 c.args.number) ∙ sym c.in-None.ensures.value)
    ∙ ap (λ (cars : List KeptPage). slots_of (get (cars_kept cars) c.args.number)) c.self.view_is
