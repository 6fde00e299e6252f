use Rattle.std.proofs.Common.{ap, refl, subst, sym, ◌∙◌, ◌++◌, [], ◌∷◌, List, Some, None}
use Rattle.std.specs.FinMap.{entries}
use Rattle.std.proofs.lemmas.List.{append-nil}
use Rattle.pm_space.proofs.HeldCars.{get_car}
use Rattle.pm_space.specs.Shown.{view}
use Rattle.pm_copies.specs.Listed.{Listed}
use Rattle.pm_save.specs.declared.progress.place.PlacedCar.{PlacedCar}
use Rattle.pm_save.specs.Writer.Planned.{IsPlanned}
use Rattle.pm_save.proofs.ListLemmas.{listed_there}
use Rattle.pm_save.proofs.WriterLemmas.PlanLemmas.{planned_behind}
use Rattle.pm_save.proofs.listed_cars.plan_car.Goals as goal

pub returns-in-None : goal.returns-in-None
returns-in-None g c list had =
    let v = view c.args.parts.now in
    let none = listed_there v c.args.train c.args.number None (sym c.is_aside.ensures ∙ c.if-is_aside.false) (get_car c.args.parts.now.cars c.args.number None c.in-None.ensures) in
    subst (λ (ls : List Listed). IsPlanned c.args.settled.now ls c.args.cars.now.items) (sym (append-nil list) ∙ ap (λ (ls : List Listed). list ++ ls) (sym none)) had

pub returns-in_ok-push-in-Some : goal.returns-in_ok-push-in-Some
returns-in_ok-push-in-Some g c list had =
    let v = view c.args.parts.now in
    let there = listed_there v c.args.train c.args.number (Some c.in-Some.held.now.car.car) (sym c.is_aside.ensures ∙ c.if-is_aside.false) (get_car c.args.parts.now.cars c.args.number (Some c.in-Some.held.now) c.in-Some.ensures) in
    let one : PlacedCar = record { train = c.args.train; number = c.args.number; place = c.place_of-place.result } in
    let last : Listed = (c.args.train, record { number = c.args.number; slots = entries c.in-Some.held.now.car.car.slots }) in
    let behind = planned_behind c.args.settled.now list c.args.cars.now.items last one had refl refl c.place_of-place.ensures.placed c.place_of-place.ensures.within (record { train = c.ranges.train.fits; number = c.ranges.number.fits }) in
    subst (λ (ls : List Listed). IsPlanned c.args.settled.now (list ++ ls) c.push.new.self.items) (sym there)
    (subst (IsPlanned c.args.settled.now (list ++ last ∷ [])) (sym {A = List PlacedCar} c.in_ok-push-in-Some.ensures.items) behind)
