use Rattle.std.proofs.Common.{List, [], ◌∷◌, ◌++◌, take, get_or, subst, sym, ap, refl, ◌∙◌}
use Rattle.pm_image.specs.Graphs.{images_of}
use Rattle.pm_copies.specs.Listed.{Listed}
use Rattle.pm_save.specs.declared.progress.place.PlacedCar.{PlacedCar}
use Rattle.pm_save.specs.Writer.Planned.{IsPlanned}
use Rattle.pm_save.proofs.WriterLemmas.PlanLemmas.{planned_behind}
use Rattle.pm_ship.specs.Listing.{with_trains}
use Rattle.pm_ship.proofs.ListLemmas.{trains_more}
use Rattle.pm_ship.proofs.placed_cars.place_cars.Goals as goal

pub loop-index-preserved : goal.loop-index-preserved
loop-index-preserved c =
    let i = c.loop-index.index in
    let d = c.index-cars-index.result in
    let settled = c.args.settled.now in
    let image = (get_or c.args.cars.now i d).image in
    let train = get_or c.args.trains.now i 0 in
    let place = c.place_of-place.result in
    let one : PlacedCar = record { train = train; number = image.number; place = place } in
    let behind = planned_behind settled (with_trains (take i c.args.trains.now) (images_of (take i c.args.cars.now))) c.loop-index.placed.items (train, image) one c.loop-index.invariant refl refl
    c.place_of-place.ensures.placed c.place_of-place.ensures.within (record { train = c.planned.ensures.train; number = c.planned.ensures.number }) in
    subst (λ (ls : List Listed). IsPlanned settled ls c.push.new.self.items) (sym (trains_more c.args.trains.now c.args.cars.now i 0 d c.loop-index-test.true c.requires.paired))
    (subst (IsPlanned settled (with_trains (take i c.args.trains.now) (images_of (take i c.args.cars.now)) ++ (train, image) ∷ [])) (sym {A = List PlacedCar} (c.in_ok-push.ensures.items ∙ ap (λ (it : PlacedCar). c.loop-index.placed.items ++ it ∷ []) c.planned.ensures.planned)) behind)
