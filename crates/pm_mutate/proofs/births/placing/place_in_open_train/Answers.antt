use Rattle.std.proofs.Common.{sym, ap, subst, ◌∙◌}
use Rattle.pm_trains.specs.Trains.{youngest}
use Rattle.pm_view.specs.View.{SpaceView}
use Rattle.pm_view.specs.Rows.{tail_for}
use Rattle.pm_space.specs.Shown.{view}
use Rattle.pm_space.proofs.OpenedCars.{lowest_vacant}
use Rattle.pm_space.specs.Places.{FitsIn, with_place, place_of}
use Rattle.pm_space.proofs.Places.{fits_opened}
use Rattle.pm_mutate.proofs.births.placing.place_in_open_train.Goals as goal

pub returns-in_ok-prepare-in-Some-clause-place : goal.returns-in_ok-prepare-in-Some-clause-place
returns-in_ok-prepare-in-Some-clause-place g c =
    let v = view c.args.parts.now in
    let number = c.vacant-number.result in
    let tail = c.in-Some.ensures.tail ∙ ap (λ train. tail_for v train c.args.room) c.youngest-train.ensures.train in
    record {
      number = number;
      vacant = lowest_vacant c.args.parts.now.cars number c.vacant-number.ensures;
      space = c.prepare.ensures.view ∙ ap (λ o. with_place v (youngest v.trains.trains) o number) tail;
      place = ap (λ o. place_of o number) tail;
    }

pub returns-in_ok-car-in-None-clause-fits : goal.returns-in_ok-car-in-None-clause-fits
returns-in_ok-car-in-None-clause-fits g c =
    subst (λ (v : SpaceView). FitsIn v.cars c.in_ok-car-in-None.car c.args.room) (sym c.in_ok-car-in-None.ensures.ok)
    (fits_opened (view c.args.parts.now) c.youngest-train.result c.in_ok-car-in-None.car c.args.room c.requires.small)
