use Rattle.std.proofs.Common.{sym, subst}
use Rattle.pm_trains.specs.Trains.{youngest, rotated}
use Rattle.pm_view.specs.View.{SpaceView}
use Rattle.pm_space.specs.Shown.{view, in_new_train}
use Rattle.pm_space.specs.Places.{FitsIn}
use Rattle.pm_space.proofs.Places.{fits_opened}
use Rattle.pm_mutate.proofs.births.placing.place_in_new_train.Goals as goal

pub returns-clause-fits : goal.returns-clause-fits
returns-clause-fits g c =
    let v = view c.args.parts.now in
    subst (λ (v : SpaceView). FitsIn v.cars c.in_ok-car.car c.args.room) (sym c.in_ok-car.ensures.ok)
    (fits_opened (in_new_train v) (youngest (rotated v.trains.trains)) c.in_ok-car.car c.args.room c.requires.small)
