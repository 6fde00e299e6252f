use Rattle.std.proofs.Common.{◌∙◌, subst}
use Rattle.pm_cars.specs.Cars.{object_room}
use Rattle.pm_view.specs.Rows.{with_open_train}
use Rattle.pm_space.specs.Shown.{view}
use Rattle.pm_mutate.specs.Births.Births.{IsOpenedFor}
use Rattle.pm_mutate.proofs.CommandsLemmas.Born.{born_so}
use Rattle.pm_mutate.proofs.births.bearing.be_born.Goals as goal

pub returns-clause-row : goal.returns-clause-row
returns-clause-row g c =
    let v = view c.args.parts.now in
    let w = view c.place_for.new.parts in
    let opened : IsOpenedFor (with_open_train v) (object_room c.args.object) w c.in_ok-car.car =
    subst (λ room. IsOpenedFor (with_open_train v) room w c.in_ok-car.car) c.room_of-room.ensures.room c.in_ok-car.ensures.place in
    record {
      ok = born_so v w c.in_ok-car.car c.args.object opened (view c.bear.new.parts) c.bear.result c.bear.ensures.view c.bear.ensures.place;
      err = tt;
      rest = record { frozen = c.bear.ensures.rest.frozen ∙ c.in_ok-car.ensures.rest.frozen; place = c.bear.ensures.rest.place ∙ c.in_ok-car.ensures.rest.place };
    }
