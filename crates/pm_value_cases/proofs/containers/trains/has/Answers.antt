use Rattle.std.proofs.Common.{◌≡◌, get_or, ap, ◌∙◌}
use Rattle.pm_trains.specs.Trains.{empty_train, is_among}
use Rattle.pm_value_cases.proofs.ContainersLemmas.Standing.{cars_of}
use Rattle.pm_value_cases.proofs.containers.trains.has.Goals as goal

pub returns : goal.returns
returns c =
    let at = cars_of c.args.trains.now.trains c.args.place c.nth-train.result (empty_train 0) c.sound.ensures.rising c.requires c.nth-train.ensures.train in
    let held = c.cars.ensures in
    let same : c.cars.result.now ≡ (get_or c.args.trains.now.trains c.args.place (empty_train 0)).cars = cc in
    c.contains.ensures.value ∙ ap (is_among c.args.car) same
