use Rattle.std.proofs.Common.{arith, ◌<◌, length}
use Rattle.pm_trains.specs.Trains.{empty_train}
use Rattle.pm_space.specs.Shown.{view}
use Rattle.pm_save.proofs.ListLemmas.{trains_more}
use Rattle.pm_save.proofs.listed_cars.plan_cars.Goals as goal

pub loop-place-preserved : goal.loop-place-preserved
loop-place-preserved g c =
    let ts = c.args.parts.now.trains.trains in
    let i = c.loop-place.place in
    let inside : i < length ts = omega (arith, c.loop-place-test.true, c.len-place-end.ensures.len) in
    trains_more (view c.args.parts.now) c.args.settled.now ts i c.nth-train.result (empty_train 0) c.loop-place.cars.items c.plan_train.new.cars.items c.sound.ensures.rising inside
    c.nth-train.ensures.train c.loop-place.invariant c.in_ok-plan_train.ensures
