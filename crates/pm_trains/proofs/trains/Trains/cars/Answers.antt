use Rattle.pm_trains.proofs.Numbers.{cars_read}
use Rattle.pm_trains.proofs.trains.Trains.cars.Goals as goal

pub returns : goal.returns
returns c =
    let at = c.in-Some.ensures in
    rw (← c.self.view_is, c.cars.ensures) (cars_read 0 c.self.inside.trains.items c.args.train c.in-Some.place c.index.result.now c.self.invariant.sound.rising at c.index.ensures)
