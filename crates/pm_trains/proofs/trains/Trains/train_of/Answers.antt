use Rattle.std.proofs.Common.{sym, ◌∙◌}
use Rattle.pm_trains.proofs.Found.{home_has}
use Rattle.pm_trains.proofs.trains.Trains.train_of.Goals as goal

pub returns-clause-car : goal.returns-clause-car
returns-clause-car c =
    rw (← c.self.view_is) (home_has 0 c.args.car c.in-Some.train.now c.self.inside.trains.items c.self.invariant.sound.rising (sym (c.self.invariant.housed c.args.car) ∙ sym c.in-Some.ensures))
