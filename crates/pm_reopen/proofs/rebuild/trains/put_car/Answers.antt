use Rattle.std.proofs.Common.{sym, subst}
use Rattle.pm_trains.specs.Trains.{Trains, HasCar, youngest}
use Rattle.pm_reopen.proofs.RebuildLemmas.TrainLaws.{opened_has}
use Rattle.pm_reopen.proofs.rebuild.trains.put_car.Goals as goal

pub returns-clause-has : goal.returns-clause-has
returns-clause-has c = subst (λ (t : Trains). HasCar t.trains (youngest t.trains)) (sym c.in_ok-append_new.ensures.ok) (opened_has c.args.trains.now c.args.car)
