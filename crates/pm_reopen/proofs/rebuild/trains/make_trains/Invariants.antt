use Rattle.std.proofs.Common.{◌≡◌, drop, IsSome, None}
use Rattle.pm_trains.specs.Trains.{HasCar, youngest, first_trains}
use Rattle.pm_reopen.specs.Rebuild.Trains.{with_all_kept, HaveOwnNumbers, AreNew}
use Rattle.pm_reopen.proofs.RebuildLemmas.TrainLaws.{places}
use Rattle.pm_reopen.proofs.rebuild.trains.make_trains.Given as goal

abbrev pub invariant-loop-one : goal.invariant-loop-one
invariant-loop-one l = record {
  so_far : with_all_kept l.last (places (drop l.one-index l.cars)) l.trains ≡ with_all_kept None (places l.cars) first_trains;
  has : IsSome l.last → HasCar l.trains.trains (youngest l.trains.trains);
  apart : HaveOwnNumbers (places (drop l.one-index l.cars));
  are_new : AreNew l.trains.trains (places (drop l.one-index l.cars));
}
