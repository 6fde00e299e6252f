use Rattle.std.proofs.Common.{arith, rules}
use Rattle.std.proofs.lemmas.Grind.{common_steps}
use Rattle.pm_trains.proofs.Homes.{none_noted}
use Rattle.pm_trains.proofs.trains.Trains.expecting.Goals as goal

pub invariant_of-result : goal.invariant_of-result
invariant_of-result c =
    record {
      sound = grind (arith, common_steps);
      housed = λ q. let none = none_noted c.expecting.result q c.expecting.ensures in search (rules, none);
    }
