use Rattle.std.proofs.Common.{sym, ap, ◌∙◌}
use Rattle.std.specs.List as list
use Rattle.std.specs.Option.{option_map, option_and_then}
use Rattle.std.specs.FinMap.{entries}
use Rattle.pm_cars.specs.Cars.{Car}
use Rattle.pm_cars.specs.Entries.{holds_object}
use Rattle.pm_space.proofs.HeldCars.{get_car}
use Rattle.pm_next.proofs.Lowest.{lowest_is}
use Rattle.pm_next.proofs.finding.lowest_live.Goals as goal

pub returns-in-Some : goal.returns-in-Some
returns-in-Some g c =
    lowest_is c.in-Some.held.now.car.car _ c.lowest_live.ensures
    ∙ sym (ap (option_and_then (λ (it : Car). option_map (λ e. e.0) (list.find (λ e. holds_object e.1) (entries it.slots)))) (get_car c.args.parts.now.cars c.args.car _ c.in-Some.ensures))

pub returns-in-None : goal.returns-in-None
returns-in-None g c =
    sym (ap (option_and_then (λ (it : Car). option_map (λ e. e.0) (list.find (λ e. holds_object e.1) (entries it.slots)))) (get_car c.args.parts.now.cars c.args.car _ c.in-None.ensures))
