use Rattle.std.proofs.Common.{◌<◌, ◌≤◌, arith, sym, subst, Some, None, get_or, length, List, ap}
use Rattle.pm_cars.specs.Cars.{CarAndSpare, IsLowestLive}
use Rattle.pm_cars.specs.Entries.{Entry}
use Rattle.pm_cars.proofs.Places.{blank}
use Rattle.pm_cars.proofs.Kept.{lowest_some, lowest_none}
use Rattle.pm_cars.proofs.car.Car.lowest_live.Goals as goal

pub returns-then-self-entries : goal.returns-then-self-entries
returns-then-self-entries c =
    let inside = c.self.inside in
    let within : inside.first < length inside.entries.items = omega (arith, ap length c.as_slice-entries.ensures) in
    let e = c.index-entries-self.result in
    let found = lowest_some _ _ _ _ _ _ _ c.self.invariant inside.number e within in
    subst (λ (es : List Entry). IsLowestLive c.args.self.now.car (Some (get_or es inside.first e).0)) (sym c.as_slice-entries.ensures)
    (subst (λ (it : CarAndSpare). IsLowestLive it.car (Some (get_or inside.entries.items inside.first e).0)) c.self.view_is found)

pub returns-else-self-entries : goal.returns-else-self-entries
returns-else-self-entries c =
    let inside = c.self.inside in
    let end : length inside.entries.items ≤ inside.first = omega (arith, ap length c.as_slice-entries.ensures) in
    subst (λ (it : CarAndSpare). IsLowestLive it.car None) c.self.view_is (lowest_none _ _ _ _ _ _ _ c.self.invariant inside.number blank end)
