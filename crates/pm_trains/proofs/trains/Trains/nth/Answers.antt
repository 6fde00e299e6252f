use Rattle.std.proofs.Common.{ap, ◌∙◌}
use Rattle.pm_trains.specs.Trains.{Train}
use Rattle.pm_trains.proofs.Found.{stands_there}
use Rattle.pm_trains.proofs.trains.Trains.nth.Goals as goal

pub returns-clause-stands : goal.returns-clause-stands
returns-clause-stands c =
    let inside = rw (← c.self.view_is) at c.requires in
    rw (← c.self.view_is) (stands_there 0 c.self.inside.trains.items c.args.place c.number.result c.index.result.now c.self.invariant.sound.rising inside (c.number.ensures ∙ ap (λ (t : Train). t.number) c.index.ensures))
