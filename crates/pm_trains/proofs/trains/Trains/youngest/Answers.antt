use Rattle.std.proofs.Common.{◌-◌, ◌<◌, length, ap, ◌∙◌, arith}
use Rattle.pm_trains.specs.Trains.{Train}
use Rattle.pm_trains.proofs.Numbers.{last_at}
use Rattle.pm_trains.proofs.Found.{stands_there}
use Rattle.pm_trains.proofs.trains.Trains.youngest.Goals as goal

pub returns-clause-train : goal.returns-clause-train
returns-clause-train c =
    let some = c.self.invariant.sound.standing in
    rw (← c.self.view_is)
    (c.number.ensures ∙ ap (λ (t : Train). t.number) c.index.ensures ∙ last_at 0 c.self.inside.trains.items (c.len.result - 1) c.index.result.now (omega (arith, c.len.ensures, some, c.self.inside.trains.ok.0)))

pub returns-clause-stands : goal.returns-clause-stands
returns-clause-stands c =
    let some = c.self.invariant.sound.standing in
    let inside : c.len.result - 1 < length c.self.inside.trains.items = omega (arith, c.len.ensures, some, c.self.inside.trains.ok.0) in
    rw (← c.self.view_is) (stands_there 0 c.self.inside.trains.items (c.len.result - 1) c.number.result c.index.result.now c.self.invariant.sound.rising inside (c.number.ensures ∙ ap (λ (t : Train). t.number) c.index.ensures))
