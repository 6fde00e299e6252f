use Rattle.std.proofs.Common.{ℕ, ap, ◌∙◌}
use Rattle.std.specs.FinMap.{get, insert}
use Rattle.pm_snap.specs.Snapped.{Snapped}
use Rattle.pm_space.specs.declared.held.Held.{Held}
use Rattle.pm_space.specs.Shown.{cars_of}
use Rattle.pm_reopen.proofs.RebuildLemmas.LinkLaws.{not_held, held_more}
use Rattle.pm_reopen.proofs.rebuild.linking.put_car.Goals as goal

pub add_at-added-requires-clause-unused : goal.add_at-added-requires-clause-unused
add_at-added-requires-clause-unused c = ap (λ (n : ℕ). get c.args.table.now.current n) c.number-number.ensures ∙ not_held c.args.table.now c.args.car.car.number c.requires.is_new

pub returns-clause-cars : goal.returns-clause-cars
returns-clause-cars c =
    let car = c.args.car.car in
    ap (λ (t : Snapped Held). cars_of t) c.in-Ok.ensures.ok
    ∙ held_more c.args.table.now c.number-number.result (record { car = c.args.car })
    ∙ ap (λ (n : ℕ). insert (cars_of c.args.table.now) n car) c.number-number.ensures
