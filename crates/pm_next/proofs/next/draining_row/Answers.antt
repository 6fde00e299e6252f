use Rattle.std.proofs.Common.{◌≡◌, None, IsSome, sym, subst}
use Rattle.pm_trains.specs.Trains.{cars_at, first_car}
use Rattle.pm_view.specs.Events.{draining_row, row_in, to_note}
use Rattle.pm_space.specs.declared.parts.Parts.{Parts}
use Rattle.pm_space.specs.Shown.{view}
use Rattle.pm_next.specs.Seen.{seen_row}
use Rattle.pm_next.proofs.Drained.{drained_stands}
use Rattle.pm_next.proofs.next.draining_row.Goals as goal

pub drained_row-requires-clause-stands : goal.drained_row-requires-clause-stands
drained_row-requires-clause-stands g c =
    subst (λ (p : Parts g.row.F.Denot). IsSome (cars_at p.trains.trains c.args.train)) (sym c.changed_car.ensures.parts) (drained_stands (view c.args.space.now.parts) c.args.space.now.kept c.args.train c.requires)

pub returns-in-None-clause-row : goal.returns-in-None-clause-row
returns-in-None-clause-row g c =
    let v = view c.args.space.now.parts in
    subst (λ p. seen_row c.drained_row.result ≡ row_in v p) (sym c.requires)
    (subst (λ o. seen_row c.drained_row.result ≡ draining_row c.args.train (first_car v.trains.trains c.args.train) o (to_note v c.args.train)) c.in-None.ensures.car
    (subst (λ (p : Parts g.row.F.Denot). seen_row c.drained_row.result ≡ draining_row c.args.train (first_car p.trains.trains c.args.train) None (to_note (view p) c.args.train)) c.changed_car.ensures.parts c.drained_row.ensures))
