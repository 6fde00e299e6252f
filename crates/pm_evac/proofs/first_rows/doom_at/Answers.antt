use Rattle.std.proofs.Common.{refl}
use Rattle.pm_types.specs.declared.event.Step.TheVariants as steps
use Rattle.pm_view.specs.declared.phase.Phase.TheVariants.{Doomed}
use Rattle.pm_view.specs.Events.{doom}
use Rattle.pm_space.specs.Shown.{view}
use Rattle.pm_evac.proofs.Chosen.{made}
use Rattle.pm_evac.proofs.first_rows.doom_at.Goals as goal

pub returns-clause-event : goal.returns-clause-event
returns-clause-event g c =
    let v = view c.args.parts.now in
    made g.F.Fn c.args.parts.now.place v 0 _ (steps.Doomed c.args.train) (doom c.args.train) 0 c.requires tt tt
    (λ i. record v { anchor = c.clear.ensures i; phase = Doomed c.args.train }) refl
