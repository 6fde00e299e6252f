use Rattle.std.proofs.Common.{refl}
use Rattle.pm_types.specs.declared.event.Step.TheVariants.{Finished}
use Rattle.pm_view.specs.Events.{finish}
use Rattle.pm_space.specs.Shown.{view}
use Rattle.pm_evac.proofs.Chosen.{made}
use Rattle.pm_evac.proofs.on_parts.finish_at.Goals as goal

pub returns-clause-event : goal.returns-clause-event
returns-clause-event g c =
    let w = view c.finish.new.parts in
    made g.F.Fn c.args.parts.now.place (view c.args.parts.now) 0 w (Finished c.args.car) (finish c.args.car) 0 c.requires tt tt c.finish.ensures.view refl
