use Rattle.std.proofs.Common.{refl}
use Rattle.pm_types.specs.declared.event.Step.TheVariants.{Nothing}
use Rattle.pm_view.specs.Events.{nothing}
use Rattle.pm_space.specs.Shown.{view}
use Rattle.pm_evac.proofs.Chosen.{made}
use Rattle.pm_evac.proofs.on_parts.rest.Goals as goal

pub returns : goal.returns
returns g c =
    let v = view c.args.parts.now in
    made g.F.Fn c.args.parts.now.place v 0 v Nothing nothing 0 c.requires tt tt refl refl
