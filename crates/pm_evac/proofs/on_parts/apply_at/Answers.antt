use Rattle.std.proofs.Common.{refl}
use Rattle.pm_types.specs.declared.event.Step.TheVariants.{Applied}
use Rattle.pm_view.specs.Events.{apply}
use Rattle.pm_space.specs.Shown.{view}
use Rattle.pm_evac.proofs.Chosen.{made}
use Rattle.pm_evac.proofs.on_parts.apply_at.Goals as goal

pub returns : goal.returns
returns g c =
    let w = view c.apply.new.parts in record {
      row = record {
        ok = made g.F.Fn c.args.parts.now.place (view c.args.parts.now) 0 w (Applied c.args.car) (apply c.args.car) 0 c.requires tt tt c.in_ok-apply.ensures.ok refl;
        err = tt;
        rest = c.in_ok-apply.ensures.rest;
      };
    }
