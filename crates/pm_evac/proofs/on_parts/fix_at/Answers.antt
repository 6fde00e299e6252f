use Rattle.std.proofs.Common.{refl}
use Rattle.pm_types.specs.declared.event.Step.TheVariants.{Fixed}
use Rattle.pm_view.specs.Events.{fix}
use Rattle.pm_law_collect.proofs.PhasesLemmas.Comes.{comes_where}
use Rattle.pm_space.specs.Shown.{view}
use Rattle.pm_evac.proofs.Chosen.{made}
use Rattle.pm_evac.proofs.Lawful.{remembered_there, remembers, stale_held, emptied_kept}
use Rattle.pm_evac.proofs.on_parts.fix_at.Goals as goal

pub fix-requires-clause-there : goal.fix-requires-clause-there
fix-requires-clause-there g c =
    let v = view c.args.parts.now in
    let is = comes_where v (fix c.args.car c.args.source c.args.to) c.requires.row in
    let held = stale_held v c.args.car c.args.source c.args.to is.goes in
    remembered_there v c.args.car c.args.source held.0 c.requires.law (emptied_kept v c.args.car is.moving) is.applied held.1

pub fix-requires-clause-car : goal.fix-requires-clause-car
fix-requires-clause-car g c =
    let v = view c.args.parts.now in
    let held = stale_held v c.args.car c.args.source c.args.to (comes_where v (fix c.args.car c.args.source c.args.to) c.requires.row).goes in
    remembers v c.args.car c.args.source held.0 held.1

pub returns : goal.returns
returns g c =
    let w = view c.fix.new.parts in record {
      row = record {
        ok = made g.F.Fn c.args.parts.now.place (view c.args.parts.now) 0 w (Fixed c.args.car) (fix c.args.car c.args.source c.args.to) 0 c.requires.row tt tt c.in_ok-fix.ensures.ok refl;
        err = tt;
        rest = c.in_ok-fix.ensures.rest;
      };
    }
