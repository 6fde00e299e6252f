use Rattle.std.proofs.Common.{ap}
use Rattle.pm_types.specs.declared.event.Step.TheVariants.{Swept}
use Rattle.pm_view.specs.Events.{sweep}
use Rattle.pm_law_collect.proofs.PhasesLemmas.Comes.{comes_where}
use Rattle.pm_space.specs.Shown.{view}
use Rattle.pm_evac.proofs.Chosen.{made}
use Rattle.pm_evac.proofs.Lawful.{lowest_lives}
use Rattle.pm_evac.proofs.on_parts.sweep_at.Goals as goal

pub sweep-requires-clause-live : goal.sweep-requires-clause-live
sweep-requires-clause-live g c =
    let v = view c.args.parts.now in
    lowest_lives v c.args.at.car c.args.at.slot (comes_where v (sweep c.args.at) c.requires.row).low

pub returns : goal.returns
returns g c =
    let w = view c.sweep.new.parts in record {
      row = record {
        ok = made g.F.Fn c.args.parts.now.place (view c.args.parts.now) 0 w (Swept c.in_ok-id.id) (sweep c.args.at) 0 c.requires.row tt tt c.in_ok-id.ensures.ok (ap Swept c.in_ok-id.ensures.id);
        err = tt;
        rest = c.in_ok-id.ensures.rest;
      };
    }
