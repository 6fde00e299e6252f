use Rattle.std.proofs.Common.{refl}
use Rattle.pm_types.specs.declared.event.Step.TheVariants.{Selected}
use Rattle.pm_view.specs.Events.{select}
use Rattle.pm_law_collect.proofs.PhasesLemmas.Comes.{comes_where}
use Rattle.pm_law_collect.proofs.PhasesLemmas.PhaseRows.{oldest_has}
use Rattle.pm_space.specs.Shown.{view}
use Rattle.pm_evac.proofs.Chosen.{made}
use Rattle.pm_evac.proofs.first_rows.select_at.Goals as goal

pub select_train-requires : goal.select_train-requires
select_train-requires g c =
    let v = view c.args.parts.now in
    oldest_has 0 c.args.train v.trains.trains c.requires.law.built.trains.rising (comes_where v (select c.args.train) c.requires.row).oldest

pub returns : goal.returns
returns g c =
    let w = view c.select_train.new.parts in record {
      row = record {
        ok = made g.F.Fn c.args.parts.now.place (view c.args.parts.now) 0 w (Selected c.args.train) (select c.args.train) 0 c.requires.row tt tt c.in_ok-select_train.ensures.ok refl;
        err = tt;
        rest = c.in_ok-select_train.ensures.rest;
      };
    }
