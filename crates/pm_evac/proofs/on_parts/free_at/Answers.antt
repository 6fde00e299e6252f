use Rattle.std.proofs.Common.{refl, true, sym, ap, ◌∙◌}
use Rattle.std.specs.Option.{unwrap_or}
use Rattle.pm_types.specs.declared.event.Step.TheVariants.{Freed}
use Rattle.pm_view.specs.Events.{free}
use Rattle.pm_law_collect.proofs.PhasesLemmas.Comes.{comes_where}
use Rattle.pm_space.specs.Shown.{view}
use Rattle.pm_evac.specs.Relocate.Changed.{freed}
use Rattle.pm_evac.proofs.Chosen.{made}
use Rattle.pm_evac.proofs.Lawful.{swept_home}
use Rattle.pm_evac.proofs.on_parts.free_at.Goals as goal

pub train_of-train-requires : goal.train_of-train-requires
train_of-train-requires g c =
    let v = view c.args.parts.now in
    swept_home v c.requires.law c.args.car (comes_where v (free c.args.car) c.requires.row).sweeping

pub returns : goal.returns
returns g c =
    let v = view c.args.parts.now in record {
      row = record {
        ok = made g.F.Fn c.args.parts.now.place v 0 (view c.free.new.parts) (Freed c.args.car true) (free c.args.car) 0 c.requires.row tt tt
            (c.in_ok-free.ensures.ok ∙ ap (λ o. freed v (unwrap_or o 0) c.args.car true) (sym c.train_of-train.ensures.train)) refl;
        err = tt;
        rest = c.in_ok-free.ensures.rest;
      };
    }
