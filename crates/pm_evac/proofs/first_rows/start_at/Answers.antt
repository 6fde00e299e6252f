use Rattle.std.proofs.Common.{ap}
use Rattle.pm_types.specs.declared.event.Step.TheVariants.{Started}
use Rattle.pm_view.specs.View.{SpaceView}
use Rattle.pm_view.specs.declared.phase.Phase.TheVariants.{Moving}
use Rattle.pm_view.specs.Collecting.{started}
use Rattle.pm_view.specs.Events.{start}
use Rattle.pm_space.specs.Shown.{view}
use Rattle.pm_evac.proofs.Chosen.{made}
use Rattle.pm_evac.proofs.first_rows.start_at.Goals as goal

pub note-requires-clause-some : goal.note-requires-clause-some
note-requires-clause-some g c = c.there_is_a_train_to_pick.ensures.noted (view c.args.parts.now) c.args.car c.args.at c.requires.law c.requires.row

pub returns : goal.returns
returns g c =
    let v = view c.args.parts.now in
    let noted = c.in_ok-anchored.ensures.row.ok in
    let then : SpaceView = started v c.args.car c.args.at noted.picked in record {
      row = record {
        ok = made g.F.Fn c.args.parts.now.place v noted.picked _ (Started c.args.car c.in_ok-anchored.anchored) (start c.args.car c.args.at) 0 c.requires.row noted.chosen tt
            (λ i. record (noted.after i) { phase = Moving c.args.car }) (ap (Started c.args.car) noted.answer);
        err = tt;
        rest = record { frozen = c.in_ok-anchored.ensures.row.rest.frozen; place = c.in_ok-anchored.ensures.row.rest.place };
      };
    }
