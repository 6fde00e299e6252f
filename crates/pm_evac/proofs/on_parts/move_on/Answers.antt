use Rattle.std.proofs.Common.{ap}
use Rattle.pm_types.specs.declared.event.Step.TheVariants.{Moved}
use Rattle.pm_view.specs.Events.{move_on}
use Rattle.pm_law_collect.proofs.PhasesLemmas.Comes.{comes_where}
use Rattle.pm_space.specs.Shown.{view}
use Rattle.pm_space.proofs.OpenedCars.{lowest_vacant}
use Rattle.pm_evac.proofs.Chosen.{made}
use Rattle.pm_evac.proofs.MoveRows.{may_move_on}
use Rattle.pm_evac.proofs.on_parts.move_on.Goals as goal

pub relocate-requires : goal.relocate-requires
relocate-requires g c =
    let v = view c.args.parts.now in
    let vacant = lowest_vacant c.args.parts.now.cars c.vacant-number.result c.vacant-number.ensures in
    let may = may_move_on v c.requires.law c.args.at c.args.train c.vacant-number.result vacant (comes_where v (move_on c.args.at c.args.train) c.requires.row) in
    record { law = c.requires.law; moving = may.moving; live = may.live; train = may.stands; apart = may.apart }

pub returns : goal.returns
returns g c =
    let w = view c.relocate.new.parts in
    let moved = c.in_ok-id.ensures.ok in record {
      row = record {
        ok = made g.F.Fn c.args.parts.now.place (view c.args.parts.now) 0 w (Moved c.in_ok-id.id c.args.train) (move_on c.args.at c.args.train) moved.number c.requires.row tt moved.vacant
            moved.after (ap (λ id. Moved id c.args.train) c.in_ok-id.ensures.id);
        err = tt;
        rest = c.in_ok-id.ensures.rest;
      };
    }
