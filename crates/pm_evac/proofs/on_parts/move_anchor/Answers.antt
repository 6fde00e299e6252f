use Rattle.std.proofs.Common.{ap}
use Rattle.pm_types.specs.declared.event.Step.TheVariants.{Moved}
use Rattle.pm_view.specs.Events.{move_anchor, after}
use Rattle.pm_law_collect.proofs.PhasesLemmas.Comes.{comes_where}
use Rattle.pm_space.specs.Shown.{view}
use Rattle.pm_space.proofs.OpenedCars.{lowest_vacant}
use Rattle.pm_evac.proofs.Chosen.{made}
use Rattle.pm_evac.proofs.MoveRows.{may_move_anchor}
use Rattle.pm_evac.proofs.on_parts.move_anchor.Goals as goal

pub relocate-requires : goal.relocate-requires
relocate-requires g c =
    let v = view c.args.parts.now in
    let vacant = lowest_vacant c.args.parts.now.cars c.vacant-number.result c.vacant-number.ensures in
    let may = may_move_anchor v c.requires.law c.args.at c.args.train c.vacant-number.result vacant (comes_where v (move_anchor c.args.at c.args.train) c.requires.row) in
    record { law = c.requires.law; moving = may.moving; live = may.live; train = may.stands; apart = may.apart }

pub returns : goal.returns
returns g c =
    let v = view c.args.parts.now in
    let moved = c.in_ok-id.ensures.ok in
    let then = after v 0 moved.number (move_anchor c.args.at c.args.train) in record {
      row = record {
        ok = made g.F.Fn c.args.parts.now.place v 0 _ (Moved c.in_ok-id.id c.args.train) (move_anchor c.args.at c.args.train) moved.number c.requires.row tt moved.vacant
            (λ i. record (moved.after i) { anchor = c.clear.ensures i }) (ap (λ id. Moved id c.args.train) c.in_ok-id.ensures.id);
        err = tt;
        rest = record { frozen = c.in_ok-id.ensures.rest.frozen; place = c.in_ok-id.ensures.rest.place };
      };
    }
