use Rattle.std.proofs.Common.{ap}
use Rattle.pm_types.specs.declared.event.Step.TheVariants.{Moved}
use Rattle.pm_view.specs.Events.{move_out}
use Rattle.pm_law_collect.proofs.PhasesLemmas.Comes.{comes_where}
use Rattle.pm_space.specs.Shown.{view}
use Rattle.pm_space.proofs.OpenedCars.{lowest_vacant}
use Rattle.pm_evac.proofs.Chosen.{among_picked, made}
use Rattle.pm_evac.proofs.MoveRows.{may_move_out}
use Rattle.pm_evac.proofs.on_parts.move_out.Goals as goal

pub pick_way-requires-clause-some : goal.pick_way-requires-clause-some
pick_way-requires-clause-some g c = c.there_is_a_train_to_pick.ensures.moved (view c.args.parts.now) c.args.at c.requires.law c.requires.row

pub relocate-requires : goal.relocate-requires
relocate-requires g c =
    let v = view c.args.parts.now in
    let vacant = lowest_vacant c.args.parts.now.cars c.vacant-number.result c.vacant-number.ensures in
    let picked = among_picked g.F.Fn c.args.parts.now.place v c.in_ok-train.train c.args.at c.in_ok-train.ensures in
    let may = may_move_out v c.requires.law c.args.at c.in_ok-train.train c.vacant-number.result vacant (comes_where v (move_out c.args.at) c.requires.row) picked in
    record { law = c.requires.law; moving = may.moving; live = may.live; train = may.stands; apart = may.apart }

pub returns : goal.returns
returns g c =
    let w = view c.relocate.new.parts in
    let moved = c.in_ok-id.ensures.ok in record {
      row = record {
        ok = made g.F.Fn c.args.parts.now.place (view c.args.parts.now) c.in_ok-train.train w (Moved c.in_ok-id.id c.in_ok-train.train) (move_out c.args.at) moved.number c.requires.row c.in_ok-train.ensures moved.vacant
            moved.after (ap (λ id. Moved id c.in_ok-train.train) c.in_ok-id.ensures.id);
        err = tt;
        rest = c.in_ok-id.ensures.rest;
      };
    }
