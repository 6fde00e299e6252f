use Rattle.std.proofs.Common.{◌+◌, ◌<◌, sym, subst, ◌∙◌, length, get_or, None}
use Rattle.pm_view.specs.Reading.{aside_in}
use Rattle.pm_space.specs.Linked.{queues_of, told_by}
use Rattle.pm_evac.specs.Relocate.Moves.{move_tells}
use Rattle.pm_evac.proofs.RelocateLemmas.Fields.{heard_next, room_left_of_both}
use Rattle.pm_evac.proofs.relocate.telling.tell_moved.Goals as goal

pub loop-index-preserved : goal.loop-index-preserved
loop-index-preserved c =
    let aside = aside_in c.args.phase c.args.trains.now.trains in
    let fs = c.args.old.now in
    let gs = c.args.new.now in
    let i = c.loop-index.index in
    let inside_too : i < length gs = subst (λ n. i < n) (sym c.requires.same) c.loop-index-test.true in
    record {
      sets = c.tell_field.ensures.sets ∙ c.loop-index.invariant.sets;
      queues = heard_next (λ index field. move_tells aside c.args.from c.args.to index field (get_or gs index None)) (queues_of c.args.links.now) (queues_of c.loop-index.links) _ fs i c.loop-index-test.true c.loop-index.invariant.queues c.tell_field.ensures.queues;
      room = λ car count within.
          c.tell_field.ensures.used car count (c.loop-index.invariant.room car (count + (told_by car (get_or fs i None) + told_by car (get_or gs i None))) (room_left_of_both fs gs i car count c.loop-index-test.true inside_too within));
    }
