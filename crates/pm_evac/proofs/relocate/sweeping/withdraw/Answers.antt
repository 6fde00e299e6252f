use Rattle.std.proofs.Common.{◌+◌, refl, ap, ◌∙◌, get_or, None}
use Rattle.pm_types.specs.declared.source.RefSource.TheVariants.{Field}
use Rattle.pm_view.specs.Reading.{aside_in}
use Rattle.pm_view.specs.Barrier.{left, told}
use Rattle.pm_space.specs.Linked.{queues_of, told_by}
use Rattle.pm_evac.proofs.RelocateLemmas.Fields.{barrier_to_null, heard_next, room_next, room_left}
use Rattle.pm_evac.proofs.relocate.sweeping.withdraw.Goals as goal

pub tell_all-requires-clause-old_room : goal.tell_all-requires-clause-old_room
tell_all-requires-clause-old_room c = room_next c.loop-index.links c.args.fields.now c.loop-index.index _ c.loop-index-test.true refl c.loop-index.invariant.room

pub loop-index-preserved : goal.loop-index-preserved
loop-index-preserved c =
    let aside = aside_in c.args.phase c.args.trains.now.trains in
    let fs = c.args.fields.now in
    let i = c.loop-index.index in
    let f = get_or fs i None in
    record {
      sets = c.tell_all.ensures.sets ∙ c.loop-index.invariant.sets;
      queues = heard_next (λ index field. left aside (Field c.args.at index) field) (queues_of c.args.links.now) (queues_of c.loop-index.links) _ fs i c.loop-index-test.true c.loop-index.invariant.queues
          (c.tell_all.ensures.queues ∙ ap (told (queues_of c.loop-index.links)) (barrier_to_null aside (Field c.args.at i) f));
      room = λ car count within. c.tell_all.ensures.used car count (c.loop-index.invariant.room car (count + (told_by car f + told_by car None)) (room_left fs i f car count c.loop-index-test.true refl within));
    }
