use Rattle.pm_evac.proofs.RelocateLemmas.Naming.{room_for_both}
use Rattle.pm_evac.proofs.relocate.rooms.make_room_for_few.Goals as goal

pub returns-clause-room : goal.returns-clause-room
returns-clause-room c =
    room_for_both c.make_room_in_each.new.links c.make_room_in_each-2.new.links c.args.old.now c.args.new.now c.args.many c.requires
    c.in_ok-make_room_in_each.ensures.room c.make_room_in_each-2.ensures.kept c.in_ok-make_room_in_each-2.ensures.room
