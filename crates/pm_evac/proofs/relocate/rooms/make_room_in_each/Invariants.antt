use Rattle.std.proofs.Common.{◌≡◌, ℕ, ◌<◌, take}
use Rattle.pm_space.specs.Linked.{sets_of, queues_of, HasRoom}
use Rattle.pm_evac.specs.Relocate.Named.{named_by}
use Rattle.pm_evac.proofs.relocate.rooms.make_room_in_each.Given as goal

-- there is room in each car that the fields so far name
abbrev pub invariant-loop-field : goal.invariant-loop-field
invariant-loop-field l = record {
  room : (car : ℕ) → 0 < named_by (take l.field-index l.fields) car → HasRoom l.links car l.count;
  sets : sets_of l.links ≡ sets_of l.initial.links;
  queues : queues_of l.links ≡ queues_of l.initial.links;
  kept : (other more : ℕ) → HasRoom l.initial.links other more → HasRoom l.links other more;
}
