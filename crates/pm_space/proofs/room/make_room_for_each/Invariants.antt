use Rattle.std.proofs.Common.{◌≡◌, ℕ, take}
use Rattle.pm_space.specs.Linked.{sets_of, queues_of, counted, HasRoom, times}
use Rattle.pm_space.proofs.room.make_room_for_each.Given as goal

-- the cars so far are counted, and there is room for each as often
abbrev pub invariant-loop-car : goal.invariant-loop-car
invariant-loop-car l = record {
  counted : (car : ℕ) → counted l.counts car ≡ times car (take l.car-index l.cars);
  room : (car : ℕ) → HasRoom l.links car (times car (take l.car-index l.cars));
  sets : sets_of l.links ≡ sets_of l.initial.links;
  queues : queues_of l.links ≡ queues_of l.initial.links;
  kept : (other more : ℕ) → HasRoom l.initial.links other more → HasRoom l.links other more;
}
