use Rattle.std.proofs.Common.{◌≡◌, ℕ}
use Rattle.pm_space.specs.Linked.{sets_of, queues_of, counted, HasRoom}
use Rattle.pm_mutate.specs.Commands.Closing.{stored_in}
use Rattle.pm_mutate.proofs.commands.closing.make_room_to_close.Given as goal

-- what the registers so far store is counted, and there is room for it
abbrev pub invariant-loop-register : goal.invariant-loop-register
invariant-loop-register l = record {
  sets : sets_of l.links ≡ sets_of l.initial.links;
  queues : queues_of l.links ≡ queues_of l.initial.links;
  counted : (car : ℕ) → counted l.counts car ≡ stored_in l.handles l.client l.register car;
  room : (car : ℕ) → HasRoom l.links car (stored_in l.handles l.client l.register car);
}
