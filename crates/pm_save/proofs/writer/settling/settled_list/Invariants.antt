use Rattle.std.proofs.Common.{◌≡◌, ◌≤◌, length, take, drop, vec_capacity}
use Rattle.std.specs.List.{AllByRecursion}
use Rattle.pm_save.specs.Progress.Taken.{AreOnce, StaysFor, pages_of}
use Rattle.pm_save.proofs.writer.settling.settled_list.Given as goal

abbrev pub invariant-loop-index : goal.invariant-loop-index
invariant-loop-index l =
    record {
      room : l.room.items ≡ pages_of l.fn.settled.items (take l.index l.fn.it.cars.items);
      count : length l.room.items ≡ l.index;
      capacity : length l.fn.it.cars.items ≤ vec_capacity l.room;
      length : length l.cars.items ≡ length l.fn.it.cars.items;
      rest : drop l.index l.cars.items ≡ drop l.index l.fn.it.cars.items;
      once : AreOnce (drop l.index l.fn.it.cars.items);
      stays : AllByRecursion (StaysFor l.fn.settled.items l.settled.items) (drop l.index l.fn.it.cars.items);
    }
