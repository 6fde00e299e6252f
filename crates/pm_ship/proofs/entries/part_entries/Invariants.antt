use Rattle.std.proofs.Common.{◌≡◌, ◌++◌}
use Rattle.std.specs.Vec.Iter.{into_iter_items}
use Rattle.pm_copies.specs.Accepted.{roots_in}
use Rattle.pm_ship.specs.Listing.{trains_in}
use Rattle.pm_ship.proofs.entries.part_entries.Given as goal

abbrev pub invariant-loop-entry : goal.invariant-loop-entry
invariant-loop-entry l = record {
  trains_are : l.trains.items ++ trains_in (into_iter_items l.entry-iterator) ≡ trains_in l.fn.entries;
  roots_are : l.roots.items ++ roots_in (into_iter_items l.entry-iterator) ≡ roots_in l.fn.entries;
}
