use Rattle.std.proofs.Common.{◌≡◌, [], None, map, drop}
use Rattle.std.specs.List.{AllByRecursion}
use Rattle.std.specs.Vec.Iter.{into_iter_items}
use Rattle.pm_image.specs.Graphs.{images_of}
use Rattle.pm_copies.specs.Accepted.{IsAcceptedCar}
use Rattle.pm_copies.specs.Opened.{listed_in}
use Rattle.pm_reopen.specs.Rebuild.Lists.{placed_of}
use Rattle.pm_reopen.specs.Listing.{listed_on}
use Rattle.pm_reopen.proofs.opened_cars.open_cars.Given as goal

abbrev pub invariant-loop-entry : goal.invariant-loop-entry
invariant-loop-entry l = record {
  so_far : listed_on l.leads (map placed_of l.opened.cars.items) l.opened.last (listed_in (drop l.entry-index l.entries) (images_of (into_iter_items l.left)))
      ≡ listed_on l.leads [] None (listed_in l.entries (images_of l.fn.cars));
  left : AllByRecursion IsAcceptedCar (images_of (into_iter_items l.left));
}
