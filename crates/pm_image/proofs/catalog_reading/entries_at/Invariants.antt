use Rattle.std.proofs.Common.{◌≡◌, ◌-◌, ◌≤◌}
use Rattle.pm_types.specs.declared.limits.TheConstants.{PAGE_BYTES}
use Rattle.pm_image.specs.CatalogPages.{meeting_all, entries_at}
use Rattle.pm_image.specs.CatalogReading.{HasRoomForRoots}
use Rattle.pm_types.proofs.Fronts.{with_front_of}
use Rattle.pm_image.proofs.catalog_reading.entries_at.Given as goal

abbrev pub invariant-loop : goal.invariant-loop
invariant-loop l = record {
  so_far : with_front_of l.entries.items (entries_at l.count l.met l.page (l.len - l.counter) l.place) ≡ entries_at l.count l.fn.met l.page l.len l.start;
  met : l.met ≡ meeting_all l.fn.met l.entries.items;
  inside : l.place ≤ PAGE_BYTES;
  room : HasRoomForRoots l.count l.met.roots l.place;
}
