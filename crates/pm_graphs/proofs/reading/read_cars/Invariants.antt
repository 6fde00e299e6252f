use Rattle.std.proofs.Common.{◌≡◌, ℕ, List, Some, drop, take}
use Rattle.std.specs.List.{AllByRecursion}
use Rattle.std.specs.FinSet as set
use Rattle.pm_image.specs.Graphs.{cars_from, entries_of}
use Rattle.pm_shadow.specs.Pages.{state, disk_of}
use Rattle.pm_graphs.specs.Reading.{Looked, store_of, IsCar, IsEntryThere, LeadsOn}
use Rattle.pm_types.proofs.Fronts.{with_front}
use Rattle.pm_graphs.proofs.reading.read_cars.Given as goal

abbrev pub invariant-loop-page : goal.invariant-loop-page
invariant-loop-page g l = record {
  looked : Looked l.fn.pages l.pages;
  counted : g.D.Disk.count (disk_of l.pages) ≡ g.D.Disk.count (disk_of l.fn.pages);
  so_far : (bytes : List ℕ) → g.D.Disk.contents (disk_of l.fn.pages) ≡ Some bytes
      → with_front l.cars (cars_from l.most l.next (store_of (state l.fn.pages).count bytes) l.met (entries_of (drop l.page-index l.catalog)))
      ≡ cars_from l.most l.next (store_of (state l.fn.pages).count bytes) set.empty (entries_of l.catalog);
  there : AllByRecursion (IsEntryThere (state l.fn.pages).count) (entries_of (drop l.page-index l.catalog));
  reads : LeadsOn l.most l.next set.empty (entries_of (take l.page-index l.catalog)) l.cars l.met;
  cars : AllByRecursion (IsCar (state l.fn.pages).count l.next) l.cars;
}
