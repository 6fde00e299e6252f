use Rattle.std.proofs.Common.{◌≡◌, ◌++◌, ℕ, List, Some, drop, take}
use Rattle.std.specs.List.{AllByRecursion}
use Rattle.std.specs.FinSet as set
use Rattle.std.specs.Ordering.{nat_cmp}
use Rattle.pm_image.specs.declared.catalog.CatEntry.{CatEntry}
use Rattle.pm_image.specs.Graphs.{cars_from}
use Rattle.pm_shadow.specs.Pages.{state, disk_of}
use Rattle.pm_graphs.specs.Reading.{Looked, store_of, IsCar, LeadsOn}
use Rattle.pm_types.proofs.Fronts.{with_front}
use Rattle.pm_graphs.proofs.reading.read_listed.Given as goal

abbrev pub invariant-loop-entry : goal.invariant-loop-entry
invariant-loop-entry g l = record {
  looked : Looked l.fn.pages l.pages;
  counted : g.D.Disk.count (disk_of l.pages) ≡ g.D.Disk.count (disk_of l.fn.pages);
  so_far : (bytes : List ℕ) → g.D.Disk.contents (disk_of l.fn.pages) ≡ Some bytes → (rest : List CatEntry)
      → with_front l.cars (cars_from l.most l.next (store_of (state l.fn.pages).count bytes) l.met (drop l.entry-index l.entries ++ rest))
      ≡ with_front l.fn.cars (cars_from l.most l.next (store_of (state l.fn.pages).count bytes) l.fn.met (l.entries ++ rest));
  reads : (begun : set.FinSet nat_cmp) (done : List CatEntry) → LeadsOn l.most l.next begun done l.fn.cars l.fn.met → LeadsOn l.most l.next begun (done ++ take l.entry-index l.entries) l.cars l.met;
  cars : AllByRecursion (IsCar (state l.fn.pages).count l.next) l.cars;
}
