use Rattle.std.proofs.Common.{◌≡◌, ℕ, ◌-◌, ◌++◌, List, [], ◌∷◌, Contains, Some, None}
use Rattle.std.specs.FinSet as set
use Rattle.pm_image.specs.declared.catalog.CatEntry.{CatEntry}
use Rattle.pm_image.specs.Graphs.{catalog_from, catalog_of, most_pages, entries_of}
use Rattle.pm_shadow.specs.Pages.{state, disk_of}
use Rattle.pm_graphs.specs.Reading.{Looked, store_of, IsThere, IsSound, root_count, page_numbers, MayFollow}
use Rattle.pm_types.proofs.Fronts.{with_front}
use Rattle.pm_graphs.proofs.reading.read_chain.Given as goal

abbrev pub invariant-loop : goal.invariant-loop
invariant-loop g l = record {
  looked : Looked l.fn.pages l.pages;
  counted : g.D.Disk.count (disk_of l.pages) ≡ g.D.Disk.count (disk_of l.fn.pages);
  so_far : (bytes : List ℕ) → g.D.Disk.contents (disk_of l.fn.pages) ≡ Some bytes
      → with_front l.chain.items (catalog_from (most_pages - l.counter) (store_of (state l.fn.pages).count bytes) l.met l.page l.kept) ≡ catalog_of (store_of (state l.fn.pages).count bytes) (state l.fn.pages).header;
  there : IsThere (state l.fn.pages).count l.page;
  sound : IsSound (state l.fn.pages).count l.chain.items;
  begun : Contains (page_numbers l.chain.items ++ l.page ∷ []) (state l.fn.pages).header.first;
  follow : (more : List CatEntry) → MayFollow l.met.cars l.met.train l.met.name more → MayFollow set.empty 0 None (entries_of l.chain.items ++ more);
  roots : l.met.roots ≡ root_count (entries_of l.chain.items);
}
