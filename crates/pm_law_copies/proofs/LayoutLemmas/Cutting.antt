-- Entries are cut into pages in one way.
use Rattle.std.proofs.Common.{◌≡◌, List, refl, arith}
use Rattle.std.specs.List.{AllByRecursion}
use Rattle.pm_image.specs.declared.catalog_kind.TheConstants.{ENTRIES}
use Rattle.pm_image.specs.declared.catalog.CatEntry.{CatEntry}
use Rattle.pm_image.specs.CatalogPages.{catalog_used, entry_size}
use Rattle.pm_copies.specs.Filling.{TakesSizes}
use Rattle.pm_copies.specs.Cutting.{FitsAlone, IsCutInto, OnePage, cut}
use Rattle.pm_law_copies.proofs.LayoutLemmas.Filling.{is_filled, one_filling}

-- a page takes its head and the sizes of its entries
pub takes_entries : TakesSizes catalog_used entry_size ENTRIES
takes_entries = record { none = refl; more = λ entry entries. refl; room = omega arith }

pub is_cut : (entries : List CatEntry) → AllByRecursion FitsAlone entries → IsCutInto entries (cut entries)
is_cut = is_filled catalog_used entry_size ENTRIES takes_entries

pub one_cut : (entries : List CatEntry) (pages : List OnePage) → IsCutInto entries pages → pages ≡ cut entries
one_cut = one_filling catalog_used entry_size ENTRIES takes_entries
