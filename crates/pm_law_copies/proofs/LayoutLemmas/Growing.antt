-- Entries are cut one after the other.
use Rattle.std.proofs.Common.{◌+◌, ◌<◌, ◌≤◌, List, [], ◌∷◌, ◌++◌}
use Rattle.pm_types.specs.declared.limits.TheConstants.{PAGE_BYTES}
use Rattle.pm_image.specs.declared.catalog_kind.TheConstants.{ENTRIES}
use Rattle.pm_image.specs.declared.catalog.CatEntry.{CatEntry}
use Rattle.pm_image.specs.CatalogPages.{catalog_used, entry_size}
use Rattle.pm_copies.specs.Cutting.{FitsAlone, IsCutInto, OnePage}
use Rattle.pm_law_copies.proofs.LayoutLemmas.Filling.{filling_begins, filling_full, filling_room}
use Rattle.pm_law_copies.proofs.LayoutLemmas.Cutting.{takes_entries}

pub cut_begins : IsCutInto [] ([] ∷ [])
cut_begins = filling_begins catalog_used entry_size ENTRIES takes_entries

pub cut_room : (entries : List CatEntry) (pages : List OnePage) (last : OnePage) (entry : CatEntry) → IsCutInto entries (pages ++ last ∷ []) → catalog_used last + entry_size entry ≤ PAGE_BYTES
    → IsCutInto (entries ++ entry ∷ []) (pages ++ (last ++ entry ∷ []) ∷ [])
cut_room = filling_room catalog_used entry_size ENTRIES takes_entries

pub cut_full : (entries : List CatEntry) (pages : List OnePage) (last : OnePage) (entry : CatEntry) → IsCutInto entries (pages ++ last ∷ []) → FitsAlone entry → PAGE_BYTES < catalog_used last + entry_size entry
    → IsCutInto (entries ++ entry ∷ []) (pages ++ last ∷ (entry ∷ []) ∷ [])
cut_full = filling_full catalog_used entry_size ENTRIES takes_entries
