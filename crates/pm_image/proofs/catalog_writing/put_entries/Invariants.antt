use Rattle.std.proofs.Common.{◌≡◌, ◌+◌, take}
use Rattle.std.specs.List.{flat_map}
use Rattle.std.specs.Vec.{vec_len}
use Rattle.pm_layout.specs.Room.{Appends}
use Rattle.pm_image.specs.declared.catalog_kind.TheConstants.{ENTRIES}
use Rattle.pm_image.specs.CatalogPages.{entry_spelling, catalog_used}
use Rattle.pm_image.proofs.catalog_writing.put_entries.Given as goal

abbrev pub invariant-loop-entry : goal.invariant-loop-entry
invariant-loop-entry l = record {
  so_far : Appends l.fn.out l.out (flat_map entry_spelling (take l.entry-index l.entries));
  counted : vec_len l.out + ENTRIES ≡ vec_len l.fn.out + catalog_used (take l.entry-index l.entries);
}
