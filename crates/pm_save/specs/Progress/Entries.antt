-- The entries of a copy's cars and roots, once each car stands on a page.
use Rattle.std.specs.Prelude.{ℕ, List, ◌++◌, map}
use Rattle.pm_image.specs.declared.catalog.CatEntry.{CatEntry}
use Rattle.pm_copies.specs.Plans.{car_entry}
use Rattle.pm_saving.specs.Progress.{Place, Clean, Unwritten, Written, PlacedCar, Progress, draft_entry, roots_of}

-- the entry of a car, by where it stands
abbrev pub entry_by : CatEntry → ℕ → Place → CatEntry
entry_by draft train (Clean kept) = car_entry (train, kept)
entry_by draft train Unwritten = draft
entry_by draft train (Written kept) = car_entry (train, kept)

-- the entry of a car; as long as it stands on no page, one of the same size
abbrev pub entry_of : PlacedCar → CatEntry
entry_of one = entry_by (draft_entry one) one.train one.place

-- the entries of the cars, and then those of the roots
abbrev pub entries_in : Progress → List CatEntry
entries_in progress = map entry_of progress.cars ++ roots_of progress
