-- What contracts see of a copy in progress.
use Rattle.std.specs.Prelude.{List, reverse, map, Option, Some, None}
use Rattle.std.specs.List.{slice_get}
use Rattle.pm_image.specs.declared.settled.KeptPage.{KeptPage}
use Rattle.pm_saving.specs.Progress.{Progress}
use Rattle.pm_saving.specs.Progress as seen
use Rattle.pm_save.specs.declared.progress.place.Place.{Place}
use Rattle.pm_save.specs.declared.progress.place.Place.TheVariants.{Clean, Unwritten, Written}
use Rattle.pm_save.specs.declared.progress.place.PlacedCar.{PlacedCar}
use Rattle.pm_save.specs.declared.progress.place.InProgress.{InProgress}

-- a clean car's page is that of a settled car
abbrev pub clean_at : Option KeptPage → seen.Place
clean_at None = seen.Unwritten
clean_at (Some kept) = seen.Clean kept

abbrev pub place_seen : List KeptPage → Place → seen.Place
place_seen settled (Clean index) = clean_at (slice_get settled index)
place_seen settled Unwritten = seen.Unwritten
place_seen settled (Written kept) = seen.Written kept

abbrev pub car_seen : List KeptPage → PlacedCar → seen.PlacedCar
car_seen settled one = record { train = one.train; number = one.number; place = place_seen settled one.place }

abbrev pub progress_seen : List KeptPage → InProgress → Progress
progress_seen settled it = record {
  number = it.number;
  cars = map (car_seen settled) it.cars.items;
  roots = it.roots.items;
  next_id = it.next_id;
  kept = it.kept;
  parts = reverse it.parts.items;
}
