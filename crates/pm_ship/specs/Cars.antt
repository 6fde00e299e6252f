-- The cars that a store lists, as those of a copy.
use Rattle.std.specs.Prelude.{◌≡◌, List}
use Rattle.std.specs.List.{AllByRecursion}
use Rattle.pm_image.specs.declared.settled.KeptPage.{KeptPage}
use Rattle.pm_image.specs.Graphs.{images_of}
use Rattle.pm_view.specs.View.{Cars}
use Rattle.pm_copies.specs.Listed.{images}
use Rattle.pm_saving.specs.Progress.{cars_of, image_at}
use Rattle.pm_ship.specs.Offers.{Offer}

-- the cars by their numbers
abbrev pub cars_kept : List KeptPage → Cars
cars_kept cars = cars_of (images_of cars)

-- the cars that are offered, by their numbers
abbrev pub cars_offered : Offer → Cars
cars_offered offer = cars_of (images offer.list)

-- each of these cars is found by its number as it is: no two have one number, and their slots ascend
abbrev pub AreFoundAlone : List KeptPage → Type 0
AreFoundAlone cars = AllByRecursion (λ (kept : KeptPage). kept.image ≡ image_at (cars_kept cars) kept.image.number) cars
