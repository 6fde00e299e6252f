-- What is in progress once the copy of what was read was begun.
use Rattle.std.specs.Prelude.{◌≡◌, ◌<◌, ℕ, false, List, [], map, length, Option, Some, None}
use Rattle.std.specs.List.{AllByRecursion}
use Rattle.pm_types.specs.Names.{IsName}
use Rattle.pm_types.specs.declared.address.Addr.{Addr}
use Rattle.pm_image.specs.declared.settled.KeptPage.{KeptPage}
use Rattle.pm_image.specs.Graphs.{images_of}
use Rattle.pm_shadow.specs.State.{State}
use Rattle.pm_copies.specs.Accepted.{IsAccepted}
use Rattle.pm_copies.specs.Listed.{images}
use Rattle.pm_copies.specs.Plans.{root_entry}
use Rattle.pm_saving.specs.Progress.{Progress, Saving, copy_of}
use Rattle.pm_saving.specs.Paging.{left}
use Rattle.pm_saving.specs.Tied.{IsTied}
use Rattle.pm_ship.specs.declared.store.StoreRead.{StoreRead}
use Rattle.pm_saving.specs.Beginning.{ArePlaced}
use Rattle.pm_ship.specs.Cars.{cars_kept, cars_offered}
use Rattle.pm_ship.specs.Counting.{IsCount}
use Rattle.pm_ship.specs.Offers.{Offer, copy_offered}
use Rattle.pm_ship.specs.Stores.{offered}

-- the copy of these cars is settled, and none is in progress
abbrev pub idle : List KeptPage → Saving
idle settled = record { settled = settled; progress = None }

-- No rule refuses what was read: as many trains are listed as cars, and the roots have names.
pub record MayBeOffered (it : StoreRead) : Type 0 where
  pub paired : length it.trains.items ≡ length it.cars
  pub listed : images (offered it).list ≡ images_of it.cars
  pub accepted : IsAccepted (offered it).list (map root_entry it.roots.items) it.next
  pub names : AllByRecursion (λ (root : List ℕ × Addr). IsName root.0) it.roots.items

-- The copy of what is offered as it begins beside these settled cars: nothing of it was written.
pub record IsOfferBegun (offer : Offer) (settled : List KeptPage) (begun : Progress) : Type 0 where
  pub number : begun.number ≡ offer.epoch
  pub cars : ArePlaced settled offer.list begun.cars
  pub roots : begun.roots ≡ offer.roots
  pub next : begun.next_id ≡ offer.next
  pub kept : begun.kept ≡ false
  pub parts : begun.parts ≡ []

-- The copy of what is offered is in progress beside that of these settled cars: as many pages of it are to be written as
-- are counted. What holds between calls holds again.
pub record BeginsOffered (offer : Offer) (settled : List KeptPage) (it : Saving) (cars : List KeptPage) : Type 0 where
  pub progress : Progress
  pub is_progress : it.progress ≡ Some progress
  pub begun : IsOfferBegun offer settled progress
  pub number : progress.number ≡ offer.epoch
  pub next : progress.next_id ≡ offer.next
  pub cars_are : cars_kept cars ≡ cars_offered offer
  pub copy : copy_of (cars_kept cars) progress ≡ copy_offered offer
  pub count : IsCount (images_of settled) offer (left progress)
  pub tied : (s : State) (contents : Option (List ℕ)) → s.header.epoch < offer.epoch → IsTied (idle settled) None s contents → IsTied it (Some (cars_kept cars)) s contents
