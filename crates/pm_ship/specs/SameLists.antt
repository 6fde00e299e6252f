-- What is compared of two stores.
use Rattle.std.specs.Prelude.{◌≡◌, ◌<◌}
use Rattle.pm_layout.specs.declared.header.Header.{Header}
use Rattle.pm_image.specs.Graphs.{images_of}
use Rattle.pm_ship.specs.declared.shipping.Standing.{Standing}
use Rattle.pm_ship.specs.declared.shipping.Standing.TheVariants.{Earlier, Same, Foreign, Later}
use Rattle.pm_ship.specs.declared.store.StoreRead.{StoreRead}
use Rattle.pm_ship.specs.declared.standby.Standby.{Standby}

-- They list the same trains, the same roots and the same cars.
pub record HaveSameLists (first : StoreRead) (standby : Standby) : Type 0 where
  pub trains : first.trains.items ≡ standby.trains.items
  pub roots : first.roots.items ≡ standby.roots.items
  pub cars : images_of first.cars ≡ images_of standby.settled

-- They have the same copy, under the same number or not: the next identity is the same too.
pub record HaveSameCopy (first : StoreRead) (standby : Standby) (header : Header) : Type 0 where
  pub next : header.next ≡ first.next
  pub lists : HaveSameLists first standby

-- how the copy behind this header of the standby stands to that of the first store
abbrev pub Stands : StoreRead → Standby → Header → Standing → Type 0
Stands first standby header Earlier = header.epoch < first.epoch
Stands first standby header Same = (header.epoch ≡ first.epoch) × HaveSameCopy first standby header
Stands first standby header Foreign = (header.epoch ≡ first.epoch) × (HaveSameCopy first standby header → ⊥)
Stands first standby header Later = first.epoch < header.epoch
