-- What the readers of a car's page are asked, and which answers they may give.
use Rattle.std.specs.Prelude.{ℕ, ◌<◌, ◌^◌, List, slice_index, Option}
use Rattle.std.specs.List.{AllByRecursion}
use Rattle.pm_layout.specs.declared.fault.LayoutFault.{LayoutFault}
use Rattle.pm_layout.specs.declared.fault.LayoutFault.TheVariants.{Short, Kind, Fields, Count, Null, Ident, Memory}
use Rattle.pm_layout.specs.Spelling.{IsInRange}
use Rattle.pm_image.specs.declared.car.CarImage.{CarImage}
use Rattle.pm_image.specs.declared.fault.PageFault.{PageFault}
use Rattle.pm_image.specs.declared.fault.PageFault.TheVariants.{Malformed, Memory as NoMemory}
use Rattle.pm_image.specs.CarPages.{CarScope}
use Rattle.pm_types.specs.Memory.{no_memory}

-- a car of a store with this next identity; its number is this one, if it is known
abbrev pub a_car : ℕ → ℕ → Option ℕ → CarScope
a_car most next expected = record { most = most; next = next; number = expected }

-- the numbers of a car are such as the types can hold
pub record IsCarInRange (car : CarImage) : Type 0 where
  pub number : car.number < 2 ^ 64
  pub slots : AllByRecursion (λ entry. IsInRange entry.1) car.slots

-- what a fault of a slot is for the page, where the record begins at this place
abbrev pub page_fault : ℕ → LayoutFault → PageFault
page_fault place (Short at) = Malformed place
page_fault place (Kind at byte) = Malformed at
page_fault place (Fields at n) = Malformed at
page_fault place (Count at n) = Malformed at
page_fault place (Null at) = Malformed at
page_fault place (Ident at) = Malformed at
page_fault place (Memory _) = NoMemory no_memory

-- each number of the list is one of a byte
abbrev pub AreBytes : List ℕ → Type 0
AreBytes bytes = (place : ℕ) → slice_index bytes place < 256
