-- Where the addresses in cars, and those of roots, lead.
use Rattle.std.specs.Prelude.{ℕ, List, Option, IfSome, IsSome}
use Rattle.std.specs.List.{AllByRecursion}
use Rattle.pm_types.specs.declared.address.Addr.{Addr}
use Rattle.pm_types.specs.declared.object.Slot.{Slot}
use Rattle.pm_types.specs.declared.object.Slot.TheVariants.{Live, Moved}
use Rattle.pm_image.specs.declared.car.CarImage.{CarImage}
use Rattle.pm_image.specs.declared.catalog.CatEntry.{CatEntry}
use Rattle.pm_image.specs.declared.catalog.CatEntry.TheVariants.{Car, Root}
use Rattle.pm_image.specs.Graphs.{slot_named, identity_in, resolved}

-- a field is null, or leads to an object
abbrev pub FieldLeads : List CarImage → Option Addr → Type 0
FieldLeads cars field = IfSome field (λ at. IsSome (resolved cars at))

-- each field of an object does, and an object that moved stands in the slot to which its old one leads
abbrev pub SlotLeads : List CarImage → Slot → Type 0
SlotLeads cars (Live object) = AllByRecursion (FieldLeads cars) object.fields
SlotLeads cars (Moved to) = IsSome (identity_in (slot_named cars to))

-- each slot of a car does
abbrev pub CarLeads : List CarImage → CarImage → Type 0
CarLeads cars car = AllByRecursion (λ (entry : ℕ × Slot). SlotLeads cars entry.1) car.slots

-- a root that an entry lists leads to an object
abbrev pub RootLeads : List CarImage → CatEntry → Type 0
RootLeads cars (Car car train page digest) = Unit {0}
RootLeads cars (Root name at) = IsSome (resolved cars at)
