-- Sources that are to be fixed.
use Rattle.std.specs.Prelude.{◌≡◌, ℕ, Some}
use Rattle.pm_types.specs.declared.address.Addr.{Addr}
use Rattle.pm_types.specs.declared.object.Slot.TheVariants.{Moved}
use Rattle.pm_types.specs.declared.source.RefSource.{RefSource}
use Rattle.pm_view.specs.View.{SpaceView}
use Rattle.pm_view.specs.Reading.{slot_at, stored}

-- the source stores a place of the car whose object moved to this address
abbrev pub NamesMoved : SpaceView → ℕ → RefSource → Addr → Type 0
NamesMoved view car source to = (slot : ℕ) × (stored view source ≡ Some (record { car = car; slot = slot })) × (slot_at view.cars (record { car = car; slot = slot }) ≡ Some (Moved to))
