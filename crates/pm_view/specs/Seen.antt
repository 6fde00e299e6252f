-- The heap law of sources and remembered sets, over what is seen at each place, source and car.
use Rattle.std.specs.Prelude.{◌≡◌, ℕ, Bool, true, false, not, ◌≢◌, Option, Some, None}
use Rattle.pm_types.specs.declared.address.Addr.{Addr}
use Rattle.pm_types.specs.declared.source.RefSource.{RefSource}
use Rattle.pm_cars.specs.declared.look.Look.{Look}
use Rattle.pm_cars.specs.declared.look.Look.TheVariants.{Live, Moved, Gone}
use Rattle.pm_cars.specs.Cars.{look_of}
use Rattle.pm_view.specs.Sources.{lies_in, outside, slot_in}
use Rattle.pm_view.specs.View.{SpaceView}
use Rattle.pm_view.specs.Reading.{slot_at, stored, is_aside, is_from}
use Rattle.pm_view.specs.Effective.{effective}

-- What is seen of a space: the address that a source stores, none where it is null; which cars are set aside; what
-- each place is; which car is the from-car; and what the effective set of a car gives for a source.
pub record Seen : Type 0 where
  pub stored : RefSource → Option Addr
  pub aside : ℕ → Bool
  pub look : Addr → Look
  pub from : ℕ → Bool
  pub effective : ℕ → RefSource → Option ℕ

-- what is seen of a space
abbrev pub seen : SpaceView → Seen
seen view = record { stored = stored view; aside = is_aside view; look = λ a. look_of (slot_at view.cars a); from = is_from view; effective = effective view }

-- the source does not go with a car that is set aside
abbrev pub kept : Seen → RefSource → Bool
kept s source = not (lies_in s.aside source)

-- a Live slot of a car that is not set aside
abbrev pub IsLive : Seen → Addr → Type 0
IsLive s a = (s.look a ≡ Live) × (s.aside a.car ≡ false)

-- a place to which a stored address may lead: it is Live, or it is Moved in the from-car, to a Live slot of another car
abbrev pub Leads : Seen → Addr → Look → Type 0
Leads s a Live = Unit {0}
Leads s a (Moved b) = (s.from a.car ≡ true) × IsLive s b × (b.car ≢ a.car)
Leads s a Gone = ⊥

-- The law, source by source and car by car, for every car that is not set aside.
pub record IsTied (s : Seen) : Type 0 where
  -- what the effective set gives for a source outside the car is the slot that it names there, and none where it names none
  pub reads : (car : ℕ) (x : RefSource) → s.aside car ≡ false → kept s x ≡ true → outside car x ≡ true → s.effective car x ≡ slot_in car (s.stored x)
  -- what the effective set holds is a source outside the car that names this slot
  pub holds : (car : ℕ) (x : RefSource) (slot : ℕ) → s.aside car ≡ false → s.effective car x ≡ Some slot → (outside car x ≡ true) × (slot_in car (s.stored x) ≡ Some slot)
  -- what a source stores lies in a car that is not set aside, and leads to an object
  pub leads : (x : RefSource) (a : Addr) → kept s x ≡ true → s.stored x ≡ Some a → (s.aside a.car ≡ false) × Leads s a (s.look a)
  -- what moved out of a car that is not set aside leads to an object, whether a source names it or not
  pub moved : (a b : Addr) → s.aside a.car ≡ false → s.look a ≡ Moved b → Leads s a (Moved b)

-- what a source may be set to: null, or a Live slot of a car that is not set aside
abbrev pub MayStore : Seen → Option Addr → Type 0
MayStore s None = Unit {0}
MayStore s (Some a) = IsLive s a

-- The law as it is spoken: each source that is kept and names a slot of a car outside it is in the car's effective set
-- with that slot, and each entry of the set is such a source.
pub record IsTiedInWords (s : Seen) : Type 0 where
  pub found : (car slot : ℕ) (x : RefSource) → s.aside car ≡ false → kept s x ≡ true → outside car x ≡ true → s.stored x ≡ Some (record { car = car; slot = slot }) → s.effective car x ≡ Some slot
  pub entry : (car slot : ℕ) (x : RefSource) → s.aside car ≡ false → s.effective car x ≡ Some slot → (outside car x ≡ true) × (s.stored x ≡ Some (record { car = car; slot = slot }))
