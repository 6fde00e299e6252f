-- What a space is once a car of it goes, and which object an event is told of.
use Rattle.std.specs.Prelude.{ℕ, Bool, if◌then◌else◌}
use Rattle.std.specs.Option.{unwrap_or}
use Rattle.pm_types.specs.declared.address.Addr.{Addr}
use Rattle.pm_view.specs.View.{SpaceView}
use Rattle.pm_view.specs.Reading.{id_at}
use Rattle.pm_view.specs.Collecting.{without_car, completing}

-- a car of a train goes, and with it the collection is completed or not
abbrev pub freed : SpaceView → ℕ → ℕ → Bool → SpaceView
freed view train car completes = if completes then completing (without_car view train car) else without_car view train car

-- the identity of the object at an address
abbrev pub identity : SpaceView → Addr → ℕ
identity view a = unwrap_or (id_at view a) 0
