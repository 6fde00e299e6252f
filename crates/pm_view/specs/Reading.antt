-- What is read of a space: what a place holds, what a source stores, and which cars are being given up.
use Rattle.std.specs.Prelude.{◌≡◌, ℕ, ◌<◌, Bool, false, not, ◌==◌, List, [], Option, Some, None, IsSome, option_and_then, option_map}
use Rattle.std.specs.List.{slice_get}
use Rattle.std.specs.Option.{option_flatten, unwrap_or}
use Rattle.std.specs.FinMap.{get}
use Rattle.pm_types.specs.declared.limits.TheConstants.{CLIENTS, REGISTERS}
use Rattle.pm_types.specs.declared.address.Addr.{Addr}
use Rattle.pm_types.specs.declared.source.RefSource.{RefSource}
use Rattle.pm_types.specs.declared.source.RefSource.TheVariants.{Root, Handle, Field}
use Rattle.pm_types.specs.declared.object.Object.{Object}
use Rattle.pm_types.specs.declared.object.Slot.{Slot}
use Rattle.pm_types.specs.declared.object.Slot.TheVariants.{Live, Moved}
use Rattle.pm_cars.specs.Cars.{Car, object_of}
use Rattle.pm_trains.specs.Trains.{Train, cars_at, is_among}
use Rattle.pm_roots.specs.Bindings.{address_at}
use Rattle.pm_view.specs.declared.phase.Phase.{Phase}
use Rattle.pm_view.specs.declared.phase.Phase.TheVariants.{Idle, Draining, Moving, Sweeping, Doomed}
use Rattle.pm_view.specs.Sources.{lies_in}
use Rattle.pm_view.specs.View.{Cars, SpaceView}

-- what the slot at an address holds, or none where it is Gone or no such car stands
abbrev pub slot_at : Cars → Addr → Option Slot
slot_at cars a = option_and_then (λ (car : Car). get car.slots a.slot) (get cars a.car)

-- the object at an address, or none where it is no Live slot
abbrev pub object_at : Cars → Addr → Option Object
object_at cars a = object_of (slot_at cars a)

-- the address in a field of an object, or none where it is null or there is no such field
abbrev pub field_of : Option Object → ℕ → Option Addr
field_of object index = option_flatten (option_and_then (λ (o : Object). slice_get o.fields index) object)

-- the address that a source stores, or none where it is null or there is no such source
abbrev pub stored : SpaceView → RefSource → Option Addr
stored view (Root number) = address_at view.roots number
stored view (Handle client register) = get view.registers (client, register)
stored view (Field a index) = field_of (object_at view.cars a) index

-- the cars of the train of this number, none where it does not stand
abbrev pub cars_of : List Train → ℕ → List ℕ
cars_of trains number = unwrap_or (cars_at trains number) []

-- in this phase the car is set aside: it is doomed, or being swept
abbrev pub aside_in : Phase → List Train → ℕ → Bool
aside_in Idle trains car = false
aside_in (Draining number) trains car = false
aside_in (Moving from) trains car = false
aside_in (Sweeping from) trains car = from == car
aside_in (Doomed number) trains car = is_among car (cars_of trains number)

-- the car is set aside
abbrev pub is_aside : SpaceView → ℕ → Bool
is_aside view car = aside_in view.phase view.trains.trains car

-- in this phase the car is the from-car, whose objects move or have moved
abbrev pub from_in : Phase → ℕ → Bool
from_in Idle car = false
from_in (Draining number) car = false
from_in (Moving from) car = from == car
from_in (Sweeping from) car = from == car
from_in (Doomed number) car = false

-- the car is the from-car
abbrev pub is_from : SpaceView → ℕ → Bool
is_from view car = from_in view.phase car

-- the source does not go with a car that is set aside
abbrev pub is_kept : SpaceView → RefSource → Bool
is_kept view source = not (lies_in (is_aside view) source)

-- A source stands: a root where its number is bound, a register where there is one, also empty, and a field where
-- its object stands and has it.
abbrev pub SourceStands : SpaceView → RefSource → Type 0
SourceStands view (Root number) = IsSome (address_at view.roots number)
SourceStands view (Handle client register) = (client < CLIENTS) × (register < REGISTERS)
SourceStands view (Field a index) = (is_aside view a.car ≡ false) × IsSome (option_and_then (λ (o : Object). slice_get o.fields index) (object_at view.cars a))

-- where an address leads: through a Moved slot one step, and else nowhere else
abbrev pub followed : Option Slot → Addr → Addr
followed None a = a
followed (Some (Live object)) a = a
followed (Some (Moved to)) a = to

abbrev pub resolve : SpaceView → Addr → Addr
resolve view a = followed (slot_at view.cars a) a

-- the identity of the object at an address
abbrev pub id_at : SpaceView → Addr → Option ℕ
id_at view a = option_map (λ (o : Object). o.id) (object_at view.cars a)

-- the identity of the object to which an address leads
abbrev pub named_by : SpaceView → Addr → Option ℕ
named_by view a = id_at view (resolve view a)
