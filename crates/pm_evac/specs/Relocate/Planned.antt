-- How an object is to move.
use Rattle.std.specs.Prelude.{◌≡◌, ℕ, ◌≤◌, Some, IfSome, length}
use Rattle.pm_types.specs.declared.limits.TheConstants.{FIELDS, OBJECT_BYTES}
use Rattle.pm_types.specs.declared.address.Addr.{Addr}
use Rattle.pm_types.specs.declared.object.Object.{Object}
use Rattle.pm_cars.specs.Cars.{object_room}
use Rattle.pm_view.specs.View.{SpaceView}
use Rattle.pm_view.specs.Reading.{object_at}
use Rattle.pm_view.specs.Rows.{tail_for, place_in, IsVacant}
use Rattle.pm_space.specs.Places.{FitsIn}
use Rattle.pm_evac.specs.declared.relocate.moving.Plan.{Plan}
use Rattle.pm_evac.specs.Relocate.Moves.{led_fields}

-- this is how the object at an address goes to a train
pub record IsPlan (view : SpaceView) (from : Addr) (train : ℕ) (plan : Plan) : Type 0 where
  pub object : Object
  pub here : object_at view.cars from ≡ Some object
  pub fields_few : length object.fields ≤ FIELDS
  pub bytes_few : length object.bytes ≤ OBJECT_BYTES
  pub number : ℕ
  pub vacant : IsVacant view.cars number
  pub tail : plan.tail ≡ tail_for view train (object_room object)
  pub fits : IfSome plan.tail (λ car. FitsIn view.cars car (object_room object))
  pub to : plan.to ≡ place_in view.cars plan.tail number
  pub fields : plan.fields.items ≡ led_fields view.cars from plan.to object.fields
