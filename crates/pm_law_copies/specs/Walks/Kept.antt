-- Where the objects of a copy lie in the space.
use Rattle.std.specs.Prelude.{◌≡◌, false, Some}
use Rattle.std.specs.FinMap.{get}
use Rattle.pm_types.specs.declared.address.Addr.{Addr}
use Rattle.pm_types.specs.declared.object.Object as stored
use Rattle.pm_view.specs.View.{SpaceView}
use Rattle.pm_view.specs.Reading.{object_at, is_aside}
use Rattle.pm_view.specs.Represents.{meaning}
use Rattle.pm_copies.specs.Listed.{copy_in}

-- this object stands at the address, and the copy of the space has it, as it is meant
pub record IsKeptAt (view : SpaceView) (a : Addr) (object : stored.Object) : Type 0 where
  pub stands : is_aside view a.car ≡ false
  pub here : object_at view.cars a ≡ Some object
  pub kept : get (copy_in view).heap object.id ≡ Some (meaning view object)
