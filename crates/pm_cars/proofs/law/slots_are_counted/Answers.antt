use Rattle.std.proofs.Common.{◌≡◌, arith, ap}
use Rattle.std.specs.FinMap.{get}
use Rattle.pm_types.specs.declared.object.Slot.TheVariants.{Live}
use Rattle.pm_cars.proofs.Rooms.{counted, total_insert, total_remove, counted_live}
use Rattle.pm_cars.proofs.Counts.{all_slots}
use Rattle.pm_cars.proofs.law.slots_are_counted.Goals as goal

pub returns-clause-placed : goal.returns-clause-placed
returns-clause-placed c f car slot object sound above =
    let free : counted f (get car.slots slot) ≡ 0 = ap (counted f) (sound.below slot above) in
    omega (arith, total_insert f car.slots slot (Live object), free)

pub returns-clause-told : goal.returns-clause-told
returns-clause-told c f car slot object content found =
    omega (arith, total_insert f car.slots slot content, counted_live f (get car.slots slot) object found)

pub returns-clause-dropped : goal.returns-clause-dropped
returns-clause-dropped c f car slot object found =
    omega (arith, total_remove f car.slots slot, counted_live f (get car.slots slot) object found)

pub returns-clause-all : goal.returns-clause-all
returns-clause-all c car = all_slots car.slots
