use Rattle.std.proofs.Common.{◌≡◌, ◌+◌, ◌≤◌}
use Rattle.std.specs.Vec.Iter.{into_iter_items}
use Rattle.pm_types.specs.declared.limits.TheConstants.{CAR_HEAD_BYTES, CAR_BYTES}
use Rattle.pm_cars.specs.Cars.{used}
use Rattle.pm_image.specs.CarPages.{Ascend, car_used}
use Rattle.pm_reopen.specs.Making.{with_slots}
use Rattle.pm_reopen.proofs.opened_car.open_slots.Given as goal

abbrev pub invariant-loop-slot : goal.invariant-loop-slot
invariant-loop-slot l = record {
  so_far : with_slots l.leads l.car.car (into_iter_items l.slot-iterator) ≡ with_slots l.leads l.initial.car.car l.fn.slots;
  ascend : Ascend l.car.car.next (into_iter_items l.slot-iterator);
  fits : used l.car.car + car_used (into_iter_items l.slot-iterator) ≤ CAR_BYTES + CAR_HEAD_BYTES;
}
