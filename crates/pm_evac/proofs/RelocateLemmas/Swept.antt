-- An object that is taken out of its slot.
use Rattle.std.proofs.Common.{◌≡◌, ap, sym, ◌∙◌, Some}
use Rattle.std.specs.Ordering.{nat_cmp}
use Rattle.std.specs.Cmp.{nat_cmp_total}
use Rattle.std.specs.FinMap.{get, insert, nat_cmp-IsAntisymmetric}
use Rattle.pm_types.specs.Mapped.{mapped}
use Rattle.pm_types.proofs.Mapped.{mapped-insert}
use Rattle.pm_types.specs.declared.address.Addr.{Addr}
use Rattle.pm_types.specs.declared.object.Slot.{Slot}
use Rattle.pm_cars.specs.Cars.{without_slot}
use Rattle.pm_cars.specs.Cars as car
use Rattle.pm_snap.specs.Snapped.{Snapped}
use Rattle.pm_view.specs.Rows.{put_car, with_slot_at}
use Rattle.pm_view.specs.Collecting.{without_slot_at}
use Rattle.pm_space.specs.declared.held.Held.{Held}
use Rattle.pm_space.specs.Shown.{car_of, cars_of}
use Rattle.pm_space.proofs.HeldCars.{get_car}

-- the cars where an object was dropped
pub object_dropped : (table : Snapped Held) (a : Addr) (held w : Held) → Some held ≡ get table.current a.car → w.car.car ≡ without_slot held.car.car a.slot
    → mapped car_of (insert table.current a.car w) ≡ without_slot_at (cars_of table) a
object_dropped table a held w is done =
    mapped-insert nat_cmp car_of nat_cmp_total nat_cmp-IsAntisymmetric table.current a.car w
    ∙ ap (insert (cars_of table) a.car) done
    ∙ sym (ap (λ o. put_car (cars_of table) a.car o (λ c. without_slot c a.slot)) (get_car table a.car (Some held) is))

-- the cars where a slot holds something else
pub slot_told : (table : Snapped Held) (a : Addr) (held w : Held) (content : Slot) → Some held ≡ get table.current a.car → w.car ≡ car.told held.car a.slot content
    → mapped car_of (insert table.current a.car w) ≡ with_slot_at (cars_of table) a content
slot_told table a held w content is done =
    mapped-insert nat_cmp car_of nat_cmp_total nat_cmp-IsAntisymmetric table.current a.car w
    ∙ ap (λ (it : car.CarAndSpare). insert (cars_of table) a.car it.car) done
    ∙ sym (ap (λ o. put_car (cars_of table) a.car o (λ c. car.with_slot c a.slot content)) (get_car table a.car (Some held) is))
