use Rattle.std.proofs.Common.{◌≤◌, ℕ, sym, subst, arith}
use Rattle.std.specs.List.{AllByRecursion}
use Rattle.std.specs.FinMap.{entries}
use Rattle.pm_types.specs.declared.limits.TheConstants.{CAR_BYTES}
use Rattle.pm_types.specs.declared.object.Slot.{Slot}
use Rattle.pm_cars.specs.Cars.{slot_room}
use Rattle.pm_reopen.proofs.RebuildLemmas.TellingLaws.{all_small}
use Rattle.pm_reopen.proofs.rebuild.remembering.tell_car.Goals as goal

pub tell_slots-requires : goal.tell_slots-requires
tell_slots-requires c =
    let room = c.sound.ensures.room in
    subst (AllByRecursion (λ (e : ℕ × Slot). slot_room e.1 ≤ CAR_BYTES)) (sym c.slots.ensures) (all_small (entries c.args.car.now.car.slots) (omega (arith, room)))
