-- What is seen of the parts of a new space.
use Rattle.std.proofs.Common.{◌≡◌, ℕ, ap, ◌∙◌, Option, None}
use Rattle.std.specs.Ordering.{nat_cmp}
use Rattle.std.specs.FinMap.{empty}
use Rattle.pm_types.specs.Mapped.{mapped}
use Rattle.pm_types.proofs.Mapped.{mapped-empty}
use Rattle.pm_types.specs.declared.address.Addr.{Addr}
use Rattle.pm_trains.specs.Trains.{Trains, first_trains}
use Rattle.pm_roots.specs.Bindings.{Bindings}
use Rattle.pm_handles.specs.Handles.{Registers}
use Rattle.pm_snap.specs.Snapped.{Snapped}
use Rattle.pm_view.specs.declared.phase.Phase.TheVariants.{Idle}
use Rattle.pm_view.specs.Rows.{new_space}
use Rattle.pm_space.specs.declared.held.Held.{Held}
use Rattle.pm_space.specs.Linked.{Linked, set_of, queue_of}
use Rattle.pm_space.specs.Shown.{view, car_of}

-- a new table of cars, new links, trains, roots and registers, and no anchor, are seen as a new space
pub fresh_view : {F : Type 0} (place : F) (cars : Snapped Held) (links : Linked) (trains : Trains) (roots : Bindings) (handles : Registers) (guard : Option (Addr × ℕ))
    → cars.current ≡ empty → links ≡ empty → trains ≡ first_trains → roots ≡ empty → handles ≡ empty → guard ≡ None
    → view (record { cars = cars; links = links; trains = trains; roots = roots; handles = handles; place = place; guard = guard; phase = Idle; next = 1; completed = 0 }) ≡ new_space
fresh_view place cars links trains roots handles guard no_cars no_links first no_roots no_handles no_guard = λ i. record {
  cars = (ap (mapped car_of) no_cars ∙ mapped-empty nat_cmp car_of) i;
  sets = (ap (mapped set_of) no_links ∙ mapped-empty nat_cmp set_of) i;
  queues = (ap (mapped queue_of) no_links ∙ mapped-empty nat_cmp queue_of) i;
  trains = first i;
  roots = no_roots i;
  registers = no_handles i;
  anchor = no_guard i;
  phase = Idle;
  next = 1;
  completed = 0;
}
