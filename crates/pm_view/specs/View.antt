-- What contracts see of a space: canonical maps and lists, without the room that is kept ahead.
use Rattle.std.specs.Prelude.{ℕ, List, Option}
use Rattle.std.specs.Ordering.{nat_cmp}
use Rattle.std.specs.FinMap.{FinMap}
use Rattle.pm_types.specs.Orders.{place_cmp, source_cmp}
use Rattle.pm_types.specs.declared.address.Addr.{Addr}
use Rattle.pm_types.specs.declared.source.Change.{Change}
use Rattle.pm_cars.specs.Cars.{Car}
use Rattle.pm_trains.specs.Trains.{Trains}
use Rattle.pm_roots.specs.Bindings.{Bindings}
use Rattle.pm_view.specs.declared.phase.Phase.{Phase}

-- cars by their numbers
abbrev pub Cars : Type 0
Cars = FinMap nat_cmp Car

-- a remembered set: the slot that each source names
abbrev pub Sources : Type 0
Sources = FinMap source_cmp ℕ

-- remembered sets, and queues of changes with their front first, by the numbers of their cars
abbrev pub Sets : Type 0
Sets = FinMap nat_cmp Sources

abbrev pub Queues : Type 0
Queues = FinMap nat_cmp (List Change)

-- the address that each register holds, at (client, register)
abbrev pub Registers : Type 0
Registers = FinMap place_cmp Addr

-- A space: its cars, with the remembered set and the queue of each; the trains, and the births in the open one; the
-- named roots; the registers; the anchor, with the train to which it goes; the phase of the collector; the next
-- identity; and how many collections were completed.
pub record SpaceView : Type 0 where
  pub cars : Cars
  pub sets : Sets
  pub queues : Queues
  pub trains : Trains
  pub roots : Bindings
  pub registers : Registers
  pub anchor : Option (Addr × ℕ)
  pub phase : Phase
  pub next : ℕ
  pub completed : ℕ
