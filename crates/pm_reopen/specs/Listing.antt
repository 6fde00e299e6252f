-- What opening lists for a space to be built of, while the cars are opened one after another.
use Rattle.std.specs.Prelude.{ℕ, ◌+◌, ◌==◌, List, [], ◌∷◌, ◌++◌, Option, Some, None, if◌then◌else◌}
use Rattle.std.specs.List.{flat_map}
use Rattle.pm_types.specs.declared.address.Addr.{Addr}
use Rattle.pm_cars.specs.Cars.{new_car}
use Rattle.pm_copies.specs.Listed.{Listed}
use Rattle.pm_copies.specs.Opened.{has_object}
use Rattle.pm_copies.specs.Built.{Placed, renumbered, renumbered_on}
use Rattle.pm_reopen.specs.declared.opened_cars.LastTrain.{LastTrain}
use Rattle.pm_graphs.specs.Linking.{Leads, resolved_by}
use Rattle.pm_reopen.specs.Making.{with_slots}

-- a car that has an object, as it is opened, with the number of its train
abbrev pub opened_by : Leads → Listed → List Placed
opened_by leads one = if has_object one.1.slots then (one.0, with_slots leads (new_car one.1.number) one.1.slots) ∷ [] else []

-- the new number of the train of a car, behind a car of that train or of the one before, or the first of all
abbrev pub number_after : Option LastTrain → ℕ → ℕ
number_after None train = 1
number_after (Some last) train = if last.listed == train then last.number else last.number + 1

-- cars behind others, each train with its new number
abbrev pub renumbered_after : Option LastTrain → List Placed → List Placed
renumbered_after None placed = renumbered placed
renumbered_after (Some last) placed = renumbered_on last.number last.listed placed

-- the cars that were opened, and behind them those that are still listed
abbrev pub listed_on : Leads → List Placed → Option LastTrain → List Listed → List Placed
listed_on leads placed last listed = placed ++ renumbered_after last (flat_map (opened_by leads) listed)

-- a name with its address, which is followed
abbrev pub followed_root : Leads → List ℕ × Addr → List ℕ × Addr
followed_root leads root = (root.0, resolved_by leads root.1)
