-- What cars have beside them once they were linked.
use Rattle.std.specs.Prelude.{◌≡◌, ℕ, List, []}
use Rattle.std.specs.Option.{option_map, unwrap_or}
use Rattle.std.specs.FinMap.{get, empty}
use Rattle.pm_roots.specs.Bindings.{Bindings}
use Rattle.pm_view.specs.View.{Cars, Sets}
use Rattle.pm_copies.specs.Built.{Placed, built_cars}
use Rattle.pm_law_copies.specs.Storing.{stored_of}
use Rattle.pm_space.specs.Linked.{Linked, sets_of, queues_of}
use Rattle.pm_reopen.specs.Rebuild.Lists.{rows}
use Rattle.pm_reopen.specs.Rebuild.Remembering.{Remember}

-- each car has the remembered set that is given for its number, and a queue in which no change waits, and no other
-- number has
pub record AreLinked (cars : Cars) (given : Sets) (links : Linked) : Type 0 where
  pub sets : (car : ℕ) → get (sets_of links) car ≡ option_map (λ _. unwrap_or (get given car) empty) (get cars car)
  pub queues : (car : ℕ) → get (queues_of links) car ≡ option_map (λ _. []) (get cars car)

-- each of these cars remembers those roots and fields that lie outside it and name a slot of it, and no change waits for it
pub record AreTold (placed : List Placed) (roots : Bindings) (links : Linked) : Type 0 where
  pub remember : Remember (built_cars placed) (sets_of links) (stored_of (rows placed) roots)
  pub queues : (car : ℕ) → get (queues_of links) car ≡ option_map (λ _. []) (get (built_cars placed) car)
