-- The remembered sets of cars while sources are told to them one after another, the last one first.
use Rattle.std.specs.Prelude.{◌≡◌, ℕ, List, ◌++◌, Option, Some, None}
use Rattle.std.specs.Option.{option_map}
use Rattle.std.specs.FinMap.{get, insert}
use Rattle.pm_types.specs.declared.source.RefSource.{RefSource}
use Rattle.pm_view.specs.View.{Cars, Sources, Sets}
use Rattle.pm_law_copies.specs.Storing.{Stored, remembering}

-- the remembered sets where that of a car, which this is, remembers a source beside the others; where no such car is they stay
abbrev pub with_named : Sets → ℕ → Option Sources → RefSource → ℕ → Sets
with_named sets car None source slot = sets
with_named sets car (Some set) source slot = insert sets car (insert set source slot)

-- the remembered sets where that of a car remembers that a source names this slot of it
abbrev pub with_remembered : Sets → ℕ → RefSource → ℕ → Sets
with_remembered sets car source slot = with_named sets car (get sets car) source slot

-- each car remembers those of these sources that lie outside it and name a slot of it; no other number has a set
pub record Remember (cars : Cars) (sets : Sets) (stored : List Stored) : Type 0 where
  pub each : (car : ℕ) → get sets car ≡ option_map (λ _. remembering stored car) (get cars car)

-- whatever was remembered, these sources are remembered beside it
abbrev pub Adds : Sets → Sets → List Stored → Type 0
Adds old new more = (cars : Cars) (stored : List Stored) → Remember cars old stored → Remember cars new (more ++ stored)
