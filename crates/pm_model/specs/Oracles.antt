-- What the plain slow program keeps, as a world.
use Rattle.std.specs.Prelude.{◌≡◌, ℕ, ◌≤◌, None}
use Rattle.std.specs.FinMap.{get}
use Rattle.pm_types.specs.declared.limits.TheConstants.{END_ID}
use Rattle.pm_model.specs.Heap.{Heap}
use Rattle.pm_model.specs.World.{World, Roots, Registers, Copy, Saving}

-- the world of these parts
abbrev pub world_of : Heap → Roots → Registers → ℕ → ℕ → Copy → Saving → ℕ → World
world_of heap roots registers next settled settled_copy saving watches =
    record { heap = heap; roots = roots; registers = registers; next = next; settled = settled; settled_copy = settled_copy; saving = saving; watches = watches }

-- the next identity is in range, and no object has it or a later one
pub record IsSound (heap : Heap) (next : ℕ) : Type 0 where
  pub first : 1 ≤ next
  pub last : next ≤ END_ID
  pub unused : (id : ℕ) → next ≤ id → get heap id ≡ None
