-- What is told of what a register holds, and of a name.
use Rattle.std.specs.Prelude.{◌≡◌, ℕ, List, Option, Some, None, IsSomeAnd, slice_get}
use Rattle.std.specs.FinMap.{get, entries}
use Rattle.pm_model.specs.Heap.{Object}
use Rattle.pm_model.specs.World.{World, held}
use Rattle.pm_dump.specs.Dump.{line_text, ObjectLine, RootLine}

-- the register holds an object of the world, and this is its line
pub record IsHeldLine (world : World) (client register : ℕ) (text : List ℕ) : Type 0 where
  pub id : ℕ
  pub object : Object
  pub held : held world client register ≡ Some id
  pub known : get world.heap id ≡ Some object
  pub told : text ≡ line_text (ObjectLine id object)

-- the line of what the register holds; none where it holds nothing
abbrev pub TellsHeld : World → ℕ → ℕ → Option (List ℕ) → Type 0
TellsHeld world client register None = held world client register ≡ None
TellsHeld world client register (Some text) = IsHeldLine world client register text

-- the line of the name at the place, in ascending order of the names' bytes, from 0 on; none where there is none
abbrev pub TellsNamed : World → ℕ → Option (List ℕ) → Type 0
TellsNamed world place None = slice_get (entries world.roots) place ≡ None
TellsNamed world place (Some text) = IsSomeAnd (slice_get (entries world.roots) place) (λ e. text ≡ line_text (RootLine e.0 e.1))
