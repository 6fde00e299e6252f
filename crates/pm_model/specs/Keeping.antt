-- One step of the plain search for what is reached.
use Rattle.std.specs.Prelude.{ℕ, List, ◌++◌, Option, Some, None}
use Rattle.std.specs.FinMap.{insert}
use Rattle.pm_model.specs.Heap.{Object, Heap}
use Rattle.pm_model.specs.Copying.{held_ids}

-- What is kept and what is pending, once an identity was looked at. The first two are the object that is kept
-- there, and the one that the heap has there: one that was not kept is kept, and what it holds is pending.
abbrev pub looked_at : Option Object → Option Object → ℕ → Heap → List ℕ → Heap × List ℕ
looked_at (Some old) found id kept pending = (kept, pending)
looked_at None None id kept pending = (kept, pending)
looked_at None (Some object) id kept pending = (insert kept id object, pending ++ held_ids object)
