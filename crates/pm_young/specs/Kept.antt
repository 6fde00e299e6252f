-- What holds of an engine with a nursery.
use Rattle.std.specs.Prelude.{◌≡◌, ℕ, Some, None, IsSome}
use Rattle.std.specs.FinMap.{get}
use Rattle.pm_disk.specs.declared.disk.Disk.{Ghosts}
use Rattle.pm_model.specs.Heap.{Object}
use Rattle.pm_model.specs.World.{World}
use Rattle.pm_view.specs.Represents.{Represents}
use Rattle.pm_nursery.specs.Young.{NurseryView, IsYoung, if_young}
use Rattle.pm_saving.specs.Serving.{opening, world}
use Rattle.pm_engine.specs.declared.works.start.Start.{Start}
use Rattle.pm_engine.specs.declared.works.works.Works.{Works}
use Rattle.pm_engine.specs.Works.Working.{view_in}
use Rattle.pm_engine.specs.Works.Seen.{seen}

-- The space stands for a world within, which stands with the nursery for the world at the journal's end, and has each
-- object of the world that was opened.
pub record StandsYoung {D F : Type 0} {g : Ghosts D} (start : Start D F g) (works : Works D F g)
    (nursery : NurseryView) : Type 0 where
  pub within : World
  pub represents : Represents (view_in works) within
  pub young : IsYoung within nursery (world (seen start None works))
  pub opened : (id : ℕ) → IsSome (get (opening (seen start None works)).heap id) → IsSome (get within.heap id)

-- The nursery is the young part of the world: its objects are the world's, and its registers are those of the world that
-- hold one of them. So world and young identities determine it.
pub record IsYoungPart (world : World) (nursery : NurseryView) : Type 0 where
  pub objects : (id : ℕ) (object : Object) → get nursery.objects id ≡ Some object → get world.heap id ≡ Some object
  pub registers : (place : ℕ × ℕ)
      → get nursery.registers place ≡ if_young nursery.objects (get world.registers place)
