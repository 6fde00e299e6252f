-- A world that has what stands in a space, and no more.
use Rattle.std.specs.Prelude.{◌≡◌, ◌↔◌, ℕ, None, IsSome}
use Rattle.std.specs.FinMap.{get}
use Rattle.pm_model.specs.World.{World}
use Rattle.pm_model.specs.Closed.{IsClosed}
use Rattle.pm_view.specs.View.{SpaceView}
use Rattle.pm_view.specs.Counts.{IsStanding}
use Rattle.pm_view.specs.Represents.{Represents}

-- The space stands for the world; whatever a root, a register or a field of the world names is an object; no object has
-- the next identity; and its heap has the objects that stand in the space, and no other.
pub record HasWhatStands (view : SpaceView) (world : World) : Type 0 where
  pub represents : Represents view world
  pub closed : IsClosed world
  pub unused : get world.heap world.next ≡ None
  pub heap : (id : ℕ) → IsSome (get world.heap id) ↔ IsStanding view id
