-- When a row of a space serves an answer of a world.
use Rattle.std.specs.Prelude.{◌≡◌}
use Rattle.pm_types.specs.declared.reply.Reply.{Reply}
use Rattle.pm_model.specs.World.{World}
use Rattle.pm_view.specs.View.{SpaceView}
use Rattle.pm_view.specs.Law.{HeapLaw}
use Rattle.pm_view.specs.Represents.{Represents}

-- the replies are one, the space after the row keeps the heap law, and it stands for the world after the answer
pub record IsServed (row : Reply × SpaceView) (answer : Reply × World) : Type 0 where
  pub reply : row.0 ≡ answer.0
  pub law : HeapLaw row.1
  pub world : Represents row.1 answer.1
