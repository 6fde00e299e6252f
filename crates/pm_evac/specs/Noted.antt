-- The object that is noted where a car begins to be emptied.
use Rattle.std.specs.Prelude.{◌≡◌, ℕ, Bool, not, is_some, List}
use Rattle.std.specs.Borrow.{Bor}
use Rattle.std.specs.Fn.{Shared}
use Rattle.pm_types.specs.declared.address.Addr.{Addr}
use Rattle.pm_view.specs.View.{SpaceView}
use Rattle.pm_view.specs.Collecting.{anchored}
use Rattle.pm_evac.specs.Steps.{IsNoted}

-- where no anchor stands the object at an address was noted, with the chooser's pick, and this tells whether it was
pub record IsAnchored {F : Type 0} (calls : Shared F (Bor (List ℕ) × Unit {0}) ℕ) (choose : F) (old new : SpaceView) (a : Addr) (noted : Bool) : Type 0 where
  pub picked : ℕ
  pub chosen : IsNoted calls choose old old.anchor a picked
  pub after : new ≡ record old { anchor = anchored old.anchor a picked }
  pub answer : noted ≡ not (is_some old.anchor)
