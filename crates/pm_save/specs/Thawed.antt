-- A space whose cars are frozen no more.
use Rattle.std.specs.Prelude.{◌≡◌, None, Result, MatchResult}
use Rattle.pm_space.specs.declared.parts.Parts.{Parts}
use Rattle.pm_space.specs.Shown.{view}
use Rattle.pm_save.specs.declared.progress.fault.SaveFault.{SaveFault}
use Rattle.pm_save.specs.Shown.{frozen_of}

-- What is seen of the space stays, and so does its chooser.
pub record IsThawed {F : Type 0} (old new : Parts F) : Type 0 where
  pub view : view new ≡ view old
  pub place : new.place ≡ old.place
  pub frozen : frozen_of new ≡ None

-- what is seen of the space stays, and its chooser; its cars are frozen no more after Ok, and as before otherwise
pub record LeavesSpace {F T : Type 0} (old new : Parts F) (result : Result T SaveFault) : Type 0 where
  pub view : view new ≡ view old
  pub place : new.place ≡ old.place
  pub frozen : MatchResult result (λ _. frozen_of new ≡ None) (λ _. frozen_of new ≡ frozen_of old)
