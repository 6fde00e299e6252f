-- Paths that are read back from a walk.
use Rattle.std.specs.Prelude.{◌≡◌, ℕ, zero, suc, ◌+◌, List, length, reverse, Some, None, IsSomeAnd, slice_get}
use Rattle.pm_view.specs.View.{SpaceView}
use Rattle.pm_walk.specs.declared.walk.Found.{Found}
use Rattle.pm_walk.specs.declared.walk.Walk.{Walk}
use Rattle.pm_walk.specs.declared.paths.path.PathStep.{PathStep}
use Rattle.pm_walk.specs.Paths.Paths.{Path, LeadsOn}

-- so many holders lead from a name's object to the one that was found at a place
abbrev pub IsDeep : List Found → ℕ → ℕ → Type 0
IsDeep found zero place = IsSomeAnd (slice_get found place) (λ one. one.from ≡ None)
IsDeep found (suc count) place = IsSomeAnd (slice_get found place) (λ one. (holder : ℕ) × (one.from ≡ Some holder) × IsDeep found count holder)

abbrev pub IsAsDeep : List Found → ℕ → ℕ → Type 0
IsAsDeep found place count = IsDeep found count place

-- the path has one step more than there are holders
abbrev pub IsPathAsDeep : List Found → ℕ → Path → Type 0
IsPathAsDeep found place path = (count : ℕ) × (length path.steps ≡ count + 1) × IsDeep found count place

-- the object was found by a name, and the steps, which were read from their end, lead on from it
pub record IsReadBack (view : SpaceView) (walk : Walk) (id : ℕ) (first : Found) (steps : List PathStep) : Type 0 where
  pub place : ℕ
  pub here : slice_get walk.found.items place ≡ Some first
  pub named : first.from ≡ None
  pub leads : LeadsOn view first.at first.id (reverse steps) id
