-- Effective sets: what a car's remembered set is once its queued changes are applied.
use Rattle.std.specs.Prelude.{ℕ, List, [], ◌∷◌, Option, Some, None}
use Rattle.std.specs.FinMap.{get, insert, remove}
use Rattle.pm_types.specs.declared.source.RefSource.{RefSource}
use Rattle.pm_types.specs.declared.source.Change.{Change}
use Rattle.pm_view.specs.View.{Sources, SpaceView}

-- a remembered set where this source names the slot, or none
abbrev pub with_source : Sources → RefSource → Option ℕ → Sources
with_source set source None = remove set source
with_source set source (Some slot) = insert set source slot

-- a remembered set after these changes, the first one first
abbrev pub applied : Sources → List Change → Sources
applied set [] = set
applied set (change ∷ changes) = applied (with_source set change.source change.slot) changes

-- what the effective set of these two tells of a source
abbrev pub effective_in : Option Sources → Option (List Change) → RefSource → Option ℕ
effective_in None queue source = None
effective_in (Some set) None source = get set source
effective_in (Some set) (Some changes) source = get (applied set changes) source

-- the slot that the effective set of a car gives for a source
abbrev pub effective : SpaceView → ℕ → RefSource → Option ℕ
effective view car source = effective_in (get view.sets car) (get view.queues car) source
