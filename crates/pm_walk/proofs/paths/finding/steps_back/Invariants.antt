use Rattle.std.proofs.Common.{◌≡◌, ℕ, ◌+◌, length, reverse, Some}
use Rattle.std.specs.List.{slice_get}
use Rattle.pm_space.specs.Shown.{view}
use Rattle.pm_walk.specs.Paths.Paths.{LeadsOn}
use Rattle.pm_walk.specs.Paths.ReadBack.{IsDeep}
use Rattle.pm_walk.proofs.paths.finding.steps_back.Given as goal

-- the steps so far, turned round, lead on from the object at hand
abbrev pub invariant-loop-found : goal.invariant-loop-found
invariant-loop-found g l = record {
  here : slice_get l.walk.found.items l.at ≡ Some l.found;
  leads : LeadsOn (view l.space.parts) l.found.at l.found.id (reverse l.steps.items) l.id;
  deep : (n : ℕ) → IsDeep l.walk.found.items n l.at → IsDeep l.walk.found.items (n + length l.steps.items) l.fn.place;
}

abbrev pub decreases-loop-found : goal.decreases-loop-found
decreases-loop-found g l = l.at
