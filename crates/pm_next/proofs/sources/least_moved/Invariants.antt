use Rattle.std.proofs.Common.{◌≡◌, take}
use Rattle.pm_remset.specs.Remembered.{first_that}
use Rattle.pm_next.specs.Sought.{is_moved}
use Rattle.pm_next.proofs.sources.least_moved.Given as goal

-- the least source that names a Moved slot of those so far
abbrev pub invariant-loop-entry : goal.invariant-loop-entry
invariant-loop-entry l = l.least ≡ first_that (λ _ slot. is_moved (take l.entry-index l.slots) slot) l.set
