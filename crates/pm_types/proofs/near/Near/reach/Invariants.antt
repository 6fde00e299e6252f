use Rattle.std.proofs.Common.{◌+◌, ◌-◌, length}
use Rattle.pm_types.specs.Near.{AddsNothing}
use Rattle.pm_types.proofs.near.Near.reach.Given as goal

abbrev pub invariant-loop-self : goal.invariant-loop-self
invariant-loop-self g l = AddsNothing l.fn.self.places.items l.self.places.items

abbrev pub decreases-loop-self : goal.decreases-loop-self
decreases-loop-self g l = (l.number + 1) - length l.self.places.items
