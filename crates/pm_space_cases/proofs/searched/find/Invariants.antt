use Rattle.std.proofs.Common.{ℕ, ◌<◌, map, slice_index}
use Rattle.pm_trains.specs.Trains.{Train}
use Rattle.pm_space.specs.Shown.{view}
use Rattle.pm_space_cases.specs.Lacking.{LacksInTrain}
use Rattle.pm_space_cases.proofs.searched.find.Given as goal

-- no train so far has the identity
abbrev pub invariant-loop-place : goal.invariant-loop-place
invariant-loop-place g l = (q : ℕ) → q < l.place → LacksInTrain (view l.space.parts) l.id (slice_index (map (λ (t : Train). t.number) l.space.parts.trains.trains) q)
