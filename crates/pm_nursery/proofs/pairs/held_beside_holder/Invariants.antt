use Rattle.std.proofs.Common.{◌≡◌, take}
use Rattle.std.specs.List.{flat_map}
use Rattle.pm_nursery.proofs.Paired.{pairs_of}
use Rattle.pm_nursery.proofs.pairs.held_beside_holder.Given as goal

-- the pairs of the objects so far
abbrev pub invariant-loop-id : goal.invariant-loop-id
invariant-loop-id l = l.pairs.items ≡ flat_map pairs_of (take l.id-index l.young)
