use Rattle.std.proofs.Common.{◌≡◌, ◌++◌, take}
use Rattle.std.specs.List.{flat_map}
use Rattle.pm_nursery.specs.Walking.{pair_of}
use Rattle.pm_nursery.proofs.pairs.push_pairs.Given as goal

abbrev pub invariant-loop-field : goal.invariant-loop-field
invariant-loop-field l = l.pairs.items ≡ l.initial.pairs.items ++ flat_map (pair_of l.id) (take l.field-index l.fields)
