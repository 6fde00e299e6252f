use Rattle.std.proofs.Common.{◌≡◌, ℕ, take}
use Rattle.std.specs.List.{list_any}
use Rattle.std.specs.Ordering.{nat_cmp}
use Rattle.std.specs.BTreeSet as sorted
use Rattle.pm_next.specs.Ways.Ways.{naming_train, is_train}
use Rattle.pm_next.proofs.ways.ways.naming.Given as goal

-- the trains of the sources so far
abbrev pub invariant-loop-source : goal.invariant-loop-source
invariant-loop-source g l = (n : ℕ) → sorted.contains nat_cmp l.trains n ≡ list_any (λ source. is_train (naming_train l.parts.trains.trains l.train source) n) (take l.source-index l.sources)
