use Rattle.std.proofs.Common.{◌≡◌, ◌-◌, ◌≤◌, List, ℕ, Some, vec_len}
use Rattle.pm_types.specs.declared.limits.TheConstants.{SOURCE_BYTES}
use Rattle.pm_io.proofs.TakenSoFar.{IsTaken}
use Rattle.pm_io.proofs.reading.read_all.Given as goal

abbrev pub invariant-loop-all : goal.invariant-loop-all
invariant-loop-all g l = record {
  short : vec_len l.all ≤ SOURCE_BYTES;
  counted : g.S.Source.count l.source ≡ g.S.Source.count l.initial.source;
  taken : (bytes : List ℕ) → g.S.Source.left l.initial.source ≡ Some bytes → IsTaken bytes l.all.items (g.S.Source.left l.source);
}

-- each turn but the last takes a byte
abbrev pub decreases-loop-all : goal.decreases-loop-all
decreases-loop-all g l = SOURCE_BYTES - vec_len l.all
