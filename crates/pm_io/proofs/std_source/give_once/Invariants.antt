use Rattle.std.proofs.Common.{◌≡◌, ℕ, List, Some}
use Rattle.pm_io.proofs.TriesLemmas.{OnlyInterrupted}
use Rattle.pm_io.proofs.std_source.give_once.Given as goal

-- the tries so far were interrupted, and what is left stays
abbrev pub invariant-loop-turn : goal.invariant-loop-turn
invariant-loop-turn g l = record {
  kept : (bytes : List ℕ) → g.R.InStream.left l.initial.reader ≡ Some bytes → g.R.InStream.left l.reader ≡ Some bytes;
  interrupted : OnlyInterrupted l._turn (g.R.InStream.tries l.initial.reader) (g.R.InStream.tries l.reader);
}
