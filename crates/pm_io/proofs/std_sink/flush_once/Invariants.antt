use Rattle.std.proofs.Common.{◌≡◌, ℕ, List, Some}
use Rattle.pm_io.proofs.TriesLemmas.{OnlyInterrupted}
use Rattle.pm_io.proofs.std_sink.flush_once.Given as goal

-- the tries so far were interrupted, and what is written stays
abbrev pub invariant-loop-turn : goal.invariant-loop-turn
invariant-loop-turn g l = record {
  kept : (bytes : List ℕ) → g.W.OutStream.written l.initial.writer ≡ Some bytes → g.W.OutStream.written l.writer ≡ Some bytes;
  flush_stays : g.W.OutStream.flushed l.writer ≡ g.W.OutStream.flushed l.initial.writer;
  interrupted : OnlyInterrupted l._turn (g.W.OutStream.tries l.initial.writer) (g.W.OutStream.tries l.writer);
}
