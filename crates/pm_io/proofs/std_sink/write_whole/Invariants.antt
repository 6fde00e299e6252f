use Rattle.std.proofs.Common.{◌≡◌, ℕ, ◌-◌, ◌≤◌, List, ◌++◌, length, take, Some}
use Rattle.pm_io.specs.Tries.{NoneFailed}
use Rattle.pm_io.proofs.std_sink.write_whole.Given as goal

-- so many bytes of the piece are written
abbrev pub invariant-loop-done : goal.invariant-loop-done
invariant-loop-done g l = record {
  within : l.done ≤ length l.from;
  written : (bytes : List ℕ) → g.W.OutStream.written l.initial.writer ≡ Some bytes → g.W.OutStream.written l.writer ≡ Some (bytes ++ take l.done l.from);
  flush_stays : g.W.OutStream.flushed l.writer ≡ g.W.OutStream.flushed l.initial.writer;
  none_failed : NoneFailed (g.W.OutStream.tries l.initial.writer) (g.W.OutStream.tries l.writer);
}

abbrev pub decreases-loop-done : goal.decreases-loop-done
decreases-loop-done g l = length l.from - l.done
