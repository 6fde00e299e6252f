use Rattle.std.proofs.Common.{[], None, take}
use Rattle.pm_serial.specs.Output.Gathered.{gathered}
use Rattle.pm_serial.specs.Stepping.{SinkGoesOn}
use Rattle.pm_serial.proofs.journal.put_journal.Given as goal

-- the lines of the entries so far were gathered
abbrev pub invariant-loop-entry : goal.invariant-loop-entry
invariant-loop-entry g l =
    record { goes : SinkGoesOn g.K.Sink.written g.K.Sink.count l.fn.sink l.sink (gathered l.fn.output) (gathered l.output) [] (take l.entry-index l.journal) None }
