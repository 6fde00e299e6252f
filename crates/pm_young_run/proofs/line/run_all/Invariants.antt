use Rattle.std.proofs.Common.{◌≡◌, List, ◌++◌, None, length}
use Rattle.pm_script.specs.declared.line.YoungLine.{YoungLine}
use Rattle.pm_script.specs.Parted.Asked.{events_asked, requests_asked, steps_asked}
use Rattle.pm_engine.specs.Events.Events.{AnswersPart}
use Rattle.pm_serial.specs.Acknowledged.{KeepsSaved}
use Rattle.pm_serial.specs.Ordered.{TellsLines}
use Rattle.pm_serial.specs.Output.Gathered.{gathered}
use Rattle.pm_serial.specs.Stepping.{SinkGoesOn}
use Rattle.pm_young.specs.Seen.{serving}
use Rattle.pm_young_run.specs.Asked.{as_lines}
use Rattle.pm_young_run.specs.Entered.{EntersAll}
use Rattle.pm_young_run.specs.Stepping.{YoungGoesOnRun}
use Rattle.pm_young_run.proofs.line.run_all.Given as goal

-- what the lines that are done did, and that the others are left
abbrev pub invariant-loop-line : goal.invariant-loop-line
invariant-loop-line g l =
    record {
      done : List YoungLine;
      parted : done ++ l.left.items ≡ l.fn.lines.items;
      answers : AnswersPart (requests_asked (as_lines done)) (events_asked (as_lines done))
          (steps_asked (as_lines done)) (serving l.fn.engine) (serving l.engine) None;
      saved : KeepsSaved g.K.Sink l.fn.sink l.sink (gathered l.fn.output) (serving l.fn.engine).journal
          (serving l.engine).journal None;
      course : TellsLines (as_lines done) (serving l.fn.engine) (serving l.engine) None;
      engine : YoungGoesOnRun l.fn.engine l.engine None;
      enters : EntersAll done l.fn.engine l.engine;
      sink : SinkGoesOn g.K.Sink.written g.K.Sink.count l.fn.sink l.sink (gathered l.fn.output) (gathered l.output)
          (serving l.fn.engine).journal (serving l.engine).journal None;
    }

abbrev pub decreases-loop-line : goal.decreases-loop-line
decreases-loop-line g l = length l.left.items
