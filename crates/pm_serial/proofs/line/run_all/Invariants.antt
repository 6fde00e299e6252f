use Rattle.std.proofs.Common.{◌≡◌, List, ◌++◌, None, length}
use Rattle.pm_serial.specs.Output.Gathered.{gathered}
use Rattle.pm_script.specs.declared.line.Line.{Line}
use Rattle.pm_engine.specs.Shown.{serving}
use Rattle.pm_script.specs.Parted.Asked.{events_asked, requests_asked, steps_asked}
use Rattle.pm_engine.specs.Events.Events.{AnswersPart, EngineGoesOn}
use Rattle.pm_serial.specs.Stepping.{SinkGoesOn}
use Rattle.pm_serial.specs.Acknowledged.{KeepsSaved}
use Rattle.pm_serial.specs.Ordered.{TellsLines}
use Rattle.pm_serial.proofs.line.run_all.Given as goal

-- what the lines that are done did, and that the others are left
abbrev pub invariant-loop-line : goal.invariant-loop-line
invariant-loop-line g l =
    record {
      done : List Line;
      parted : done ++ l.left.items ≡ l.fn.lines.items;
      answers : AnswersPart (requests_asked done) (events_asked done) (steps_asked done) (serving l.fn.engine) (serving l.engine) None;
      saved : KeepsSaved g.K.Sink l.fn.sink l.sink (gathered l.fn.output) (serving l.fn.engine).journal (serving l.engine).journal None;
      course : TellsLines done (serving l.fn.engine) (serving l.engine) None;
      engine : EngineGoesOn l.fn.engine l.engine None;
      sink : SinkGoesOn g.K.Sink.written g.K.Sink.count l.fn.sink l.sink (gathered l.fn.output) (gathered l.output) (serving l.fn.engine).journal (serving l.engine).journal None;
    }

abbrev pub decreases-loop-line : goal.decreases-loop-line
decreases-loop-line g l = length l.left.items
