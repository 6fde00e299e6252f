use Rattle.std.proofs.Common.{◌≡◌, [], None}
use Rattle.pm_script.specs.Parted.Asked.{steps_of}
use Rattle.pm_engine.specs.Events.Events.{AnswersPart}
use Rattle.pm_young.specs.Seen.{KeepsNursery, serving}
use Rattle.pm_young_run.specs.Stepping.{YoungGoesOnRun, line_of}
use Rattle.pm_young_run.proofs.event.make_events.Given as goal

abbrev pub invariant-loop : goal.invariant-loop
invariant-loop g l =
    record {
      answers : AnswersPart [] l.counter (steps_of (line_of l.kind l.counter)) (serving l.fn.engine) (serving l.engine)
          None;
      stays : (serving l.engine).journal ≡ (serving l.fn.engine).journal;
      course : (serving l.engine).course ≡ (serving l.fn.engine).course;
      engine : YoungGoesOnRun l.fn.engine l.engine None;
      nursery : KeepsNursery l.fn.engine l.engine;
    }
