use Rattle.std.proofs.Common.{◌≡◌, [], None}
use Rattle.pm_engine.specs.Shown.{serving}
use Rattle.pm_engine.specs.Events.Events.{AnswersPart, EngineGoesOn}
use Rattle.pm_serial.specs.Stepping.{steps_made}
use Rattle.pm_serial.proofs.event.make_events.Given as goal

abbrev pub invariant-loop : goal.invariant-loop
invariant-loop g l =
    record {
      answers : AnswersPart [] l.counter (steps_made l.kind l.counter) (serving l.fn.engine) (serving l.engine) None;
      stays : (serving l.engine).journal ≡ (serving l.fn.engine).journal;
      course : (serving l.engine).course ≡ (serving l.fn.engine).course;
      engine : EngineGoesOn l.fn.engine l.engine None;
    }
