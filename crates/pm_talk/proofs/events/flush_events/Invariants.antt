use Rattle.std.proofs.Common.{None}
use Rattle.pm_engine.specs.Shown.{serving}
use Rattle.pm_talk.specs.Events.{FlushesAll}
use Rattle.pm_talk.specs.Going.{TalkGoesOn}
use Rattle.pm_talk.proofs.events.flush_events.Given as goal

-- so many events were made, and wrote so many pages
abbrev pub invariant-loop : goal.invariant-loop
invariant-loop g l =
    record {
      made : FlushesAll l.counter l.wrote (serving l.fn.engine) (serving l.engine);
      engine : TalkGoesOn l.fn.engine l.engine None;
    }
