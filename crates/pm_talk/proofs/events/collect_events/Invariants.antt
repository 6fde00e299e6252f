use Rattle.pm_engine.specs.History.{IsCollected}
use Rattle.pm_engine.specs.Shown.{serving}
use Rattle.std.proofs.Common.{None}
use Rattle.pm_talk.specs.Events.{Makes}
use Rattle.pm_talk.specs.Going.{TalkGoesOn}
use Rattle.pm_talk.proofs.events.collect_events.Given as goal

-- so many events were made
abbrev pub invariant-loop : goal.invariant-loop
invariant-loop g l =
    record {
      made : Makes IsCollected l.counter (serving l.fn.engine) (serving l.engine);
      engine : TalkGoesOn l.fn.engine l.engine None;
    }
