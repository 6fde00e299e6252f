use Rattle.std.proofs.Common.{ap}
use Rattle.pm_saving.specs.Serving.{Serving}
use Rattle.pm_young_cases.proofs.serial.replies_on.Goals as goal

pub replies_of-requires-clause-fresh : goal.replies_of-requires-clause-fresh
replies_of-requires-clause-fresh c =
    let begins = c.in-Ok.ensures.begins in
    record {
      journal = ap (λ (it : Serving). it.journal) begins;
      course = ap (λ (it : Serving). it.course) begins;
      watches = ap (λ (it : Serving). it.watches) begins;
      events = ap (λ (it : Serving). it.events) begins;
      steps = ap (λ (it : Serving). it.steps) begins;
      stopped = ap (λ (it : Serving). it.stopped) begins;
      progress = c.in-Ok.ensures.idle;
    }
