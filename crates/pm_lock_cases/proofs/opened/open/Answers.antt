use Rattle.std.proofs.Common.{ap}
use Rattle.pm_saving.specs.Serving.{Serving}
use Rattle.pm_lock_cases.proofs.opened.open.Goals as goal

pub returns-in-Ok-clause-fresh : goal.returns-in-Ok-clause-fresh
returns-in-Ok-clause-fresh g c =
    let begins = c.in-Ok.ensures.begins in
    record {
      journal = ap (λ (it : Serving). it.journal) begins;
      course = ap (λ (it : Serving). it.course) begins;
      watches = ap (λ (it : Serving). it.watches) begins;
      events = ap (λ (it : Serving). it.events) begins;
      steps = ap (λ (it : Serving). it.steps) begins;
      stopped = ap (λ (it : Serving). it.stopped) begins;
      progress = c.in-Ok.ensures.idle;
    }
