use Rattle.pm_view.specs.Candidates.{queue_of}
use Rattle.pm_space.specs.Shown.{view}
use Rattle.pm_evac.proofs.RelocateLemmas.Views.{is_applied, on_both}
use Rattle.pm_evac.proofs.relocate.applying.apply.Goals as goal

pub returns-clause-ok : goal.returns-clause-ok
returns-clause-ok g c =
    let v = view c.args.parts.now in
    on_both c.apply_front.result (λ took lost. is_applied v c.args.car (queue_of v c.args.car) _ _ took lost) c.apply_front.ensures.sets c.apply_front.ensures.queues
