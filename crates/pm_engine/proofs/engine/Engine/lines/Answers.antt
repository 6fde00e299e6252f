use Rattle.std.proofs.Common.{◌∙◌, ap, List}
use Rattle.pm_types.specs.declared.event.Watch.{Watch}
use Rattle.pm_view.specs.Watches.{lines_from}
use Rattle.pm_engine.proofs.engine.Engine.lines.Goals as goal
use Rattle.pm_engine.specs.Works.Working.{view_in}
use Rattle.pm_engine.proofs.Bounding.{told_honest}

pub returns-clause-honest : goal.returns-clause-honest
returns-clause-honest g c = told_honest c.args.self.now.opening c.args.self.now.stopped c.args.self.now.works c.args.self.now.bounded _
    (c.tell_watches.ensures ∙ ap (λ (watches : List Watch). lines_from (view_in c.args.self.now.works) 1 watches) c.as_slice.ensures.value)
