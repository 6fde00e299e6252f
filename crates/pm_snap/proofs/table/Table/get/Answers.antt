use Rattle.std.proofs.Common.{ap, ◌∙◌}
use Rattle.std.specs.FinMap.{get}
use Rattle.pm_snap.proofs.table.Table.get.Goals as goal

pub returns : goal.returns
returns g c = c.get.ensures ∙ ap (λ s. get s.current c.args.key) c.self.view_is
