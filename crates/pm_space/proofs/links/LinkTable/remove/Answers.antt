use Rattle.std.proofs.Common.{ap, ◌∙◌}
use Rattle.std.specs.FinMap.{remove}
use Rattle.pm_space.proofs.links.LinkTable.remove.Goals as goal

pub returns : goal.returns
returns c = c.remove.ensures.after ∙ ap (λ v. remove v c.args.car) c.self.view_is
