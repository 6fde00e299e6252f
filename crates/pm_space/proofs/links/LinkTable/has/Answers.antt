use Rattle.std.proofs.Common.{ap, refl, ◌∙◌}
use Rattle.std.specs.Option.{is_some}
use Rattle.pm_types.proofs.Lent.{found_in}
use Rattle.pm_space.proofs.links.LinkTable.has.Goals as goal

pub returns : goal.returns
returns c = c.has.ensures ∙ ap is_some (found_in c.self.inside.links c.args.self.now c.self.view_is c.args.car _ refl)
