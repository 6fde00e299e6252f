use Rattle.pm_types.proofs.Lent.{found_in}
use Rattle.pm_space.proofs.links.LinkTable.get.Goals as goal

pub returns : goal.returns
returns c = found_in c.self.inside.links c.args.self.now c.self.view_is c.args.car _ c.get.ensures
