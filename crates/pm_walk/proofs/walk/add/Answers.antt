use Rattle.std.specs.Cmp.{nat_cmp_total}
use Rattle.std.specs.FinMap.{nat_cmp-IsAntisymmetric}
use Rattle.pm_types.proofs.Shown.{insert_shown}
use Rattle.pm_walk.proofs.walk.add.Goals as goal

pub returns-clause-met : goal.returns-clause-met
returns-clause-met c = insert_shown nat_cmp_total nat_cmp-IsAntisymmetric c.args.walk.now.met c.insert.new.self c.args.found.id c.args.found.at c.in_ok-insert.ensures.updates
