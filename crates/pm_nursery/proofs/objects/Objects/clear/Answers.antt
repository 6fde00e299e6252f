use Rattle.std.proofs.Common.{false}
use Rattle.std.specs.Cmp.{nat_cmp_total}
use Rattle.std.specs.FinMap.{nat_cmp-IsAntisymmetric}
use Rattle.pm_nursery.proofs.Alone.{nothing_listed}
use Rattle.pm_nursery.proofs.Rows.{none_listed}
use Rattle.pm_nursery.proofs.objects.Objects.clear.Goals as goal

pub invariant_of-self : goal.invariant_of-self
invariant_of-self c = nothing_listed c.new.result.items c.new.ensures.items false

pub returns : goal.returns
returns c = none_listed nat_cmp_total nat_cmp-IsAntisymmetric c.new.result.items c.new.ensures.items
