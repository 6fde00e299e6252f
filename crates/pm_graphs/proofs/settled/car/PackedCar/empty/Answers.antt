use Rattle.std.proofs.Common.{sym, subst, ap, ◌∙◌}
use Rattle.pm_graphs.specs.Settled.Packed.{IsPacked, unpacked}
use Rattle.pm_graphs.proofs.SettledLemmas.PackedLaws.{none_packed, none_unpacked}
use Rattle.pm_graphs.proofs.settled.car.PackedCar.empty.Goals as goal

pub invariant_of-result : goal.invariant_of-result
invariant_of-result c = subst (IsPacked 0) (sym c.new.ensures.items) none_packed

pub returns : goal.returns
returns c = λ i. record { number = 0; slots = (ap (unpacked 0) c.new.ensures.items ∙ none_unpacked) i }
