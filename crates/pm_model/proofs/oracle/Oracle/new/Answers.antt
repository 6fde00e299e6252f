use Rattle.std.proofs.Common.{sym, subst}
use Rattle.pm_model.specs.Heap.{Heap}
use Rattle.pm_model.specs.Oracles.{IsSound}
use Rattle.pm_model.proofs.Unused.{sound_empty}
use Rattle.pm_model.proofs.oracle.Oracle.new.Goals as goal

pub invariant_of-result : goal.invariant_of-result
invariant_of-result c = subst (λ (heap : Heap). IsSound heap 1) (sym c.new.ensures) sound_empty
