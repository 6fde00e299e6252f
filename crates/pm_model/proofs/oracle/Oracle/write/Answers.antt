use Rattle.std.proofs.Common.{◌≡◌, Some, sym, subst}
use Rattle.std.specs.FinMap.{get}
use Rattle.pm_model.specs.Heap.{Heap}
use Rattle.pm_model.specs.Oracles.{IsSound}
use Rattle.pm_model.proofs.Unused.{sound_changed}
use Rattle.pm_model.proofs.oracle.Oracle.write.Goals as goal

pub invariant_of-self-2 : goal.invariant_of-self-2
invariant_of-self-2 c =
    let there : get c.self.inside.objects c.args.id ≡ Some c.in-Some.node.now = sym c.in-Some.ensures in
    subst (λ (heap : Heap). IsSound heap c.self.inside.next) (sym c.in_ok-insert.ensures.ok)
    (sound_changed c.self.inside.objects c.self.inside.next c.args.id c.in-Some.node.now c.in_ok-node.node c.self.invariant there)
