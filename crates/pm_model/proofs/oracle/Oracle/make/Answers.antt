use Rattle.std.proofs.Common.{◌≡◌, ◌+◌, ◌≤◌, sym, subst, ap, ◌∙◌, arith}
use Rattle.std.specs.FinMap.{remove}
use Rattle.pm_model.specs.Heap.{Heap}
use Rattle.pm_model.specs.World.{Registers}
use Rattle.pm_model.specs.Oracles.{IsSound, world_of}
use Rattle.pm_model.proofs.Unused.{taken_back, sound_insert}
use Rattle.pm_model.proofs.oracle.Oracle.make.Goals as goal

pub invariant_of-self-in-Err : goal.invariant_of-self-in-Err
invariant_of-self-in-Err c =
    let back : c.remove.new.self ≡ c.self.inside.objects =
    c.remove.ensures ∙ ap (λ (heap : Heap). remove heap c.self.inside.next) c.in_ok-insert.ensures.ok
    ∙ taken_back c.self.inside.objects c.self.inside.next c.in_ok-node.node (c.self.invariant.unused c.self.inside.next (omega arith)) in
    subst (λ (heap : Heap). IsSound heap c.self.inside.next) (sym back) c.self.invariant

pub returns-in-Err-clause-err : goal.returns-in-Err-clause-err
returns-in-Err-clause-err c =
    let back : c.remove.new.self ≡ c.self.inside.objects =
    c.remove.ensures ∙ ap (λ (heap : Heap). remove heap c.self.inside.next) c.in_ok-insert.ensures.ok
    ∙ taken_back c.self.inside.objects c.self.inside.next c.in_ok-node.node (c.self.invariant.unused c.self.inside.next (omega arith)) in
    ap (λ (heap : Heap). world_of heap c.self.inside.roots c.set.new.self c.self.inside.next c.self.inside.settled c.self.inside.settled_copy c.self.inside.saving c.self.inside.watches) back
    ∙ ap (λ (registers : Registers). world_of c.self.inside.objects c.self.inside.roots registers c.self.inside.next c.self.inside.settled c.self.inside.settled_copy c.self.inside.saving c.self.inside.watches) c.in-Err.ensures.err
    ∙ c.self.view_is

pub invariant_of-self-2 : goal.invariant_of-self-2
invariant_of-self-2 c =
    let small : c.self.inside.next ≤ 4294967295 = omega arith in
    subst (λ (heap : Heap). IsSound heap (c.self.inside.next + 1)) (sym c.in_ok-insert.ensures.ok)
    (sound_insert c.self.inside.objects c.self.inside.next c.in_ok-node.node c.self.invariant small)
