use Rattle.std.proofs.Common.{ap, sym, subst}
use Rattle.pm_model.specs.Heap.{Heap}
use Rattle.pm_nursery.specs.Young.{NurseryView}
use Rattle.pm_nursery.specs.Sweeping.{IsDetached}
use Rattle.pm_nursery.proofs.Sound.{nursery_after}
use Rattle.pm_nursery.proofs.nursery.Nursery.carry_off.Goals as goal

pub invariant_of-self : goal.invariant_of-self
invariant_of-self c =
    let view : NurseryView = record { objects = c.self.inside.objects; registers = c.self.inside.registers } in
    let after : NurseryView = record { objects = c.remove_all.new.self; registers = c.forget_all.new.self } in
    let same = sym (ap (λ (n : NurseryView). n.objects) c.self.view_is) in
    nursery_after view after c.args.ids.now c.self.invariant (subst (λ (heap : Heap). IsDetached heap c.args.ids.now) same c.requires) (record { objects = c.remove_all.ensures; registers = c.forget_all.ensures })
