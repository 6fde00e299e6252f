use Rattle.std.proofs.Common.{◌<◌, ap, sym, subst}
use Rattle.std.specs.FinMap.{insert, len}
use Rattle.pm_model.specs.Heap.{Heap}
use Rattle.pm_nursery.specs.declared.limits.TheConstants.{YOUNG}
use Rattle.pm_nursery.specs.Young.{NurseryView, IsNursery}
use Rattle.pm_nursery.proofs.Reaches.{either_way}
use Rattle.pm_nursery.proofs.Sound.{born_sound, null_names}
use Rattle.pm_nursery.proofs.nursery.Nursery.add.Goals as goal

pub invariant_of-self : goal.invariant_of-self
invariant_of-self c =
    let view : NurseryView = record { objects = c.self.inside.objects; registers = c.self.inside.registers } in
    let same = sym (ap (λ (n : NurseryView). n.objects) c.self.view_is) in
    either_way (λ (heap : Heap). IsNursery (record { objects = heap; registers = c.self.inside.registers })) c.insert.result c.self.inside.objects (insert c.self.inside.objects c.args.id c.args.young) c.insert.new.self
    c.insert.ensures.ok c.insert.ensures.err
    (born_sound view c.self.invariant c.args.id c.args.young (subst (λ (heap : Heap). len heap < YOUNG) same c.requires.few) c.requires.small (null_names view.objects c.args.young c.requires.null))
    c.self.invariant
