use Rattle.std.proofs.Common.{ap, sym, subst}
use Rattle.std.specs.Option.{IsSome}
use Rattle.std.specs.FinMap.{get, insert}
use Rattle.pm_model.specs.Heap.{Heap}
use Rattle.pm_model.specs.World.{Registers}
use Rattle.pm_nursery.specs.Young.{NurseryView, IsNursery}
use Rattle.pm_nursery.proofs.Reaches.{either_way}
use Rattle.pm_nursery.proofs.Sound.{held_sound}
use Rattle.pm_nursery.proofs.nursery.Nursery.hold.Goals as goal

pub invariant_of-self : goal.invariant_of-self
invariant_of-self c =
    let view : NurseryView = record { objects = c.self.inside.objects; registers = c.self.inside.registers } in
    let same = sym (ap (λ (n : NurseryView). n.objects) c.self.view_is) in
    either_way (λ (r : Registers). IsNursery (record { objects = c.self.inside.objects; registers = r })) c.hold.result c.self.inside.registers (insert c.self.inside.registers (c.args.client, c.args.register) c.args.id) c.hold.new.self
    c.hold.ensures.ok c.hold.ensures.err
    (held_sound view c.self.invariant c.args.client c.args.register c.args.id c.requires.client c.requires.register (subst (λ (heap : Heap). IsSome (get heap c.args.id)) same c.requires.there))
    c.self.invariant
