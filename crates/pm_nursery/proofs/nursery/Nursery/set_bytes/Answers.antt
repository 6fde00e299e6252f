use Rattle.std.proofs.Common.{◌≤◌, ◌+◌, length, ap, sym, subst}
use Rattle.std.specs.Option.{IsSomeAnd}
use Rattle.std.specs.FinMap.{get}
use Rattle.pm_model.specs.Heap.{Heap}
use Rattle.pm_nursery.specs.Young.{NurseryView}
use Rattle.pm_nursery.proofs.Sound.{bytes_sound}
use Rattle.pm_nursery.proofs.nursery.Nursery.set_bytes.Goals as goal

pub invariant_of-self : goal.invariant_of-self
invariant_of-self c =
    let view : NurseryView = record { objects = c.self.inside.objects; registers = c.self.inside.registers } in
    let same = sym (ap (λ (n : NurseryView). n.objects) c.self.view_is) in
    bytes_sound view c.self.invariant c.args.id c.set_bytes.new.self c.args.at c.args.from.now
    (subst (λ (heap : Heap). IsSomeAnd (get heap c.args.id) (λ object. c.args.at + length c.args.from.now ≤ length object.bytes)) same c.requires) c.set_bytes.ensures
