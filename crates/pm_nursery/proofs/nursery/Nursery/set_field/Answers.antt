use Rattle.std.proofs.Common.{◌<◌, length, ap, sym, subst}
use Rattle.std.specs.Option.{IfSome, IsSome, IsSomeAnd}
use Rattle.std.specs.FinMap.{get}
use Rattle.pm_model.specs.Heap.{Heap}
use Rattle.pm_nursery.specs.Young.{NurseryView}
use Rattle.pm_nursery.proofs.Sound.{field_sound}
use Rattle.pm_nursery.proofs.nursery.Nursery.set_field.Goals as goal

pub invariant_of-self : goal.invariant_of-self
invariant_of-self c =
    let view : NurseryView = record { objects = c.self.inside.objects; registers = c.self.inside.registers } in
    let same = sym (ap (λ (n : NurseryView). n.objects) c.self.view_is) in
    field_sound view c.self.invariant c.args.id c.set_field.new.self c.args.index c.args.value
    (subst (λ (heap : Heap). IsSomeAnd (get heap c.args.id) (λ object. c.args.index < length object.fields)) same c.requires.field)
    (subst (λ (heap : Heap). IfSome c.args.value (λ to. IsSome (get heap to))) same c.requires.value) c.set_field.ensures
