use Rattle.std.proofs.Common.{sym, subst}
use Rattle.pm_model.specs.World.{Registers}
use Rattle.pm_nursery.specs.Young.{NurseryView, IsNursery}
use Rattle.pm_nursery.proofs.Sound.{closed_sound}
use Rattle.pm_nursery.proofs.nursery.Nursery.close.Goals as goal

pub invariant_of-self : goal.invariant_of-self
invariant_of-self c =
    let view : NurseryView = record { objects = c.self.inside.objects; registers = c.self.inside.registers } in
    subst (λ (r : Registers). IsNursery (record { objects = c.self.inside.objects; registers = r })) (sym c.close.ensures) (closed_sound view c.self.invariant c.args.client)
