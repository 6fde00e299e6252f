use Rattle.std.proofs.Common.{◌≡◌, true, subst}
use Rattle.pm_image.specs.declared.car.CarImage.{CarImage}
use Rattle.pm_graphs.proofs.SettledLemmas.PackedLaws.{compared}
use Rattle.pm_graphs.proofs.settled.car.PackedCar.has_slots.Goals as goal

pub returns-then-self-slots : goal.returns-then-self-slots
returns-then-self-slots c =
    subst (λ (car : CarImage). (c.spell.result ≡ true → c.args.slots.now ≡ car.slots) × (c.args.slots.now ≡ car.slots → c.spell.result ≡ true)) c.self.view_is
    (compared c.spell.result c.deref.result.now c.self.inside.records.items c.self.inside.count c.args.slots.now c.self.invariant c.deref.ensures.value c.spell.ensures.yes c.spell.ensures.no)
