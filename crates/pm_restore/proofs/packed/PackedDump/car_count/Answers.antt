use Rattle.std.proofs.Common.{ℕ, List, length, ap, ◌∙◌}
use Rattle.pm_dump.specs.Dump.{Dump as Says}
use Rattle.pm_restore.specs.Packing.Packing.{packed_cars}
use Rattle.pm_restore.proofs.PartLemmas.{cars_counted}
use Rattle.pm_restore.proofs.packed.PackedDump.car_count.Goals as goal

pub returns : goal.returns
returns c =
    c.car_count.ensures
    ∙ ap (λ (xs : List ℕ). length xs) c.self.invariant.1
    ∙ cars_counted c.self.inside.dump.now
    ∙ ap (λ (dump : Says). length (packed_cars dump)) c.self.view_is
