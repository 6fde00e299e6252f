use Rattle.std.proofs.Common.{ap, ◌∙◌}
use Rattle.std.specs.FinMap.{get}
use Rattle.pm_saving.specs.Progress.{slots_of}
use Rattle.pm_dump.specs.Dump.{Dump as Says}
use Rattle.pm_restore.specs.Parts.{cars_of_dump}
use Rattle.pm_restore.proofs.PartLemmas.{slots_found}
use Rattle.pm_restore.proofs.packed.PackedDump.slots_in.Goals as goal

pub returns : goal.returns
returns c =
    c.in_ok-slots.ensures
    ∙ slots_found c.self.inside.dump.now c.self.invariant.0 c.args.number _ _ c.range-from.ensures
    ∙ ap (λ (dump : Says). slots_of (get (cars_of_dump dump) c.args.number)) c.self.view_is
