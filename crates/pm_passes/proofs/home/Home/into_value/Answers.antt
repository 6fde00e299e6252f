use Rattle.std.proofs.Common.{◌∙◌}
use Rattle.pm_passes.proofs.Steps.{slot_held}
use Rattle.pm_passes.proofs.home.Home.into_value.Goals as goal

pub exchange-requires : goal.exchange-requires
exchange-requires g c =
    let taken = c.take_out-hold.ensures in
    (taken.table ∙ c.requires.seat, slot_held _ _ _ taken.out)
