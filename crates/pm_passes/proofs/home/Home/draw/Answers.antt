use Rattle.pm_passes.proofs.Steps.{slot_held}
use Rattle.pm_passes.proofs.home.Home.draw.Goals as goal

pub slot_mut-slot-requires : goal.slot_mut-slot-requires
slot_mut-slot-requires g c = (c.requires.seat, slot_held _ _ _ c.requires.has)
