use Rattle.std.proofs.Common.{◌∙◌}
use Rattle.pm_shadow.proofs.RunLemmas.{looks_then}
use Rattle.pm_shadow.proofs.looking.read_slots.Goals as goal

pub returns-in_err-first-clause-looks : goal.returns-in_err-first-clause-looks
returns-in_err-first-clause-looks g c =
    let d = g.D.Disk in
    looks_then d.contents d.image d.moment d.since c.args.disk.now c.read_slot.new.disk c.read_slot-2.new.disk c.read_slot.ensures.looks c.read_slot-2.ensures.looks

pub returns-clause-looks : goal.returns-clause-looks
returns-clause-looks g c =
    let d = g.D.Disk in
    looks_then d.contents d.image d.moment d.since c.args.disk.now c.read_slot.new.disk c.read_slot-2.new.disk c.read_slot.ensures.looks c.read_slot-2.ensures.looks

pub returns-clause-read : goal.returns-clause-read
returns-clause-read g c bytes told =
    (c.in_ok-zeroth.ensures.read bytes told, c.in_ok-first.ensures.read bytes (c.read_slot.ensures.looks.told ∙ told))
