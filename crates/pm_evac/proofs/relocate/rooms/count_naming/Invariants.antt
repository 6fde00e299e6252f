use Rattle.std.proofs.Common.{◌≡◌, take}
use Rattle.pm_evac.specs.Relocate.Named.{naming}
use Rattle.pm_evac.proofs.relocate.rooms.count_naming.Given as goal

-- so many of the fields so far name a car
abbrev pub invariant-loop-field : goal.invariant-loop-field
invariant-loop-field l = l.many ≡ naming (take l.field-index l.fields)
