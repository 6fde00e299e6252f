use Rattle.std.proofs.Common.{◌≡◌, take}
use Rattle.pm_space.specs.Shown.{cars_of}
use Rattle.pm_evac.specs.Relocate.Moves.{led_fields}
use Rattle.pm_evac.proofs.relocate.moving.led_fields.Given as goal

-- where the fields so far lead
abbrev pub invariant-loop-field : goal.invariant-loop-field
invariant-loop-field l = l.there.items ≡ led_fields (cars_of l.cars) l.from l.to (take l.field-index l.fields)
