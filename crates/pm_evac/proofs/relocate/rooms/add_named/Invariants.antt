use Rattle.std.proofs.Common.{◌≡◌, ◌+◌, ℕ, take}
use Rattle.pm_space.specs.Linked.{times}
use Rattle.pm_evac.specs.Relocate.Named.{named_by}
use Rattle.pm_evac.proofs.relocate.rooms.add_named.Given as goal

-- the cars that the fields so far name were appended
abbrev pub invariant-loop-field : goal.invariant-loop-field
invariant-loop-field l = (car : ℕ) → times car l.cars.items ≡ times car l.initial.cars.items + named_by (take l.field-index l.fields) car
