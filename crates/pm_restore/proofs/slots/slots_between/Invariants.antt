use Rattle.std.proofs.Common.{◌≡◌}
use Rattle.std.specs.Prelude.{slice_range}
use Rattle.pm_restore.specs.Packing.Packing.{address_of, packed_slots}
use Rattle.pm_restore.proofs.slots.slots_between.Given as goal

abbrev pub invariant-loop-place : goal.invariant-loop-place
invariant-loop-place l = l.slots.items ≡ packed_slots (address_of l.dump.objects) 0 (slice_range l.dump.objects l.from l.place)
