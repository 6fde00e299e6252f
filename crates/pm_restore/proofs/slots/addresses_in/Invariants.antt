use Rattle.std.proofs.Common.{◌≡◌, map, take}
use Rattle.std.specs.Prelude.{option_map}
use Rattle.pm_restore.specs.Packing.Packing.{address_of}
use Rattle.pm_restore.proofs.slots.addresses_in.Given as goal

abbrev pub invariant-loop-field : goal.invariant-loop-field
invariant-loop-field l = l.addresses.items ≡ map (option_map (address_of l.dump.objects)) (take l.field-index l.fields)
