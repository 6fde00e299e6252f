use Rattle.std.proofs.Common.{◌-◌, length}
use Rattle.pm_dump.specs.Read.{dump_in}
use Rattle.pm_dump.proofs.Strays.{OverObjects}
use Rattle.pm_dump.proofs.dangling.stray_object.Given as goal

abbrev pub invariant-loop-index : goal.invariant-loop-index
invariant-loop-index l = OverObjects (dump_in l.fn.parts).objects l.fn.parts.places.items l.fn.parts.fields.items l.fn.parts.bytes.items l.from l.index

abbrev pub decreases-loop-index : goal.decreases-loop-index
decreases-loop-index l = length l.places - l.index
