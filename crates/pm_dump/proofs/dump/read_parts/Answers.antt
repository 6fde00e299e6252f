use Rattle.std.proofs.Common.{inr, refl}
use Rattle.pm_dump.specs.Read.{dump_in}
use Rattle.pm_dump.proofs.Reader.{places_ascend, sound_read, dangling_fault}
use Rattle.pm_dump.proofs.dump.read_parts.Goals as goal

pub first_dangling-requires-clause-sorted : goal.first_dangling-requires-clause-sorted
first_dangling-requires-clause-sorted c =
    let parts = c.read_lines.new.parts in
    places_ascend c.args.bytes.now (dump_in parts) parts.places.items parts.fields.items parts.bytes.items refl c.in-Ok.ensures.spelled c.in-Ok.ensures.placed

pub returns-in-Some-clause-bad : goal.returns-in-Some-clause-bad
returns-in-Some-clause-bad c = inr (dangling_fault c.args.bytes.now (dump_in c.read_lines.new.parts) c.in-Some.number c.in-Ok.ensures.spelled c.in-Ok.ensures.placed c.in-Some.ensures)

pub returns-in-None-clause-sound : goal.returns-in-None-clause-sound
returns-in-None-clause-sound c = sound_read c.args.bytes.now (dump_in c.read_lines.new.parts) c.in-Ok.ensures.spelled c.in-Ok.ensures.placed c.in-None.ensures
