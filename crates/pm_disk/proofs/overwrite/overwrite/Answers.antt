use Rattle.std.proofs.Common.{◌<◌, length, arith}
use Rattle.std.proofs.lemmas.Bool.Decides.{nat_tests}
use Rattle.pm_disk.proofs.WriteLemmas.{has_room, overwritten}
use Rattle.pm_disk.proofs.overwrite.overwrite.Goals as goal

pub lay-requires : goal.lay-requires
lay-requires c = has_room c.args.at (length c.args.bytes.now) c.args.file.now.items c.lengthen.new.file.items _ c.deref_mut.ensures.value c.in_ok-lengthen.ensures.ok

pub returns-clause-ok : goal.returns-clause-ok
returns-clause-ok c =
    let some : 0 < length c.args.bytes.now = grind (arith, nat_tests) in
    overwritten c.args.at c.args.bytes.now c.args.file.now.items c.lengthen.new.file.items _ c.lay.new.file c.lengthen.new.file.len some c.deref_mut.ensures.value c.in_ok-lengthen.ensures.ok c.lay.ensures (omega arith)
