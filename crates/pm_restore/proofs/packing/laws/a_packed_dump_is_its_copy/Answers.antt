use Rattle.pm_restore.proofs.PackingLemmas.Copies.{copy_packed}
use Rattle.pm_restore.proofs.packing.laws.a_packed_dump_is_its_copy.Goals as goal

pub returns : goal.returns
returns c = copy_packed
