use Rattle.pm_restore.proofs.PackingLemmas.Accepted.{packed_accepted}
use Rattle.pm_restore.proofs.packing.laws.a_packed_dump_is_accepted.Goals as goal

pub returns : goal.returns
returns c = packed_accepted
