use Rattle.pm_dump.proofs.Copies.{copy_sound, copy_spelled}
use Rattle.pm_law_dumps.proofs.Again.{copied_restored, store_restored}
use Rattle.pm_law_dumps.proofs.Ranged.{store_ranged}
use Rattle.pm_law_dumps.proofs.laws.a_dump_is_restored_as_its_copy.Goals as goal

pub returns-clause-copied : goal.returns-clause-copied
returns-clause-copied c = copied_restored

pub returns-clause-store : goal.returns-clause-store
returns-clause-store c = store_restored

pub returns-clause-read : goal.returns-clause-read
returns-clause-read c bytes number copy are stands = let range = store_ranged bytes number copy are stands in (copy_spelled copy range, copy_sound copy range)
