use Rattle.std.proofs.Common.{refl}
use Rattle.pm_restore.proofs.PackingLemmas.Filled.{filled_one, filled_whole, sound_filled}
use Rattle.pm_restore.proofs.packing.laws.objects_are_filled_in_one_way.Goals as goal

pub returns-clause-whole : goal.returns-clause-whole
returns-clause-whole c = filled_whole

pub returns-clause-some : goal.returns-clause-some
returns-clause-some c = sound_filled

pub returns-clause-one : goal.returns-clause-one
returns-clause-one c = filled_one

pub returns-clause-none : goal.returns-clause-none
returns-clause-none c = refl
