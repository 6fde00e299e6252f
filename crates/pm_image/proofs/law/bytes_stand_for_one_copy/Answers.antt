use Rattle.pm_image.proofs.StandsLaws.{one_copy, refused_or_stands}
use Rattle.pm_image.proofs.law.bytes_stand_for_one_copy.Goals as goal

-- src/law.rt:7:1
pub returns-clause-one : goal.returns-clause-one
returns-clause-one c = one_copy

-- src/law.rt:7:1
pub returns-clause-either : goal.returns-clause-either
returns-clause-either c = refused_or_stands
