use Rattle.pm_script.proofs.YoungLaws.{one_young_reading}
use Rattle.pm_script.proofs.laws.a_young_script_has_one_reading.Goals as goal

pub returns : goal.returns
returns c = one_young_reading
