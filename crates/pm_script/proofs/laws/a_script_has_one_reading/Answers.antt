use Rattle.pm_script.proofs.ScriptLaws.{one_reading}
use Rattle.pm_script.proofs.laws.a_script_has_one_reading.Goals as goal

pub returns : goal.returns
returns c = one_reading
