use Rattle.pm_inspect.proofs.TellLemmas.OneReport.{one_report}
use Rattle.pm_inspect.proofs.tell.laws.a_store_has_one_report.Goals as goal

pub returns : goal.returns
returns c = one_report
