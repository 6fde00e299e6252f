use Rattle.pm_inspect.proofs.Examples.{zero_text, one_text, two_text, first_line, first_live, first_names}
use Rattle.pm_inspect.proofs.laws.the_report_of_one_object.Goals as goal

pub returns : goal.returns
returns c = rw (first_names, first_line, first_live, zero_text, one_text, two_text)
