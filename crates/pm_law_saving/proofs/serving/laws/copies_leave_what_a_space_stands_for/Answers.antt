use Rattle.pm_law_saving.proofs.serving.laws.copies_leave_what_a_space_stands_for.Goals as goal
use Rattle.pm_law_saving.proofs.ServingLemmas.Following.{leaves}

pub returns : goal.returns
returns c view world client cmd none stands = leaves view world stands client cmd none
