use Rattle.pm_law_copies.proofs.LayoutLemmas.FirstPlan.{holds_first}
use Rattle.pm_law_copies.proofs.layout.examples.a_first_checkpoint_is_a_plan.Goals as goal

pub returns : goal.returns
returns c = holds_first
