use Rattle.std.proofs.Common.{refl}
use Rattle.pm_law_copies.proofs.LayoutLemmas.MovedPlan.{moved_of_store}
use Rattle.pm_law_copies.proofs.layout.examples.a_plan_may_have_moved_slots.Goals as goal

pub returns-clause-of_store : goal.returns-clause-of_store
returns-clause-of_store c = moved_of_store

pub returns-clause-entries : goal.returns-clause-entries
returns-clause-entries c = refl

pub returns-clause-pages : goal.returns-clause-pages
returns-clause-pages c = refl
