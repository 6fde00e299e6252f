use Rattle.pm_view.specs.Events.{fix}
use Rattle.pm_law_collect.proofs.PhasesLemmas.Comes.{comes_where}
use Rattle.pm_law_collect.proofs.ChangesLemmas.FixRow.{fix_was, fix_stored}
use Rattle.pm_law_collect.proofs.changes.fixing.a_source_that_is_fixed_named_a_place_that_moved.Goals as goal

pub returns-clause-before : goal.returns-clause-before
returns-clause-before c = λ view car source to law next. fix_was view car source to law (comes_where view (fix car source to) next)

pub returns-clause-after : goal.returns-clause-after
returns-clause-after c = λ view car picked number source y to law next. fix_stored view car source to law (comes_where view (fix car source to) next) y
