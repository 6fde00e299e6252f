use Rattle.std.proofs.Common.{refl}
use Rattle.pm_law_collect.proofs.TracesLemmas.Again.{comes_next, is_told, none_before, none_after, held_after, gone_after}
use Rattle.pm_law_collect.proofs.traces.traces.a_number_is_used_again.Goals as goal

pub returns-clause-kept : goal.returns-clause-kept
returns-clause-kept c = refl

pub returns-clause-swept : goal.returns-clause-swept
returns-clause-swept c = comes_next

pub returns-clause-told : goal.returns-clause-told
returns-clause-told c = is_told

pub returns-clause-before : goal.returns-clause-before
returns-clause-before c = none_before

pub returns-clause-none : goal.returns-clause-none
returns-clause-none c = none_after

pub returns-clause-held : goal.returns-clause-held
returns-clause-held c = held_after

pub returns-clause-gone : goal.returns-clause-gone
returns-clause-gone c = gone_after
