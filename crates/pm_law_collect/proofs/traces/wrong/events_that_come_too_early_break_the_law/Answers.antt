use Rattle.pm_law_collect.proofs.TracesLemmas.TooEarly.{hears_first, swept_too_early, newer_first, written_over, anchor_first, left_behind}
use Rattle.pm_law_collect.proofs.traces.wrong.events_that_come_too_early_break_the_law.Goals as goal

pub returns-clause-queued : goal.returns-clause-queued
returns-clause-queued c = hears_first

pub returns-clause-swept : goal.returns-clause-swept
returns-clause-swept c = swept_too_early

pub returns-clause-newer : goal.returns-clause-newer
returns-clause-newer c = newer_first

pub returns-clause-written_over : goal.returns-clause-written_over
returns-clause-written_over c = written_over

pub returns-clause-anchor : goal.returns-clause-anchor
returns-clause-anchor c = anchor_first

pub returns-clause-left_behind : goal.returns-clause-left_behind
returns-clause-left_behind c = left_behind
