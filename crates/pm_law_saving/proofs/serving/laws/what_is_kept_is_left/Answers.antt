use Rattle.pm_law_saving.proofs.serving.laws.what_is_kept_is_left.Goals as goal
use Rattle.pm_law_saving.proofs.ServingLemmas.Kept as kept

pub returns-clause-collected : goal.returns-clause-collected
returns-clause-collected c = kept.collected

pub returns-clause-flushed : goal.returns-clause-flushed
returns-clause-flushed c = kept.flushed

pub returns-clause-unanswered : goal.returns-clause-unanswered
returns-clause-unanswered c = kept.unanswered
