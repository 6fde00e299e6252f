use Rattle.pm_law_saving.proofs.serving.laws.what_is_kept_needs_no_space.Goals as goal
use Rattle.pm_law_saving.proofs.ServingLemmas.Kept as kept

pub returns-clause-journal : goal.returns-clause-journal
returns-clause-journal c start = kept.spaceless

pub returns-clause-stored : goal.returns-clause-stored
returns-clause-stored c start it view s opened contents stored = record { tied = stored.tied; numbered = stored.numbered; has = stored.has }

pub returns-clause-images : goal.returns-clause-images
returns-clause-images c start it view opened disk keeps =
    record { later = keeps.later; told = keeps.told; now = keeps.now; ever = keeps.ever }
