use Rattle.pm_law_saving.proofs.serving.laws.a_kept_command_goes_on.Goals as goal
use Rattle.pm_law_saving.proofs.ServingLemmas.Kept as kept

pub returns-clause-fresh : goal.returns-clause-fresh
returns-clause-fresh c = kept.fresh

pub returns-clause-act : goal.returns-clause-act
returns-clause-act c = kept.acted

pub returns-clause-busy : goal.returns-clause-busy
returns-clause-busy c = kept.busy

pub returns-clause-spent : goal.returns-clause-spent
returns-clause-spent c = kept.spent

pub returns-clause-begun : goal.returns-clause-begun
returns-clause-begun c = kept.begins

pub returns-clause-idle : goal.returns-clause-idle
returns-clause-idle c = kept.idle

pub returns-clause-saved : goal.returns-clause-saved
returns-clause-saved c = kept.settles

pub returns-clause-undropped : goal.returns-clause-undropped
returns-clause-undropped c = kept.undropped

pub returns-clause-dropped : goal.returns-clause-dropped
returns-clause-dropped c = kept.drops

pub returns-clause-watching : goal.returns-clause-watching
returns-clause-watching c = kept.watches_set

pub returns-clause-full : goal.returns-clause-full
returns-clause-full c = kept.watches_full
