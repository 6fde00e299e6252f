use Rattle.pm_law_saving.proofs.serving.laws.a_served_command_goes_on.Goals as goal
use Rattle.pm_law_saving.proofs.ServingLemmas.Following.{fresh, acted, busy, spent, begins, idle, settles, undropped, drops, watches_set, watches_full}

pub returns-clause-fresh : goal.returns-clause-fresh
returns-clause-fresh c = fresh

pub returns-clause-act : goal.returns-clause-act
returns-clause-act c = acted

pub returns-clause-busy : goal.returns-clause-busy
returns-clause-busy c = busy

pub returns-clause-spent : goal.returns-clause-spent
returns-clause-spent c = spent

pub returns-clause-begun : goal.returns-clause-begun
returns-clause-begun c = begins

pub returns-clause-idle : goal.returns-clause-idle
returns-clause-idle c = idle

pub returns-clause-saved : goal.returns-clause-saved
returns-clause-saved c = settles

pub returns-clause-undropped : goal.returns-clause-undropped
returns-clause-undropped c = undropped

pub returns-clause-dropped : goal.returns-clause-dropped
returns-clause-dropped c = drops

pub returns-clause-watching : goal.returns-clause-watching
returns-clause-watching c = watches_set

pub returns-clause-full : goal.returns-clause-full
returns-clause-full c = watches_full
