use Rattle.pm_law_saving.proofs.serving.laws.what_is_stored_is_told.Goals as goal
use Rattle.pm_law_saving.proofs.ServingLemmas.Stored.{splits_stored}

pub returns : goal.returns
returns c = splits_stored
