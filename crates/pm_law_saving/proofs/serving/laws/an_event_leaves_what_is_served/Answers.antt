use Rattle.pm_law_saving.proofs.serving.laws.an_event_leaves_what_is_served.Goals as goal
use Rattle.pm_law_saving.proofs.ServingLemmas.Following.{collected}

pub returns : goal.returns
returns c = collected
