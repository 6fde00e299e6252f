use Rattle.pm_law_saving.proofs.serving.laws.an_engine_begins_to_serve.Goals as goal
use Rattle.pm_law_saving.proofs.ServingLemmas.Opening.{begins_served}

pub returns : goal.returns
returns c = begins_served
