use Rattle.pm_runs.proofs.YoungLemmas.Counted.{few_young_events}
use Rattle.pm_runs.proofs.ends.reading.read_young_source.Goals as goal

pub returns-in-Ok-read_young_lines-clause-few : goal.returns-in-Ok-read_young_lines-clause-few
returns-in-Ok-read_young_lines-clause-few g c = few_young_events _ _ c.in-Ok-read_young_lines.ensures.found
