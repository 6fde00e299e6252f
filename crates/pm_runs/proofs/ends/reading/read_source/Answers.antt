use Rattle.pm_runs.proofs.EndsLemmas.Counted.{few_events}
use Rattle.pm_runs.proofs.ends.reading.read_source.Goals as goal

pub returns-in-Ok-read_lines-clause-few : goal.returns-in-Ok-read_lines-clause-few
returns-in-Ok-read_lines-clause-few g c = few_events _ _ c.in-Ok-read_lines.ensures.found
