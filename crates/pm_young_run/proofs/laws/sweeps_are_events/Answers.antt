use Rattle.pm_young_run.proofs.Asking.{events_same, flushes_same, requests_same, steps_same}
use Rattle.pm_young_run.proofs.laws.sweeps_are_events.Goals as goal

pub returns-clause-requests : goal.returns-clause-requests
returns-clause-requests c = requests_same

pub returns-clause-steps : goal.returns-clause-steps
returns-clause-steps c = steps_same

pub returns-clause-flushes : goal.returns-clause-flushes
returns-clause-flushes c = flushes_same

pub returns-clause-events : goal.returns-clause-events
returns-clause-events c = events_same
