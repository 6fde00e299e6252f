use Rattle.pm_reopen.proofs.Refusals.{header_refused}
use Rattle.pm_inspect.proofs.tell.telling.tell_store.Goals as goal

pub returns-in-Err-clause-fault : goal.returns-in-Err-clause-fault
returns-in-Err-clause-fault g c bytes told = header_refused bytes c.in-Err.fault (c.in-Err.ensures.fault bytes told)
