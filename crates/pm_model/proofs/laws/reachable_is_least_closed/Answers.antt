use Rattle.std.proofs.Common.{IsTrue}
use Rattle.pm_model.proofs.Reaching.{reachable_next, along}
use Rattle.pm_model.proofs.laws.reachable_is_least_closed.Goals as goal

pub returns-clause-closed : goal.returns-clause-closed
returns-clause-closed c heap starts from to reached holds = reachable_next heap (λ x. IsTrue (starts x)) from to reached holds

pub returns-clause-least : goal.returns-clause-least
returns-clause-least c heap starts inside begins keeps id reached =
    along heap (λ x. IsTrue (inside x)) keeps reached.0 reached.1 id (begins reached.0 reached.2) reached.3
