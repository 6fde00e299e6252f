use Rattle.pm_engine.proofs.engine.Engine.flush.Goals as goal
use Rattle.pm_engine.proofs.Telling.{flush_reopens}

pub returns-in-Some-clause-call : goal.returns-in-Some-clause-call
returns-in-Some-clause-call g c = flush_reopens c.args.self.now c.in-Some.count c.in-Some.is
