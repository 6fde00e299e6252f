use Rattle.pm_engine.proofs.engine.Engine.collect.Goals as goal
use Rattle.pm_engine.proofs.Telling.{collect_reopens}

pub returns-in-Some-clause-call : goal.returns-in-Some-clause-call
returns-in-Some-clause-call g c = collect_reopens c.args.self.now c.in-Some.count c.in-Some.is g.F.Fn
