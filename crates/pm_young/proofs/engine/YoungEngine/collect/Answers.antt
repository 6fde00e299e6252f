use Rattle.pm_young.proofs.Halted.{collect_reopens}
use Rattle.pm_young.proofs.engine.YoungEngine.collect.Goals as goal

pub returns-in-Some-clause-call : goal.returns-in-Some-clause-call
returns-in-Some-clause-call g c = collect_reopens c.args.self.now c.in-Some.halt c.in-Some.is g.F.Fn
