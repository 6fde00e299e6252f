use Rattle.pm_young.specs.Seen.{disk_in}
use Rattle.pm_young.proofs.Halted.{flush_reopens}
use Rattle.pm_young.proofs.engine.YoungEngine.flush.Goals as goal

pub returns-in-Some-clause-call : goal.returns-in-Some-clause-call
returns-in-Some-clause-call g c = flush_reopens c.args.self.now c.in-Some.halt c.in-Some.is (g.met.D.Disk.only_now (disk_in c.args.self.now))
