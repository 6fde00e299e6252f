use Rattle.pm_engine.specs.Works.Working.{disk_at}
use Rattle.pm_young.proofs.Reopened.{client_reopens}
use Rattle.pm_young.proofs.engine.YoungEngine.give.Goals as goal

pub returns-in-Some-clause-call : goal.returns-in-Some-clause-call
returns-in-Some-clause-call g c = client_reopens c.args.self.now c.in-Some.halt c.in-Some.is (g.met.D.Disk.only_now (disk_at c.args.self.now.works)) c.args.client c.args.cmd
