use Rattle.pm_disk.proofs.DiskSteps.{sync_only, sync_less, sync_failed}
use Rattle.pm_disk.proofs.mem_disk.MemDiskDisk.sync.Goals as goal

pub returns-clause-only : goal.returns-clause-only
returns-clause-only c = sync_only c.args.self.now c.pass.new.self c.pass.result c.pass.ensures.exact

pub returns-clause-no_more : goal.returns-clause-no_more
returns-clause-no_more c = sync_less c.args.self.now c.pass.new.self c.pass.result c.pass.ensures.exact

pub returns-clause-failed : goal.returns-clause-failed
returns-clause-failed c = sync_failed c.args.self.now c.pass.new.self c.pass.result c.pass.ensures.exact
