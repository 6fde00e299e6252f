use Rattle.pm_engine.specs.Shown.{disk_in}
use Rattle.pm_callers.proofs.calls.images_since_now.Goals as goal

pub returns : goal.returns
returns g c = g.met.D.Disk.only_now (disk_in c.args.engine.now)
