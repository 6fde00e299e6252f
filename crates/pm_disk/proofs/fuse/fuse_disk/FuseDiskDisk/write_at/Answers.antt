use Rattle.std.proofs.Common.{subst, length}
use Rattle.pm_disk.specs.Disk.{OnlyTorn}
use Rattle.pm_disk.proofs.fuse.fuse_disk.FuseDiskDisk.write_at.Goals as goal

pub returns-then-spend-clause-only_torn : goal.returns-then-spend-clause-only_torn
returns-then-spend-clause-only_torn g c =
    subst (λ inner. OnlyTorn c.args.at (length c.args.from.now) (g.D.Disk.image inner) (g.D.Disk.image c.write_at.new.self)) c.spend.ensures.inner
    c.write_at.ensures.only_torn
