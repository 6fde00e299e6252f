use Rattle.pm_disk.proofs.RunLemmas.{started}
use Rattle.pm_shadow.specs.Images.{Holds}
use Rattle.pm_shadow.specs.Pages.{state, current_kept}
use Rattle.pm_save.proofs.writer.flushing.flush.Goals as goal

pub returns-in_err-ready-clause-leaves : goal.returns-in_err-ready-clause-leaves
returns-in_err-ready-clause-leaves g c bytes told =
    let it = c.args.pages.now in
    started g.D.Disk.moment g.D.Disk.since it.disk (Holds (state it) bytes) (λ image left. (current_kept it c.requires.ready.sound bytes told).each image (g.met.D.Disk.only_now it.disk image left))

pub returns-in_default-clause-leaves : goal.returns-in_default-clause-leaves
returns-in_default-clause-leaves g c bytes told =
    let it = c.args.pages.now in
    started g.D.Disk.moment g.D.Disk.since it.disk (Holds (state it) bytes) (λ image left. (current_kept it c.requires.ready.sound bytes told).each image (g.met.D.Disk.only_now it.disk image left))
