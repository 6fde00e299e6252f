use Rattle.std.proofs.Common.{subst, sym}
use Rattle.pm_shadow.specs.Pages.{disk_of}
use Rattle.pm_runs.specs.declared.ends.ended.Detail.TheVariants.{Fine}
use Rattle.pm_top.specs.Stores.{CallsToSettle, LeavesSettled}
use Rattle.pm_top.proofs.Restored.{leaves_settled}
use Rattle.pm_top.proofs.restoring.settle.Goals as goal

pub returns-in-Ok-clause-leaves : goal.returns-in-Ok-clause-leaves
returns-in-Ok-clause-leaves g c =
    let ran = c.settle_dump-settled in
    subst (λ d. LeavesSettled g.D.Disk c.args.dump.now (disk_of c.args.pages) d Fine) (sym c.into_disk-disk.ensures)
    (leaves_settled g.D.Disk c.args.dump.now c.args.pages ran.new.pages ran.ensures.leaves c.in-Ok.ensures.restored)

pub returns-in-Ok-clause-calls : goal.returns-in-Ok-clause-calls
returns-in-Ok-clause-calls g c =
    let ran = c.settle_dump-settled in
    subst (λ d. CallsToSettle c.args.dump.now Fine (g.D.Disk.made (disk_of c.args.pages)) (g.D.Disk.made d)) (sym c.into_disk-disk.ensures) c.in-Ok.ensures.restored.made
