use Rattle.std.proofs.Common.{subst, sym}
use Rattle.pm_shadow.specs.Pages.{disk_of}
use Rattle.pm_shadow.specs.State.{State}
use Rattle.pm_restore.specs.Restored.{IsNewStore}
use Rattle.pm_runs.specs.declared.ends.ended.Detail.{Detail}
use Rattle.pm_top.specs.Stores.{LeavesRestored}
use Rattle.pm_top.proofs.NotMade.{calls_none, none_made}
use Rattle.pm_top.proofs.Restored.{blank_told, none_restored, store_made, then_settled}
use Rattle.pm_top.proofs.restoring.restore_dump.Goals as goal

pub settle-requires-clause-new : goal.settle-requires-clause-new
settle-requires-clause-new g c =
    let told = g.D.Disk.contents (disk_of c.in-Ok.pages) in
    subst (λ (s : State). IsNewStore s told) (sym c.in-Ok.ensures.state)
    (c.a_made_store_is_new.ensures told (blank_told g.D.Disk (g.D.Disk.contents c.args.disk) told c.in-Ok.ensures.blank))

pub returns-in-Ok-clause-leaves : goal.returns-in-Ok-clause-leaves
returns-in-Ok-clause-leaves g c =
    let made = disk_of c.in-Ok.pages in
    let is = c.in-Ok.ensures in
    then_settled g.D.Disk c.args.dump.now c.args.disk made c.settle.result.0 c.settle.result.1 c.settle.ensures.ends
    (record { made = is.made.done; order = is.order }) (store_made g.D.Disk c.args.disk made is.blank is.fault is.only) c.settle.ensures.leaves c.settle.ensures.calls

pub returns-in-Err-clause-leaves : goal.returns-in-Err-clause-leaves
returns-in-Err-clause-leaves g c =
    let d = g.D.Disk in
    let now = c.in-Err.disk in
    let is = c.in-Err.ensures in
    subst (λ (detail : Detail). LeavesRestored d c.args.dump.now c.args.disk now detail) (sym c.not_made.ensures)
    (none_restored d c.args.dump.now c.args.disk now c.in-Err.fault
    (none_made d (d.count c.args.disk) (d.count now) c.args.disk now c.in-Err.fault is.fault is.cause is.still is.kept)
    (record { made = calls_none (d.made c.args.disk) (d.made now) c.in-Err.fault is.made.most; order = is.order }))
