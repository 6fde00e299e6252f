use Rattle.std.proofs.Common.{Err, sym, subst}
use Rattle.pm_shadow.specs.Pages.{disk_of}
use Rattle.pm_ship.specs.declared.fault.ShipFault.{ShipFault}
use Rattle.pm_ship.specs.Disks.{ShipsDisks}
use Rattle.pm_ship.proofs.DiskLemmas.{both_attached, first_unattached, standby_unattached}
use Rattle.pm_ship.proofs.disks.ship_disks.Goals as goal

pub returns-in-Err : goal.returns-in-Err
returns-in-Err g c =
    subst (λ (fault : ShipFault). ShipsDisks g.D.Disk g.E.Disk c.args.disk c.args.other (record { disk = c.in-Err.disk; other = c.args.other; shipped = Err fault })) (sym c.of_first.ensures)
    (first_unattached g.D.Disk g.E.Disk
    (record { counts = λ disk t bytes le left. g.met.D.Disk.counts_now disk t bytes le left; now = λ disk bytes left. g.met.D.Disk.only_now disk bytes left; stay = λ disk bytes told. g.met.D.Disk.contents_stay disk bytes told; bytes = λ disk t bytes left. g.met.D.Disk.leaves_bytes disk t bytes left })
    (record { counts = λ disk t bytes le left. g.met.E.Disk.counts_now disk t bytes le left; now = λ disk bytes left. g.met.E.Disk.only_now disk bytes left; stay = λ disk bytes told. g.met.E.Disk.contents_stay disk bytes told; bytes = λ disk t bytes left. g.met.E.Disk.leaves_bytes disk t bytes left })
    c.args.disk c.in-Err.disk c.args.other c.in-Err.fault c.in-Err.ensures.fault c.in-Err.ensures.cause c.in-Err.ensures.told c.in-Err.ensures.leaves c.in-Err.ensures.made)

pub returns-in-Err-attach : goal.returns-in-Err-attach
returns-in-Err-attach g c =
    subst (λ (disk : g.row.D.Denot). ShipsDisks g.D.Disk g.E.Disk c.args.disk c.args.other (record { disk = disk; other = c.in-Err-attach.other; shipped = Err c.tell_first-fault.result })) (sym c.into_disk.ensures)
    (standby_unattached g.D.Disk g.E.Disk
    (record { counts = λ disk t bytes le left. g.met.D.Disk.counts_now disk t bytes le left; now = λ disk bytes left. g.met.D.Disk.only_now disk bytes left; stay = λ disk bytes told. g.met.D.Disk.contents_stay disk bytes told; bytes = λ disk t bytes left. g.met.D.Disk.leaves_bytes disk t bytes left })
    (record { counts = λ disk t bytes le left. g.met.E.Disk.counts_now disk t bytes le left; now = λ disk bytes left. g.met.E.Disk.only_now disk bytes left; stay = λ disk bytes told. g.met.E.Disk.contents_stay disk bytes told; bytes = λ disk t bytes left. g.met.E.Disk.leaves_bytes disk t bytes left })
    c.args.disk c.in-Ok.from c.tell_first-fault.new.from
    (record { found = c.in-Ok.ensures.found; fresh = c.in-Ok.ensures.state; count = c.in-Ok.ensures.count; told = c.in-Ok.ensures.told; leaves = c.in-Ok.ensures.leaves; made = c.in-Ok.ensures.made })
    c.tell_first-fault.ensures.looked c.args.other c.in-Err-attach.other c.in-Err-attach.fault c.in-Err-attach.ensures.fault c.in-Err-attach.ensures.cause c.in-Err-attach.ensures.told
    c.in-Err-attach.ensures.leaves c.in-Err-attach.ensures.made c.tell_first-fault.result c.tell_first-fault.ensures.told)

pub returns : goal.returns
returns g c =
    subst (λ (other : g.row.E.Denot). ShipsDisks g.D.Disk g.E.Disk c.args.disk c.args.other (record { disk = c.into_disk-2.result; other = other; shipped = c.ship-shipped.result })) (sym c.into_disk-3.ensures)
    (subst (λ (disk : g.row.D.Denot). ShipsDisks g.D.Disk g.E.Disk c.args.disk c.args.other (record { disk = disk; other = disk_of c.ship-shipped.new.to; shipped = c.ship-shipped.result })) (sym c.into_disk-2.ensures)
    (both_attached g.D.Disk g.E.Disk
    (record { counts = λ disk t bytes le left. g.met.D.Disk.counts_now disk t bytes le left; now = λ disk bytes left. g.met.D.Disk.only_now disk bytes left; stay = λ disk bytes told. g.met.D.Disk.contents_stay disk bytes told; bytes = λ disk t bytes left. g.met.D.Disk.leaves_bytes disk t bytes left })
    (record { counts = λ disk t bytes le left. g.met.E.Disk.counts_now disk t bytes le left; now = λ disk bytes left. g.met.E.Disk.only_now disk bytes left; stay = λ disk bytes told. g.met.E.Disk.contents_stay disk bytes told; bytes = λ disk t bytes left. g.met.E.Disk.leaves_bytes disk t bytes left })
    c.args.disk c.in-Ok.from c.ship-shipped.new.from
    (record { found = c.in-Ok.ensures.found; fresh = c.in-Ok.ensures.state; count = c.in-Ok.ensures.count; told = c.in-Ok.ensures.told; leaves = c.in-Ok.ensures.leaves; made = c.in-Ok.ensures.made })
    c.ship-shipped.ensures.first c.args.other c.in-Ok-attach.to c.ship-shipped.new.to
    (record { found = c.in-Ok-attach.ensures.found; fresh = c.in-Ok-attach.ensures.state; count = c.in-Ok-attach.ensures.count; told = c.in-Ok-attach.ensures.told; leaves = c.in-Ok-attach.ensures.leaves; made = c.in-Ok-attach.ensures.made })
    c.ship-shipped.result c.ship-shipped.ensures.shipped c.ship-shipped.ensures.fault c.ship-shipped.ensures.images c.ship-shipped.ensures.still c.ship-shipped.ensures.spares c.ship-shipped.ensures.told
    c.ship-shipped.ensures.cause c.ship-shipped.ensures.most))
