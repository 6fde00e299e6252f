use Rattle.pm_top.proofs.Shipping.{ship_left}
use Rattle.pm_top.proofs.standby.ship_store.Goals as goal

pub returns-clause-ships : goal.returns-clause-ships
returns-clause-ships g c =
    let e = c.end_unopened.ensures in
    ship_left g.D.Disk g.E.Disk g.K.Sink c.args.disk c.args.other c.args.source c.args.sink c.tell_shipped-detail.new.sink c.ship_disks-disk.result c.tell_shipped-detail.result
    c.ship_disks-disk.ensures c.tell_shipped-detail.ensures.ends c.tell_shipped-detail.ensures.wrote c.beside.result c.end_unopened.result c.beside.ensures.alone
    e.detail e.journal e.tally e.young e.disk e.source e.sink c.beside.ensures.other
