use Rattle.std.proofs.Common.{◌∙◌}
use Rattle.pm_shadow.specs.Init.{shut_store}
use Rattle.pm_shadow.proofs.OrderLemmas.{order_behind}
use Rattle.pm_shadow.proofs.making.init.Goals as goal

pub returns-in_err-make-clause-order : goal.returns-in_err-make-clause-order
returns-in_err-make-clause-order g c bytes told none =
    let e = c.ask_empty.ensures in
    order_behind g.D.Disk shut_store c.args.disk.now c.ask_empty.new.disk c.make.new.disk e.looks e.made (c.make.ensures.order bytes (e.looks.told ∙ told))

pub returns-clause-order : goal.returns-clause-order
returns-clause-order g c bytes told none =
    let e = c.ask_empty.ensures in
    order_behind g.D.Disk shut_store c.args.disk.now c.ask_empty.new.disk c.make.new.disk e.looks e.made (c.make.ensures.order bytes (e.looks.told ∙ told))
