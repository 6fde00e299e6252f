use Rattle.std.proofs.Common.{sym, subst, ◌∙◌}
use Rattle.pm_shadow.specs.Init.{MakesInOrder, shut_store}
use Rattle.pm_shadow.proofs.OrderLemmas.{order_behind}
use Rattle.pm_shadow.proofs.pages.Pages.make.Goals as goal

pub returns-in-Ok-make-clause-order : goal.returns-in-Ok-make-clause-order
returns-in-Ok-make-clause-order g c bytes told none =
    let d = g.D.Disk in
    let e = c.ask_empty.ensures in
    subst (λ (now : g.row.D.Denot). MakesInOrder d shut_store c.args.disk now) (sym c.fresh.ensures.disk)
    (order_behind d shut_store c.args.disk c.ask_empty.new.disk c.make.new.disk e.looks e.made (c.make.ensures.order bytes (e.looks.told ∙ told)))

pub returns-in-Err-make-clause-order : goal.returns-in-Err-make-clause-order
returns-in-Err-make-clause-order g c bytes told none =
    let e = c.ask_empty.ensures in
    order_behind g.D.Disk shut_store c.args.disk c.ask_empty.new.disk c.make.new.disk e.looks e.made (c.make.ensures.order bytes (e.looks.told ∙ told))
