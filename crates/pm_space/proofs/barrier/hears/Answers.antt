use Rattle.std.proofs.Common.{sym, ◌∙◌}
use Rattle.pm_space.proofs.Aside.{housed}
use Rattle.pm_space.proofs.barrier.hears.Goals as goal

pub is_aside-requires : goal.is_aside-requires
is_aside-requires c = housed c.args.links.now c.args.trains.now.trains c.args.car c.requires (sym c.has.ensures ∙ c.if-not-has.false)
