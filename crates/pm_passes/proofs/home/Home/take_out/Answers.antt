use Rattle.std.proofs.Common.{sym, subst, ◌∙◌, arith}
use Rattle.pm_passes.specs.Steps.{IsIdle}
use Rattle.pm_passes.proofs.Steps.{takes_out}
use Rattle.pm_passes.proofs.home.Home.take_out.Goals as goal

pub swap-requires : goal.swap-requires
swap-requires g c = (
  c.loop.invariant.2 ∙ c.requires.seat,
  omega (arith, c.args.self.now.two_words),
  takes_out _ _ _ _ _ _ (subst IsIdle (sym c.loop.invariant.3) c.requires.idle),
)
