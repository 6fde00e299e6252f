use Rattle.std.proofs.Common.{arith}
use Rattle.pm_passes.proofs.Steps.{looks}
use Rattle.pm_passes.proofs.home.Home.look.Goals as goal

pub load-requires : goal.load-requires
load-requires g c = (
  c.requires.seat,
  omega (arith, c.args.self.now.two_words),
  looks _ _ _ _ _ _ c.requires.speaks c.requires.free c.requires.empty,
)
