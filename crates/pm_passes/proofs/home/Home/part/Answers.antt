use Rattle.std.proofs.Common.{arith}
use Rattle.pm_passes.proofs.Steps.{splits}
use Rattle.pm_passes.proofs.home.Home.part.Goals as goal

pub split_seat-requires : goal.split_seat-requires
split_seat-requires g c = (
  c.requires.seat,
  omega (arith, c.args.self.now.two_words),
  splits _ _ _ _ _ c.requires.holding c.requires.shares,
)
