use Rattle.std.proofs.Common.{arith}
use Rattle.pm_passes.proofs.Steps.{enters}
use Rattle.pm_passes.proofs.home.Home.enter.Goals as goal

pub store-requires : goal.store-requires
store-requires g c =
    let it = c.requires.entry in (
      c.requires.seat,
      omega (arith, c.args.self.now.two_words),
      enters _ _ _ _ _ _ it.0 it.2.entry _ c.requires.holding it.1 it.2.last it.2.counted,
    )
