use Rattle.std.proofs.Common.{arith}
use Rattle.pm_passes.proofs.Steps.{tells_back}
use Rattle.pm_passes.proofs.home.Home.put_back_telling.Goals as goal

pub store-requires : goal.store-requires
store-requires g c = (
  c.requires.seat,
  omega (arith, c.args.self.now.two_words),
  tells_back _ _ _ _ _ _ c.requires.holding c.requires.ready (omega (arith, c.args.self.now.one_slot)),
)
