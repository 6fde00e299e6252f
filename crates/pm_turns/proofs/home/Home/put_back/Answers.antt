use Rattle.std.proofs.Common.{arith}
use Rattle.pm_turns.proofs.Steps.{puts_back}
use Rattle.pm_turns.proofs.home.Home.put_back.Goals as goal

pub store-requires : goal.store-requires
store-requires g c = (c.requires.seat, omega (arith, c.args.self.now.one_word), puts_back _ _ _ _ _ _ c.requires.holds)
