use Rattle.std.proofs.Common.{arith}
use Rattle.pm_turns.proofs.Steps.{splits}
use Rattle.pm_turns.proofs.home.Home.split_seat.Goals as goal

pub split_seat-requires : goal.split_seat-requires
split_seat-requires g c = (c.requires.seat, omega (arith, c.args.self.now.one_word), splits _ _ _ _ _)
