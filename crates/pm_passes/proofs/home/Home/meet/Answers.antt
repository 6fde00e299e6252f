use Rattle.std.proofs.Common.{arith}
use Rattle.pm_passes.proofs.Steps.{joins}
use Rattle.pm_passes.proofs.home.Home.meet.Goals as goal

pub join_seat-requires : goal.join_seat-requires
join_seat-requires g c = (
  c.requires.seat,
  c.requires.others,
  c.requires.other_idle.empty,
  omega (arith, c.args.self.now.two_words),
  joins _ _ _ _ _ _ _ c.requires.idle c.requires.other_idle,
)
