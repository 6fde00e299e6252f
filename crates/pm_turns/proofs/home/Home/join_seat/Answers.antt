use Rattle.std.proofs.Common.{arith}
use Rattle.pm_turns.proofs.Steps.{joins}
use Rattle.pm_turns.proofs.home.Home.join_seat.Goals as goal

pub join_seat-requires : goal.join_seat-requires
join_seat-requires g c =
    let fits = c.requires in
    (fits.seat, fits.other, fits.other_idle.empty, omega (arith, c.args.self.now.one_word), joins _ _ _ _ _ _ _)
