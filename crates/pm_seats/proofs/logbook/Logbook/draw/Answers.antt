use Rattle.std.proofs.Common.{arith}
use Rattle.pm_seats.specs.Callers.{callers_of}
use Rattle.pm_seats.proofs.Keeping.{kept_drawn}
use Rattle.pm_seats.proofs.logbook.Logbook.draw.Goals as goal

pub invariant_of-self : goal.invariant_of-self
invariant_of-self g c =
    let self = c.args.self.now in
    record { kept = kept_drawn self.first.value self.engine (callers_of self.callers) self.next _ (omega arith) self.kept }
