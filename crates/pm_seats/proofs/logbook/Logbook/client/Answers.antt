use Rattle.std.proofs.Common.{arith}
use Rattle.pm_seats.specs.Callers.{callers_of}
use Rattle.pm_seats.proofs.Laws.{known_few}
use Rattle.pm_seats.proofs.logbook.Logbook.client.Goals as goal

pub client_within-requires-clause-within : goal.client_within-requires-clause-within
client_within-requires-clause-within g c =
    let self = c.args.self.now in
    let few = known_few self.first.value self.engine (callers_of self.callers) self.next self.kept in
    omega (arith, few)
