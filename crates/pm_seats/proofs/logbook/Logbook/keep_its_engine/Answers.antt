use Rattle.std.proofs.Math.Logic.{∥∥₁_map}
use Rattle.pm_seats.specs.Callers.{callers_of}
use Rattle.pm_seats.proofs.Laws.{known_counted, known_few, known_stopped, known_whole}
use Rattle.pm_seats.proofs.logbook.Logbook.keep_its_engine.Goals as goal

pub returns-clause-goes : goal.returns-clause-goes
returns-clause-goes g c = ∥∥₁_map c.args.self.now.kept (λ is. is.goes)

pub returns-clause-whole : goal.returns-clause-whole
returns-clause-whole g c = let self = c.args.self.now in known_whole self.first.value self.engine (callers_of self.callers) self.next self.kept

pub returns-clause-stopped : goal.returns-clause-stopped
returns-clause-stopped g c = let self = c.args.self.now in known_stopped self.first.value self.engine (callers_of self.callers) self.next self.kept

pub returns-clause-counted : goal.returns-clause-counted
returns-clause-counted g c = let self = c.args.self.now in known_counted self.first.value self.engine (callers_of self.callers) self.next self.kept

pub returns-clause-few : goal.returns-clause-few
returns-clause-few g c = let self = c.args.self.now in known_few self.first.value self.engine (callers_of self.callers) self.next self.kept
