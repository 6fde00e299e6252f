use Rattle.pm_seats.specs.Callers.{callers_of}
use Rattle.pm_seats.proofs.Laws.{known_lines, known_paired}
use Rattle.pm_seats.proofs.logbook.Logbook.keep_its_log.Goals as goal

pub returns-clause-legal : goal.returns-clause-legal
returns-clause-legal g c = c.keep_their_images.ensures.legal

pub returns-clause-paired : goal.returns-clause-paired
returns-clause-paired g c = let self = c.args.self.now in known_paired self.first.value self.engine (callers_of self.callers) self.next self.kept

pub returns-clause-lines : goal.returns-clause-lines
returns-clause-lines g c = let self = c.args.self.now in known_lines self.first.value self.engine (callers_of self.callers) self.next self.kept
