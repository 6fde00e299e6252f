use Rattle.std.proofs.Common.{sym, ◌∙◌}
use Rattle.pm_engine.specs.Shown.{serving}
use Rattle.pm_seats.specs.Callers.{callers_of}
use Rattle.pm_seats.proofs.Laws.{known_paired}
use Rattle.pm_seats.proofs.Pairs.{zip_long}
use Rattle.pm_seats.proofs.logbook.Logbook.entries.Goals as goal

pub returns : goal.returns
returns g c =
    let self = c.args.self.now in
    let paired = known_paired self.first.value self.engine (callers_of self.callers) self.next self.kept in
    c.entries.ensures ∙ sym (zip_long (callers_of self.callers) (serving self.engine).journal paired.each)
