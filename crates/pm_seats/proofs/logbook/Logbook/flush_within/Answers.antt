use Rattle.std.proofs.Common.{◌<◌, Err, arith, refl, sym, ◌∙◌}
use Rattle.pm_engine.specs.Calls.{AnswersFlush}
use Rattle.pm_engine.specs.Shown.{disk_in, serving}
use Rattle.pm_engine.proofs.EventsLemmas.Made.{flush_goes}
use Rattle.pm_seats.specs.Callers.{callers_of}
use Rattle.pm_seats.proofs.Keeping.{flush_keeps, same_logbook}
use Rattle.pm_seats.proofs.Laws.{known_counted, known_stopped}
use Rattle.pm_seats.proofs.Telling.{fails_event, sees_flushed, stays_tied}
use Rattle.pm_seats.proofs.logbook.Logbook.flush_within.Goals as goal

pub returns-then-events-last : goal.returns-then-events-last
returns-then-events-last g c =
    let is = c.if-events-last.true in
    let told = c.events-events.ensures in
    record { call = record { tied = stays_tied c.args.self.now; does = record { told = is; reached = sym told ∙ is; same = refl } } }

pub invariant_of-self : goal.invariant_of-self
invariant_of-self g c =
    let self = c.args.self.now in
    let was = c.if-events-last.false in
    let told = c.events-events.ensures in
    let bound = c.requires.within in
    let under : (serving self.engine).events < c.args.last = omega (arith, was, told, bound) in
    let new = c.flush.new.self in
    record {
      kept =
          flush_keeps self.first.value self.engine new (callers_of self.callers) self.next self.kept c.args.last under c.requires.last c.flush.result c.flush.ensures.call
          (λ none. flush_goes self.engine new c.flush.ensures.start c.keep_their_images.ensures.legal none (λ left here later. g.met.D.Disk.counts_now (disk_in new) (g.D.Disk.moment (disk_in self.engine)) left later here) c.flush.result c.flush.ensures.call);
    }

pub returns-in-Ok : goal.returns-in-Ok
returns-in-Ok g c =
    let self = c.args.self.now in
    let was = c.if-events-last.false in
    let told = c.events-events.ensures in
    let bound = c.requires.within in
    let under : (serving self.engine).events < c.args.last = omega (arith, was, told, bound) in
    record {
      call = record {
        tied = record { start = c.flush.ensures.start; first = refl; next = refl };
        does = sees_flushed self _ c.args.last under c.requires.last c.in-Ok.flushed c.in-Ok.ensures.call refl (known_counted self.first.value self.engine (callers_of self.callers) self.next self.kept);
      };
    }

pub returns-in-Err : goal.returns-in-Err
returns-in-Err g c =
    let self = c.args.self.now in
    let was = c.if-events-last.false in
    let told = c.events-events.ensures in
    let bound = c.requires.within in
    let under : (serving self.engine).events < c.args.last = omega (arith, was, told, bound) in
    record {
      call = record {
        tied = record { start = c.flush.ensures.start; first = refl; next = refl };
        does =
            fails_event self _ (λ f. AnswersFlush self.engine c.flush.new.self (Err f)) c.args.last c.in-Err.fault c.in-Err.ensures.call under c.in-Err.ensures.call.fails c.in-Err.ensures.call.reopen refl (λ same. same_logbook self c.flush.new.self _ same)
            (g.D.Disk.count (disk_in self.first.value)) (known_stopped self.first.value self.engine (callers_of self.callers) self.next self.kept);
      };
    }
