use Rattle.std.proofs.Common.{◌<◌, Err, arith, refl, sym, ◌∙◌}
use Rattle.pm_engine.specs.Calls.{AnswersCollect}
use Rattle.pm_engine.specs.Shown.{disk_in, serving}
use Rattle.pm_engine.proofs.EventsLemmas.Made.{collect_goes}
use Rattle.pm_seats.specs.Callers.{callers_of}
use Rattle.pm_seats.proofs.Keeping.{collect_keeps, same_logbook}
use Rattle.pm_seats.proofs.Laws.{known_counted, known_stopped}
use Rattle.pm_seats.proofs.Telling.{fails_event, sees_step, stays_tied}
use Rattle.pm_seats.proofs.logbook.Logbook.collect_within.Goals as goal

pub returns-then-events-last : goal.returns-then-events-last
returns-then-events-last g c =
    let is = c.if-events-last.true in
    let told = c.events-events.ensures in
    record { call = record { tied = stays_tied c.args.self.now; does = record { told = is; reached = sym told ∙ is; same = refl } } }

pub invariant_of-self : goal.invariant_of-self
invariant_of-self g c =
    let self = c.args.self.now in
    let was = c.if-events-last.false in
    let told = c.events-events.ensures in
    let bound = c.requires.within in
    let under : (serving self.engine).events < c.args.last = omega (arith, was, told, bound) in
    let new = c.collect.new.self in
    let law = c.keep_their_images.ensures in
    record {
      kept =
          collect_keeps self.first.value self.engine new (callers_of self.callers) self.next self.kept c.args.last under c.requires.last g.F.Fn c.collect.result c.collect.ensures.call
          (λ none. collect_goes self.engine new c.collect.ensures.start law.legal none (λ left here later. g.met.D.Disk.counts_now (disk_in new) (g.D.Disk.moment (disk_in self.engine)) left later here) g.F.Fn c.collect.result c.collect.ensures.call law.settled (g.met.D.Disk.only_now (disk_in self.engine)));
    }

pub returns-in-Ok : goal.returns-in-Ok
returns-in-Ok g c =
    let self = c.args.self.now in
    let was = c.if-events-last.false in
    let told = c.events-events.ensures in
    let bound = c.requires.within in
    let under : (serving self.engine).events < c.args.last = omega (arith, was, told, bound) in
    record {
      call = record {
        tied = record { start = c.collect.ensures.start; first = refl; next = refl };
        does = sees_step self _ c.args.last under c.requires.last g.F.Fn c.in-Ok.step c.in-Ok.ensures.call refl (known_counted self.first.value self.engine (callers_of self.callers) self.next self.kept);
      };
    }

pub returns-in-Err : goal.returns-in-Err
returns-in-Err g c =
    let self = c.args.self.now in
    let was = c.if-events-last.false in
    let told = c.events-events.ensures in
    let bound = c.requires.within in
    let under : (serving self.engine).events < c.args.last = omega (arith, was, told, bound) in
    record {
      call = record {
        tied = record { start = c.collect.ensures.start; first = refl; next = refl };
        does =
            fails_event self _ (λ f. AnswersCollect g.F.Fn self.engine c.collect.new.self (Err f)) c.args.last c.in-Err.fault c.in-Err.ensures.call under c.in-Err.ensures.call.fails c.in-Err.ensures.call.reopen refl (λ same. same_logbook self c.collect.new.self _ same)
            (g.D.Disk.count (disk_in self.first.value)) (known_stopped self.first.value self.engine (callers_of self.callers) self.next self.kept);
      };
    }
