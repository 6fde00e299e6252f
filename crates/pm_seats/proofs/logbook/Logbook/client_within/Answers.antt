use Rattle.std.proofs.Common.{◌<◌, Err, Ok, arith, refl, sym, ◌∙◌}
use Rattle.pm_engine.specs.Calls.{AnswersClient}
use Rattle.pm_engine.specs.Shown.{disk_in, serving}
use Rattle.pm_engine.proofs.EventsLemmas.Made.{client_goes}
use Rattle.pm_seats.specs.Callers.{callers_of}
use Rattle.pm_seats.proofs.Keeping.{client_fails, client_keeps, same_logbook}
use Rattle.pm_seats.proofs.Laws.{known_paired, known_stopped}
use Rattle.pm_seats.proofs.Telling.{fails_event, sees_reply, stays_tied}
use Rattle.pm_seats.proofs.logbook.Logbook.client_within.Goals as goal

pub returns-then-events-last : goal.returns-then-events-last
returns-then-events-last g c =
    let is = c.if-events-last.true in
    let told = c.events-events.ensures in
    record { call = record { tied = stays_tied c.args.self.now; does = record { told = is; reached = sym told ∙ is; same = refl } } }

pub invariant_of-self-2 : goal.invariant_of-self-2
invariant_of-self-2 g c =
    let self = c.args.self.now in
    let was = c.if-events-last.false in
    let told = c.events-events.ensures in
    let bound = c.requires.within in
    let under : (serving self.engine).events < c.args.last = omega (arith, was, told, bound) in
    let new = c.client.new.self in
    record {
      kept =
          client_keeps self.first.value self.engine new (callers_of self.callers) self.next self.kept c.args.last under c.requires.last (callers_of c.add_caller.new.callers) c.args.number c.args.client c.args.cmd.now c.in-Ok.reply
          c.add_caller.ensures c.requires.number c.requires.client c.in-Ok.ensures.call
          (λ none. client_goes self.engine new c.client.ensures.start c.keep_their_images.ensures.legal none (λ left here later. g.met.D.Disk.counts_now (disk_in new) (g.D.Disk.moment (disk_in self.engine)) left later here) c.args.client c.args.cmd.now (Ok c.in-Ok.reply) c.in-Ok.ensures.call);
    }

pub invariant_of-self : goal.invariant_of-self
invariant_of-self g c =
    let self = c.args.self.now in
    let was = c.if-events-last.false in
    let told = c.events-events.ensures in
    let bound = c.requires.within in
    let under : (serving self.engine).events < c.args.last = omega (arith, was, told, bound) in
    let new = c.client.new.self in
    record {
      kept =
          client_fails self.first.value self.engine new (callers_of self.callers) self.next self.kept c.args.last under c.requires.last c.args.client c.args.cmd.now c.in-Err.fault c.in-Err.ensures.call
          (λ none. client_goes self.engine new c.client.ensures.start c.keep_their_images.ensures.legal none (λ left here later. g.met.D.Disk.counts_now (disk_in new) (g.D.Disk.moment (disk_in self.engine)) left later here) c.args.client c.args.cmd.now (Err c.in-Err.fault) c.in-Err.ensures.call);
    }

pub returns : goal.returns
returns g c =
    let self = c.args.self.now in
    let was = c.if-events-last.false in
    let told = c.events-events.ensures in
    let bound = c.requires.within in
    let under : (serving self.engine).events < c.args.last = omega (arith, was, told, bound) in
    record {
      call = record {
        tied = record { start = c.client.ensures.start; first = refl; next = refl };
        does =
            sees_reply self _ c.args.last under c.requires.last c.args.number c.args.client c.args.cmd.now c.in-Ok.reply c.entries-place.result c.in-Ok.ensures.call c.add_caller.ensures
            (known_paired self.first.value self.engine (callers_of self.callers) self.next self.kept) c.entries-place.ensures;
      };
    }

pub returns-in-Err : goal.returns-in-Err
returns-in-Err g c =
    let self = c.args.self.now in
    let was = c.if-events-last.false in
    let told = c.events-events.ensures in
    let bound = c.requires.within in
    let under : (serving self.engine).events < c.args.last = omega (arith, was, told, bound) in
    record {
      call = record {
        tied = record { start = c.client.ensures.start; first = refl; next = refl };
        does =
            fails_event self _ (λ f. AnswersClient c.args.client c.args.cmd.now self.engine c.client.new.self (Err f)) c.args.last c.in-Err.fault c.in-Err.ensures.call under c.in-Err.ensures.call.fails c.in-Err.ensures.call.reopen refl (λ same. same_logbook self c.client.new.self _ same)
            (g.D.Disk.count (disk_in self.first.value)) (known_stopped self.first.value self.engine (callers_of self.callers) self.next self.kept);
      };
    }
