use Rattle.std.proofs.Common.{◌-◌, arith}
use Rattle.pm_script.specs.Parted.Left.{lists_in}
use Rattle.pm_engine.specs.Shown.{serving, unmade_in}
use Rattle.pm_engine.specs.declared.unmade.Unmade.TheVariants.{OfFlusher}
use Rattle.pm_lock.proofs.Engines.{book_flushed, book_failed, left_flush}
use Rattle.pm_lock.proofs.book.Book.step_flusher.Goals as goal

pub invariant_of-self-in-Err : goal.invariant_of-self-in-Err
invariant_of-self-in-Err g c =
    let self = c.args.self.now in
    record {
      kept =
          book_failed self.script.value self.first.value self.engine c.flush_once.new.engine (lists_in self.parts) self.collects self.flushes self.fault c.requires self.kept c.in-Err.fault c.in-Err.ensures.call.fails c.keep_their_images.ensures.counted c.in-Err.ensures.engine
          (left_flush (serving c.flush_once.new.engine) (lists_in self.parts) self.collects self.flushes c.in-Err.fault (unmade_in self.engine) (unmade_in c.flush_once.new.engine) (let some = c.if-self-eq0.false in omega (arith, some)) c.in-Err.ensures.call.unmade)
          OfFlusher c.in-Err.ensures.call.unmade;
    }

pub invariant_of-self : goal.invariant_of-self
invariant_of-self g c =
    let self = c.args.self.now in
    let some = c.if-self-eq0.false in
    record {
      kept =
          book_flushed self.script.value self.first.value self.engine c.flush_once.new.engine (lists_in self.parts) self.collects self.flushes self.fault c.requires self.kept (self.flushes - 1) (omega (arith, some)) c.in-Ok.ensures.call.flushes c.in-Ok.ensures.engine c.in-Ok.ensures.call.unmade;
    }
