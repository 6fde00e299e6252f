use Rattle.std.proofs.Common.{◌-◌, arith}
use Rattle.pm_script.specs.Parted.Left.{lists_in}
use Rattle.pm_engine.specs.Shown.{serving, unmade_in}
use Rattle.pm_engine.specs.declared.unmade.Unmade.TheVariants.{OfCollector}
use Rattle.pm_lock.proofs.Engines.{book_collected, book_failed, left_collect}
use Rattle.pm_lock.proofs.book.Book.step_collector.Goals as goal

pub invariant_of-self-in-Err : goal.invariant_of-self-in-Err
invariant_of-self-in-Err g c =
    let self = c.args.self.now in
    record {
      kept =
          book_failed self.script.value self.first.value self.engine c.collect_once.new.engine (lists_in self.parts) self.collects self.flushes self.fault c.requires.running self.kept c.in-Err.short c.in-Err.ensures.call.fails c.keep_their_images.ensures.counted c.in-Err.ensures.engine
          (left_collect (serving c.collect_once.new.engine) (lists_in self.parts) self.collects self.flushes c.in-Err.short (unmade_in self.engine) (unmade_in c.collect_once.new.engine) (let some = c.if-self-eq0.false in omega (arith, some)) c.in-Err.ensures.call.unmade)
          OfCollector c.in-Err.ensures.call.unmade;
    }

pub invariant_of-self : goal.invariant_of-self
invariant_of-self g c =
    let self = c.args.self.now in
    let some = c.if-self-eq0.false in
    record {
      kept =
          book_collected self.script.value self.first.value self.engine c.collect_once.new.engine (lists_in self.parts) self.collects self.flushes self.fault c.requires.running self.kept (self.collects - 1) (omega (arith, some)) c.in-Ok.ensures.call.collects c.in-Ok.ensures.engine c.in-Ok.ensures.call.unmade;
    }
