use Rattle.std.proofs.Common.{ℕ, Some, ap, subst, arith, refl}
use Rattle.pm_save.specs.declared.progress.fault.SaveFault.{SaveFault}
use Rattle.pm_save.specs.Progress.Answers.{IfMemory, IsFaultOf}
use Rattle.pm_engine.specs.Works.Working.{IsAsItWas, IsTiedIn, LastsIn, disk_at}
use Rattle.pm_engine.proofs.engine.Engine.flush_running.Goals as goal
use Rattle.pm_engine.proofs.Standing.{safe, sound_kept}
use Rattle.pm_engine.proofs.WorksLemmas.Asking.{flush_failed, flush_kept, leaves_settled, rest_sound, stored}
use Rattle.pm_engine.proofs.Bounding.{bounds_flushed, bounds_rested, flushed_view}
use Rattle.pm_engine.proofs.WorksLemmas.Counts.{counted_risen, counted_still}
use Rattle.pm_engine.proofs.WorksLemmas.Flushed.{flush_told}
use Rattle.pm_engine.proofs.WorksLemmas.Telling.{left_alone, nothing_served, shows_rise}
use Rattle.pm_engine.proofs.Past.{past_flushed, past_rested}
use Rattle.pm_engine.proofs.WorksLemmas.Whole.{nothing_journal, same_journal, same_past}

pub flush-requires : goal.flush-requires
flush-requires g c = record { tied = (stored c.args.self.now.opening c.args.self.now.stopped c.args.self.now.works c.requires.running (safe c.args.self.now.sound)).tied }

pub invariant_of-self : goal.invariant_of-self
invariant_of-self g c =
    let self = c.args.self.now in
    let new = c.flush.new.self in
    record {
      sound = sound_kept self.opening self.stopped self.works new self.sound self.stopped
          (flush_kept self.opening self.stopped self.works c.requires.running (safe self.sound) new c.in-Ok.flushed c.in-Ok.ensures.flushes c.in-Ok.ensures.tied c.in-Ok.ensures.lasts c.flush.ensures.causes.told c.flush.ensures.spares (g.met.D.Disk.counts_now (disk_at new)))
          (same_journal self.works new c.in-Ok.ensures.flushes.past c.in-Ok.ensures.flushes.journal) (flushed_view self.works new c.in-Ok.flushed c.in-Ok.ensures.flushes);
      bounded = bounds_flushed self.opening self.stopped self.works new c.in-Ok.flushed c.in-Ok.ensures.flushes self.bounded;
      counted = counted_still self.opening.count (g.D.Disk.count (disk_at self.works)) (g.D.Disk.count (disk_at new)) self.counted c.in-Ok.ensures.causes.cause;
      past = past_flushed self.opening self.stopped self.works new c.in-Ok.flushed (stored self.opening self.stopped self.works c.requires.running (safe self.sound)).tied c.in-Ok.ensures.flushes self.past;
    }

pub invariant_of-self-in-Err-Memory : goal.invariant_of-self-in-Err-Memory
invariant_of-self-in-Err-Memory g c =
    let self = c.args.self.now in
    let new = c.flush.new.self in
    let tied = subst (λ (fault : SaveFault). IfMemory (IsTiedIn new) fault) c.in-Err-Memory.field-0-is c.in-Err-Memory.ensures.tied in
    let last = subst (λ (fault : SaveFault). IfMemory (LastsIn self.works new) fault) c.in-Err-Memory.field-0-is c.in-Err-Memory.ensures.lasts in
    let stands = subst (λ (fault : SaveFault). IsFaultOf (g.D.Disk.count (disk_at self.works)) (g.D.Disk.count (disk_at new)) fault) c.in-Err-Memory.field-0-is c.in-Err-Memory.ensures.causes.cause in
    record {
      sound = sound_kept self.opening self.stopped self.works new self.sound self.stopped
          (rest_sound self.opening self.stopped self.works c.requires.running (safe self.sound) new c.in-Err-Memory.ensures.rests tied last c.flush.ensures.causes.told c.flush.ensures.spares (g.met.D.Disk.counts_now (disk_at new))) (nothing_journal self.works new c.in-Err-Memory.ensures.rests.nothing) c.in-Err-Memory.ensures.rests.view;
      bounded = bounds_rested self.opening self.stopped self.stopped self.works new c.in-Err-Memory.ensures.rests self.bounded;
      counted = counted_still self.opening.count (g.D.Disk.count (disk_at self.works)) (g.D.Disk.count (disk_at new)) self.counted stands;
      past = past_rested self.opening self.stopped self.stopped self.works new c.in-Err-Memory.ensures.rests self.past;
    }

pub invariant_of-self-in-Err-Disk : goal.invariant_of-self-in-Err-Disk
invariant_of-self-in-Err-Disk g c =
    let self = c.args.self.now in
    let new = c.flush.new.self in
    let rose = subst (λ (fault : SaveFault). IsFaultOf (g.D.Disk.count (disk_at self.works)) (g.D.Disk.count (disk_at new)) fault) c.in-Err-Disk.field-0-is c.in-Err-Disk.ensures.causes.cause in
    record {
      sound = sound_kept self.opening self.stopped self.works new self.sound (Some c.faults-after.result)
          (flush_failed self.opening self.stopped self.works c.requires.running (safe self.sound) new c.faults-after.result c.in-Err-Disk.ensures.rests c.flush.ensures.causes.told c.flush.ensures.spares (g.met.D.Disk.counts_now (disk_at new))) (nothing_journal self.works new c.in-Err-Disk.ensures.rests.nothing) c.in-Err-Disk.ensures.rests.view;
      bounded = bounds_rested self.opening self.stopped (Some c.faults-after.result) self.works new c.in-Err-Disk.ensures.rests self.bounded;
      counted = counted_risen self.opening.count (g.D.Disk.count (disk_at self.works)) (g.D.Disk.count (disk_at new)) self.counted rose;
      past = past_rested self.opening self.stopped (Some c.faults-after.result) self.works new c.in-Err-Disk.ensures.rests self.past;
    }

pub returns-in-Ok-clause-call : goal.returns-in-Ok-clause-call
returns-in-Ok-clause-call g c =
    let self = c.args.self.now in
    let new = c.flush.new.self in
    record {
      flushes = flush_told self.opening self.stopped self.works new c.in-Ok.flushed (stored self.opening self.stopped self.works c.requires.running (safe self.sound)).tied c.in-Ok.ensures.flushes;
      flushed = c.in-Ok.ensures.flushes.flushed;
      view = flushed_view self.works new c.in-Ok.flushed c.in-Ok.ensures.flushes;
      fails = tt;
      running = record { running = c.requires.running; count = c.in-Ok.ensures.causes.cause };
      reopen = tt;
      leaves = λ none. leaves_settled self.opening self.stopped self.works none (safe self.sound) new c.flush.ensures.spares;
      memory = tt;
      fault = tt;
      idle = c.flush.ensures.idle;
      made = c.in-Ok.ensures.causes.made;
      past = c.in-Ok.ensures.causes.made.past;
      room = let same = c.flush.ensures.room in omega (arith, same);
      unmade = refl;
      kept = record { past = same_past self.works new c.in-Ok.ensures.flushes.past; recent = c.in-Ok.ensures.flushes.journal };
    }

pub returns-in-Err-Memory-clause-call : goal.returns-in-Err-Memory-clause-call
returns-in-Err-Memory-clause-call g c =
    let self = c.args.self.now in
    let new = c.flush.new.self in
    let arm = c.in-Err-Memory in
    let stands = subst (λ (fault : SaveFault). IsFaultOf (g.D.Disk.count (disk_at self.works)) (g.D.Disk.count (disk_at new)) fault) arm.field-0-is arm.ensures.causes.cause in
    let same = subst (λ (fault : SaveFault). IfMemory (IsAsItWas self.works new) fault) arm.field-0-is arm.ensures.memory in
    record {
      flushes = tt;
      flushed = tt;
      view = arm.ensures.rests.view;
      fails = (nothing_served self.opening self.stopped self.works new self.stopped arm.ensures.rests, c.requires.running, c.requires.running, stands);
      running = tt;
      reopen = tt;
      leaves = λ none. leaves_settled self.opening self.stopped self.works none (safe self.sound) new c.flush.ensures.spares;
      memory = record { serving = left_alone self.opening self.stopped self.works new same.left; pages = same.state; contents = same.contents };
      fault = arm.ensures.fault;
      idle = c.flush.ensures.idle;
      made = arm.ensures.causes.made;
      past = arm.ensures.causes.made.past;
      room = let same = c.flush.ensures.room in omega (arith, same);
      unmade = refl;
      kept = record { past = same_past self.works new arm.ensures.rests.nothing.past; recent = arm.ensures.rests.nothing.journal };
    }

pub returns-in-Err-Disk-clause-call : goal.returns-in-Err-Disk-clause-call
returns-in-Err-Disk-clause-call g c =
    let self = c.args.self.now in
    let new = c.flush.new.self in
    let arm = c.in-Err-Disk in
    let rose = subst (λ (fault : SaveFault). IsFaultOf (g.D.Disk.count (disk_at self.works)) (g.D.Disk.count (disk_at new)) fault) arm.field-0-is arm.ensures.causes.cause in
    record {
      flushes = tt;
      flushed = tt;
      view = arm.ensures.rests.view;
      fails = (
        nothing_served self.opening self.stopped self.works new (Some c.faults-after.result) arm.ensures.rests,
        c.requires.running,
        ap (λ (count : ℕ). Some count) c.faults-after.ensures,
        shows_rise c.faults-before.result c.faults-after.result (g.D.Disk.count (disk_at self.works)) (g.D.Disk.count (disk_at new)) c.faults-before.ensures c.faults-after.ensures rose,
      );
      running = tt;
      reopen = tt;
      leaves = λ none. leaves_settled self.opening self.stopped self.works none (safe self.sound) new c.flush.ensures.spares;
      memory = tt;
      fault = arm.ensures.fault;
      idle = c.flush.ensures.idle;
      made = arm.ensures.causes.made;
      past = arm.ensures.causes.made.past;
      room = let same = c.flush.ensures.room in omega (arith, same);
      unmade = refl;
      kept = record { past = same_past self.works new arm.ensures.rests.nothing.past; recent = arm.ensures.rests.nothing.journal };
    }
