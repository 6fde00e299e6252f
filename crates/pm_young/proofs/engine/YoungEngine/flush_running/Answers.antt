use Rattle.std.proofs.Common.{ℕ, Option, Some, None, ap, subst, arith, refl}
use Rattle.pm_save.specs.declared.progress.fault.SaveFault.{SaveFault}
use Rattle.pm_save.specs.Progress.Answers.{IfMemory, IsFaultOf}
use Rattle.pm_space.specs.Shown.{view}
use Rattle.pm_engine.specs.Works.Seen.{IsCrashSafe}
use Rattle.pm_engine.specs.Works.Working.{IsAsItWas, IsTiedIn, LastsIn, disk_at, view_in}
use Rattle.pm_engine.proofs.Bounding.{flushed_view}
use Rattle.pm_engine.proofs.WorksLemmas.Asking.{flush_failed, flush_kept, leaves_settled, rest_sound, stored}
use Rattle.pm_engine.proofs.WorksLemmas.Counts.{counted_risen, counted_still}
use Rattle.pm_engine.proofs.WorksLemmas.Flushed.{flush_told}
use Rattle.pm_engine.proofs.WorksLemmas.Telling.{nothing_served, shows_rise}
use Rattle.pm_engine.proofs.WorksLemmas.Whole.{same_journal}
use Rattle.pm_young.specs.declared.halt.Halt.{Halt}
use Rattle.pm_young.specs.declared.halt.HaltCause.TheVariants.{Disk, Memory}
use Rattle.pm_young.specs.Halts.{stopped_by}
use Rattle.pm_young.proofs.Events.{entered_still, goes_quietly, left_told, next_still, within_still}
use Rattle.pm_young.proofs.Whole.{whole_still}
use Rattle.pm_young.proofs.engine.YoungEngine.flush_running.Goals as goal

pub flush-requires : goal.flush-requires
flush-requires g c =
    let it = c.args.self.now in
    record { tied = (stored it.opening (stopped_by it.halted) it.works (ap stopped_by c.requires.running) it.safe).tied }

pub invariant_of-self : goal.invariant_of-self
invariant_of-self g c =
    let it = c.args.self.now in
    let new = c.flush.new.self in
    let arm = c.in-Ok.ensures in
    let same = flushed_view it.works new c.in-Ok.flushed arm.flushes in
    record {
      safe = flush_kept it.opening (stopped_by it.halted) it.works (ap stopped_by c.requires.running) it.safe new c.in-Ok.flushed arm.flushes arm.tied arm.lasts c.flush.ensures.causes.told c.flush.ensures.spares (g.met.D.Disk.counts_now (disk_at new));
      within = λ running. within_still it.opening it.works new it.nursery same (same_journal it.works new arm.flushes.past arm.flushes.journal) (it.within running);
      comes_in = entered_still (view it.opening.space.value.parts) (view_in it.works) (view_in new) it.nursery it.entered.items same it.comes_in;
      counted = counted_still it.opening.count (g.D.Disk.count (disk_at it.works)) (g.D.Disk.count (disk_at new)) it.counted arm.causes.cause;
      whole = whole_still it.works new arm.flushes.past it.whole;
    }

pub invariant_of-self-in-Err-Memory : goal.invariant_of-self-in-Err-Memory
invariant_of-self-in-Err-Memory g c =
    let it = c.args.self.now in
    let new = c.flush.new.self in
    let arm = c.in-Err-Memory.ensures in
    let tied = subst (λ (fault : SaveFault). IfMemory (IsTiedIn new) fault) c.in-Err-Memory.field-0-is arm.tied in
    let last = subst (λ (fault : SaveFault). IfMemory (LastsIn it.works new) fault) c.in-Err-Memory.field-0-is arm.lasts in
    let stands = subst (λ (fault : SaveFault). IsFaultOf (g.D.Disk.count (disk_at it.works)) (g.D.Disk.count (disk_at new)) fault) c.in-Err-Memory.field-0-is arm.causes.cause in
    record {
      safe = rest_sound it.opening None it.works refl (subst (λ (h : Option Halt). ∥ IsCrashSafe it.opening (stopped_by h) it.works ∥₁) c.requires.running it.safe) new arm.rests tied last c.flush.ensures.causes.told c.flush.ensures.spares (g.met.D.Disk.counts_now (disk_at new));
      within = λ never. absurd (cc never);
      comes_in = entered_still (view it.opening.space.value.parts) (view_in it.works) (view_in new) it.nursery it.entered.items arm.rests.view it.comes_in;
      counted = counted_still it.opening.count (g.D.Disk.count (disk_at it.works)) (g.D.Disk.count (disk_at new)) it.counted stands;
      whole = whole_still it.works new arm.rests.nothing.past it.whole;
    }

pub invariant_of-self-in-Err-Disk : goal.invariant_of-self-in-Err-Disk
invariant_of-self-in-Err-Disk g c =
    let it = c.args.self.now in
    let new = c.flush.new.self in
    let arm = c.in-Err-Disk.ensures in
    let rose = subst (λ (fault : SaveFault). IsFaultOf (g.D.Disk.count (disk_at it.works)) (g.D.Disk.count (disk_at new)) fault) c.in-Err-Disk.field-0-is arm.causes.cause in
    record {
      safe = flush_failed it.opening (stopped_by it.halted) it.works (ap stopped_by c.requires.running) it.safe new c.faults-after.result arm.rests c.flush.ensures.causes.told c.flush.ensures.spares (g.met.D.Disk.counts_now (disk_at new));
      within = λ never. absurd (cc never);
      comes_in = entered_still (view it.opening.space.value.parts) (view_in it.works) (view_in new) it.nursery it.entered.items arm.rests.view it.comes_in;
      counted = counted_risen it.opening.count (g.D.Disk.count (disk_at it.works)) (g.D.Disk.count (disk_at new)) it.counted rose;
      whole = whole_still it.works new arm.rests.nothing.past it.whole;
    }

pub returns-in-Ok-clause-call : goal.returns-in-Ok-clause-call
returns-in-Ok-clause-call g c =
    let it = c.args.self.now in
    let new = c.flush.new.self in
    let arm = c.in-Ok.ensures in
    let none = ap stopped_by c.requires.running in
    let same = flushed_view it.works new c.in-Ok.flushed arm.flushes in
    record {
      flushes = flush_told it.opening (stopped_by it.halted) it.works new c.in-Ok.flushed (stored it.opening (stopped_by it.halted) it.works none it.safe).tied arm.flushes;
      flushed = arm.flushes.flushed;
      view = same;
      fails = tt;
      running = record { running = c.requires.running; count = arm.causes.cause };
      runs = c.requires.running;
      leaves = λ quiet. leaves_settled it.opening (stopped_by it.halted) it.works quiet it.safe new c.flush.ensures.spares;
      memory = tt;
      fault = tt;
      idle = c.flush.ensures.idle;
      made = arm.causes.made;
      past = arm.causes.made.past;
      room = let still = c.flush.ensures.room in omega (arith, still);
      young = record { young = refl; entered = refl };
      goes = goes_quietly it _ refl (record { young = refl; entered = refl }) (next_still it.works new same);
    }

pub returns-in-Err-Memory-clause-call : goal.returns-in-Err-Memory-clause-call
returns-in-Err-Memory-clause-call g c =
    let it = c.args.self.now in
    let new = c.flush.new.self in
    let arm = c.in-Err-Memory.ensures in
    let stands = subst (λ (fault : SaveFault). IsFaultOf (g.D.Disk.count (disk_at it.works)) (g.D.Disk.count (disk_at new)) fault) c.in-Err-Memory.field-0-is arm.causes.cause in
    let same = subst (λ (fault : SaveFault). IfMemory (IsAsItWas it.works new) fault) c.in-Err-Memory.field-0-is arm.memory in
    record {
      flushes = tt;
      flushed = tt;
      view = arm.rests.view;
      fails = record {
        running = c.requires.running;
        halts = ap (λ (count : ℕ). Some (record { cause = Memory; count = count })) c.faults-count.ensures;
        count = stands;
      };
      running = tt;
      runs = tt;
      leaves = λ quiet. leaves_settled it.opening (stopped_by it.halted) it.works quiet it.safe new c.flush.ensures.spares;
      memory = record { serving = left_told it.opening (stopped_by it.halted) it.works new (ap stopped_by c.requires.running) same.left; pages = same.state; contents = same.contents };
      fault = arm.fault;
      idle = c.flush.ensures.idle;
      made = arm.causes.made;
      past = arm.causes.made.past;
      room = let still = c.flush.ensures.room in omega (arith, still);
      young = record { young = refl; entered = refl };
      goes = goes_quietly it _ refl (record { young = refl; entered = refl }) (next_still it.works new arm.rests.view);
    }

pub returns-in-Err-Disk-clause-call : goal.returns-in-Err-Disk-clause-call
returns-in-Err-Disk-clause-call g c =
    let it = c.args.self.now in
    let new = c.flush.new.self in
    let arm = c.in-Err-Disk.ensures in
    let rose = subst (λ (fault : SaveFault). IsFaultOf (g.D.Disk.count (disk_at it.works)) (g.D.Disk.count (disk_at new)) fault) c.in-Err-Disk.field-0-is arm.causes.cause in
    record {
      flushes = tt;
      flushed = tt;
      view = arm.rests.view;
      fails = record {
        running = c.requires.running;
        halts = ap (λ (count : ℕ). Some (record { cause = Disk; count = count })) c.faults-after.ensures;
        rose = shows_rise c.faults-before.result c.faults-after.result (g.D.Disk.count (disk_at it.works)) (g.D.Disk.count (disk_at new)) c.faults-before.ensures c.faults-after.ensures rose;
        nothing = nothing_served it.opening (stopped_by it.halted) it.works new (Some c.faults-after.result) arm.rests;
      };
      running = tt;
      runs = tt;
      leaves = λ quiet. leaves_settled it.opening (stopped_by it.halted) it.works quiet it.safe new c.flush.ensures.spares;
      memory = tt;
      fault = arm.fault;
      idle = c.flush.ensures.idle;
      made = arm.causes.made;
      past = arm.causes.made.past;
      room = let still = c.flush.ensures.room in omega (arith, still);
      young = record { young = refl; entered = refl };
      goes = goes_quietly it _ refl (record { young = refl; entered = refl }) (next_still it.works new arm.rests.view);
    }
