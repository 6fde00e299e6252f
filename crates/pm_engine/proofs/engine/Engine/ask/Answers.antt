use Rattle.std.proofs.Common.{◌≡◌, ℕ, true, false, Some, Result, Err, OnErr, sym, ap, subst, ◌∙◌, refl}
use Rattle.pm_types.specs.Memory.{no_memory}
use Rattle.pm_types.specs.declared.reply.Reply.{Reply}
use Rattle.pm_types.specs.declared.fault.EngineFault.TheVariants.{Memory}
use Rattle.pm_model.specs.Frames.{is_settle}
use Rattle.pm_save.specs.declared.progress.fault.SaveFault.{SaveFault}
use Rattle.pm_save.specs.Progress.Answers.{IfMemory, IsFaultOf, OnMemory}
use Rattle.pm_engine.specs.Works.Working.{IsFaultFor, IsLeft, IsShort, LastsSo, disk_at, saving_in, view_in}
use Rattle.pm_engine.proofs.engine.Engine.ask.Goals as goal
use Rattle.pm_engine.proofs.Standing.{agrees, safe, sound_asked, sound_kept}
use Rattle.pm_engine.proofs.WorksLemmas.Asking.{ask_serves, ask_sound, fail_sound, rest_sound, stored}
use Rattle.pm_engine.proofs.WorksLemmas.Counts.{counted_risen, counted_still}
use Rattle.pm_engine.proofs.WorksLemmas.Crashing.{leaves_answered, leaves_failed, progress_of, settled_alone}
use Rattle.pm_law_collect.specs.Work.Raises.{raises}
use Rattle.pm_engine.proofs.WorksLemmas.Answering.{Told, room_of, still_works, work_of}
use Rattle.pm_engine.proofs.WorksLemmas.Acting.{space_of}
use Rattle.pm_law_bound.proofs.Many.{kept_still}
use Rattle.pm_engine.proofs.Bounding.{bounds_asked, bounds_rested, kept_of}
use Rattle.pm_engine.proofs.Past.{past_asked, past_rested}
use Rattle.pm_engine.proofs.WorksLemmas.Settled.{dropped_all, settled_all}
use Rattle.pm_engine.proofs.WorksLemmas.LastEntry.{last_of}
use Rattle.pm_engine.proofs.WorksLemmas.Whole.{nothing_journal, same_past}
use Rattle.pm_engine.proofs.WorksLemmas.Telling.{copies_of, idle_of, left_alone, nothing_served, short_of, shows_rise}

true_false : true ≡ false → ⊥
true_false is = cc is

pub answer-requires-clause-tied : goal.answer-requires-clause-tied
answer-requires-clause-tied g c = (stored c.args.self.now.opening c.args.self.now.stopped c.args.self.now.works c.requires.running (safe c.args.self.now.sound)).tied

pub invariant_of-self : goal.invariant_of-self
invariant_of-self g c =
    let self = c.args.self.now in
    let new = c.answer.new.self in
    let told : Told c.args.cmd self.works new = record {
      tied = c.in-Ok.ensures.tied;
      still = λ other. (c.answer.ensures.other other).still;
      leaves = λ settles. (c.answer.ensures.settle settles).leaves;
      told = c.answer.ensures.causes.told;
      counts = g.met.D.Disk.counts_now (disk_at new);
      only_now = g.met.D.Disk.only_now (disk_at self.works);
    } in
    record {
      sound = sound_asked self.opening self.stopped self.works new self.sound c.args.client c.args.cmd c.in-Ok.reply c.in-Ok.ensures.answers
          (ask_sound self.opening self.stopped self.works c.requires.running (safe self.sound) new c.args.client c.args.cmd c.in-Ok.reply (agrees self.opening self.stopped self.works new self.sound c.args.client c.args.cmd c.in-Ok.reply c.in-Ok.ensures.answers) told c.in-Ok.ensures.answers);
      bounded = bounds_asked self.opening self.stopped self.works new c.requires.running self.works.space.kept self.sound self.bounded c.args.client c.args.cmd c.in-Ok.reply c.in-Ok.ensures.answers;
      counted = counted_still self.opening.count (g.D.Disk.count (disk_at self.works)) (g.D.Disk.count (disk_at new)) self.counted c.in-Ok.ensures.causes.cause;
      past = past_asked self.opening self.stopped self.works new c.args.client c.args.cmd c.in-Ok.reply
          (ask_serves self.opening self.stopped self.works c.requires.running (safe self.sound) new c.args.client c.args.cmd c.in-Ok.reply (agrees self.opening self.stopped self.works new self.sound c.args.client c.args.cmd c.in-Ok.reply c.in-Ok.ensures.answers) told c.in-Ok.ensures.answers) c.in-Ok.ensures.answers self.past;
    }

pub invariant_of-self-in-Err-Memory : goal.invariant_of-self-in-Err-Memory
invariant_of-self-in-Err-Memory g c =
    let self = c.args.self.now in
    let new = c.answer.new.self in
    let so = subst (λ (fault : SaveFault). IfMemory (LastsSo self.works new) fault) c.in-Err-Memory.field-0-is c.in-Err-Memory.ensures.fails.memory in
    let stands = subst (λ (fault : SaveFault). IsFaultOf (g.D.Disk.count (disk_at self.works)) (g.D.Disk.count (disk_at new)) fault) c.in-Err-Memory.field-0-is c.in-Err-Memory.ensures.causes.cause in
    record {
      sound = sound_kept self.opening self.stopped self.works new self.sound self.stopped
          (rest_sound self.opening self.stopped self.works c.requires.running (safe self.sound) new c.in-Err-Memory.ensures.fails.rests so.tied so.lasts c.answer.ensures.causes.told so.spares (g.met.D.Disk.counts_now (disk_at new))) (nothing_journal self.works new c.in-Err-Memory.ensures.fails.rests.nothing) c.in-Err-Memory.ensures.fails.rests.view;
      bounded = bounds_rested self.opening self.stopped self.stopped self.works new c.in-Err-Memory.ensures.fails.rests self.bounded;
      counted = counted_still self.opening.count (g.D.Disk.count (disk_at self.works)) (g.D.Disk.count (disk_at new)) self.counted stands;
      past = past_rested self.opening self.stopped self.stopped self.works new c.in-Err-Memory.ensures.fails.rests self.past;
    }

pub invariant_of-self-in-Err-Disk : goal.invariant_of-self-in-Err-Disk
invariant_of-self-in-Err-Disk g c =
    let self = c.args.self.now in
    let new = c.answer.new.self in
    let fault = subst (λ (fault : SaveFault). IsFaultFor (is_settle c.args.cmd) self.works fault) c.in-Err-Disk.field-0-is c.in-Err-Disk.ensures.fails.fault in
    let begun = progress_of (saving_in self.works).progress fault.1 in
    let rose = subst (λ (fault : SaveFault). IsFaultOf (g.D.Disk.count (disk_at self.works)) (g.D.Disk.count (disk_at new)) fault) c.in-Err-Disk.field-0-is c.in-Err-Disk.ensures.causes.cause in
    record {
      sound = sound_kept self.opening self.stopped self.works new self.sound (Some c.faults-after.result)
          (fail_sound self.opening self.stopped self.works c.requires.running (safe self.sound) new c.faults-after.result c.in-Err-Disk.ensures.fails.rests (c.answer.ensures.settle fault.0).leaves.either begun.0 begun.1 c.answer.ensures.causes.told (g.met.D.Disk.counts_now (disk_at new))) (nothing_journal self.works new c.in-Err-Disk.ensures.fails.rests.nothing) c.in-Err-Disk.ensures.fails.rests.view;
      bounded = bounds_rested self.opening self.stopped (Some c.faults-after.result) self.works new c.in-Err-Disk.ensures.fails.rests self.bounded;
      counted = counted_risen self.opening.count (g.D.Disk.count (disk_at self.works)) (g.D.Disk.count (disk_at new)) self.counted rose;
      past = past_rested self.opening self.stopped (Some c.faults-after.result) self.works new c.in-Err-Disk.ensures.fails.rests self.past;
    }

pub returns-in-Ok-clause-call : goal.returns-in-Ok-clause-call
returns-in-Ok-clause-call g c =
    let self = c.args.self.now in
    let new = c.answer.new.self in
    let told : Told c.args.cmd self.works new = record {
      tied = c.in-Ok.ensures.tied;
      still = λ other. (c.answer.ensures.other other).still;
      leaves = λ settles. (c.answer.ensures.settle settles).leaves;
      told = c.answer.ensures.causes.told;
      counts = g.met.D.Disk.counts_now (disk_at new);
      only_now = g.met.D.Disk.only_now (disk_at self.works);
    } in
    let last = last_of c.args.client self.works new c.args.cmd c.in-Ok.reply c.in-Ok.ensures.answers in
    let serves = ask_serves self.opening self.stopped self.works c.requires.running (safe self.sound) new c.args.client c.args.cmd c.in-Ok.reply (agrees self.opening self.stopped self.works new self.sound c.args.client c.args.cmd c.in-Ok.reply c.in-Ok.ensures.answers) told c.in-Ok.ensures.answers in
    record {
      serves = serves;
      fails = tt;
      running = record { running = c.requires.running; count = c.in-Ok.ensures.causes.cause };
      reopen = tt;
      still = λ other. record { disk = (c.answer.ensures.other other).still.disk; none = tt };
      leaves = λ none. leaves_answered self.opening self.stopped self.works none (safe self.sound) new c.args.cmd c.in-Ok.reply (g.met.D.Disk.only_now (disk_at self.works)) (λ other. (c.answer.ensures.other other).still) (λ settles. (c.answer.ensures.settle settles).leaves);
      settled = settled_all self.opening self.stopped self.works new c.args.client c.requires.running (safe self.sound) c.args.cmd c.in-Ok.reply serves c.in-Ok.ensures.answers;
      short = tt;
      shown = short_of c.args.client c.args.cmd self.works new c.in-Ok.reply c.in-Ok.ensures.answers;
      copies = λ other. copies_of self.opening self.stopped self.works new c.args.client c.args.cmd c.in-Ok.reply other c.in-Ok.ensures.answers;
      lasts = λ _. tt;
      idle = idle_of self.opening self.stopped self.works new c.args.cmd (λ other. (c.answer.ensures.other other).still) (λ settles. (c.answer.ensures.settle settles).leaves);
      dropped = dropped_all self.opening self.stopped self.works new c.args.client c.args.cmd c.in-Ok.reply c.in-Ok.ensures.answers;
      made = c.in-Ok.ensures.causes.made;
      past = c.in-Ok.ensures.causes.made.past;
      space = space_of c.args.client c.args.cmd self.works new c.in-Ok.reply c.in-Ok.ensures.answers;
      work = work_of c.args.client c.args.cmd self.works new c.in-Ok.reply c.in-Ok.ensures.answers;
      bound = kept_of c.args.client c.args.cmd self.works new c.in-Ok.reply c.in-Ok.ensures.answers;
      room = room_of c.args.client c.args.cmd self.works new c.in-Ok.reply c.in-Ok.ensures.answers;
      unmade = refl;
      kept = record { past = last.0; recent = last.1 };
    }

pub returns-in-Err-Memory-clause-call : goal.returns-in-Err-Memory-clause-call
returns-in-Err-Memory-clause-call g c =
    let self = c.args.self.now in
    let new = c.answer.new.self in
    let arm = c.in-Err-Memory in
    let so = subst (λ (fault : SaveFault). IfMemory (LastsSo self.works new) fault) arm.field-0-is arm.ensures.fails.memory in
    let stands = subst (λ (fault : SaveFault). IsFaultOf (g.D.Disk.count (disk_at self.works)) (g.D.Disk.count (disk_at new)) fault) arm.field-0-is arm.ensures.causes.cause in
    record {
      serves = tt;
      fails = (nothing_served self.opening self.stopped self.works new self.stopped arm.ensures.fails.rests, c.requires.running, c.requires.running, stands);
      running = tt;
      reopen = tt;
      still = λ other. record { disk = (c.answer.ensures.other other).still.disk; none = tt };
      leaves = λ none. settled_alone self.opening self.stopped self.works none (safe self.sound) new c.args.cmd (Err (Memory no_memory)) so.spares;
      settled = tt;
      short = λ settles. subst (λ (fault : SaveFault). IfMemory (IsShort self.works new) fault) arm.field-0-is (subst (λ (result : Result Reply SaveFault). OnMemory result (IsShort self.works new)) arm.is (c.answer.ensures.settle settles).short);
      shown = tt;
      copies = λ _. tt;
      lasts = λ other. left_alone self.opening self.stopped self.works new (subst (λ (result : Result Reply SaveFault). OnErr result (IsLeft self.works new)) arm.is (c.answer.ensures.other other).left);
      idle = idle_of self.opening self.stopped self.works new c.args.cmd (λ other. (c.answer.ensures.other other).still) (λ settles. (c.answer.ensures.settle settles).leaves);
      dropped = tt;
      made = arm.ensures.causes.made;
      past = arm.ensures.causes.made.past;
      space = tt;
      work = still_works (view_in self.works) (view_in new) (raises c.args.cmd) arm.ensures.fails.rests.view;
      bound = kept_still (view_in self.works) (view_in new) arm.ensures.fails.rests.view;
      room = arm.ensures.fails.rests.nothing.room;
      unmade = refl;
      kept = record { past = same_past self.works new arm.ensures.fails.rests.nothing.past; recent = arm.ensures.fails.rests.nothing.journal };
    }

pub returns-in-Err-Disk-clause-call : goal.returns-in-Err-Disk-clause-call
returns-in-Err-Disk-clause-call g c =
    let self = c.args.self.now in
    let new = c.answer.new.self in
    let arm = c.in-Err-Disk in
    let fault = subst (λ (fault : SaveFault). IsFaultFor (is_settle c.args.cmd) self.works fault) arm.field-0-is arm.ensures.fails.fault in
    let rose = subst (λ (fault : SaveFault). IsFaultOf (g.D.Disk.count (disk_at self.works)) (g.D.Disk.count (disk_at new)) fault) arm.field-0-is arm.ensures.causes.cause in
    let begun = progress_of (saving_in self.works).progress fault.1 in
    record {
      serves = tt;
      fails = (
        nothing_served self.opening self.stopped self.works new (Some c.faults-after.result) arm.ensures.fails.rests,
        c.requires.running,
        ap (λ (count : ℕ). Some count) c.faults-after.ensures,
        shows_rise c.faults-before.result c.faults-after.result (g.D.Disk.count (disk_at self.works)) (g.D.Disk.count (disk_at new)) c.faults-before.ensures c.faults-after.ensures rose,
      );
      running = tt;
      reopen = tt;
      still = λ other. absurd (true_false (sym fault.0 ∙ other));
      leaves = λ none. leaves_failed self.opening self.stopped self.works none (safe self.sound) new c.args.cmd c.faults-before.result c.faults-after.result fault.0 begun.0 begun.1 (c.answer.ensures.settle fault.0).leaves;
      settled = tt;
      short = tt;
      shown = tt;
      copies = λ _. tt;
      lasts = λ _. tt;
      idle = idle_of self.opening self.stopped self.works new c.args.cmd (λ other. (c.answer.ensures.other other).still) (λ settles. (c.answer.ensures.settle settles).leaves);
      dropped = tt;
      made = arm.ensures.causes.made;
      past = arm.ensures.causes.made.past;
      space = tt;
      work = still_works (view_in self.works) (view_in new) (raises c.args.cmd) arm.ensures.fails.rests.view;
      bound = kept_still (view_in self.works) (view_in new) arm.ensures.fails.rests.view;
      room = arm.ensures.fails.rests.nothing.room;
      unmade = refl;
      kept = record { past = same_past self.works new arm.ensures.fails.rests.nothing.past; recent = arm.ensures.fails.rests.nothing.journal };
    }
