use Rattle.std.proofs.Common.{◌≡◌, inl, ℕ, true, false, List, [], Option, Some, None, Result, Ok, Err, OnErr, ap, refl, sym, subst, ◌∙◌, append-nil, arith}
use Rattle.pm_types.specs.Memory.{no_memory}
use Rattle.pm_types.specs.declared.reply.Reply.{Reply}
use Rattle.pm_types.specs.declared.fault.EngineFault.TheVariants.{Memory}
use Rattle.pm_model.specs.Frames.{is_settle}
use Rattle.pm_view.specs.View.{SpaceView}
use Rattle.pm_save.specs.declared.progress.fault.SaveFault.{SaveFault}
use Rattle.pm_save.specs.Progress.Answers.{IfMemory, IsFaultOf, OnMemory}
use Rattle.pm_space.specs.Shown.{view}
use Rattle.pm_saving.specs.Serving.{world}
use Rattle.pm_engine.specs.Works.Seen.{IsCrashSafe, seen}
use Rattle.pm_engine.specs.Works.Working.{IsFaultFor, IsShort, LastsSo, disk_at, saving_in, view_in}
use Rattle.pm_engine.proofs.WorksLemmas.Answering.{Told, room_of}
use Rattle.pm_engine.proofs.WorksLemmas.Asking.{ask_serves, ask_sound, at_none, fail_sound, rest_sound, stored}
use Rattle.pm_engine.proofs.WorksLemmas.Counts.{counted_risen, counted_still}
use Rattle.pm_engine.proofs.WorksLemmas.Crashing.{leaves_answered, leaves_failed, progress_of, settled_alone}
use Rattle.pm_engine.proofs.WorksLemmas.Settled.{dropped_all, settled_all}
use Rattle.pm_engine.proofs.WorksLemmas.Telling.{copies_of, idle_of, nothing_served, short_of, shows_rise}
use Rattle.pm_engine.proofs.WorksLemmas.Whole.{nothing_journal}
use Rattle.pm_nursery.specs.Young.{NurseryView}
use Rattle.pm_young.specs.declared.halt.Halt.{Halt}
use Rattle.pm_young.specs.declared.halt.HaltCause.TheVariants as causes
use Rattle.pm_young.specs.Entering.{KeepsEntered}
use Rattle.pm_young.specs.Halts.{stopped_by}
use Rattle.pm_young.proofs.Saved.{agrees_young, saves_escaping, saves_young, stands_saved, view_same}
use Rattle.pm_young.proofs.Told.{first_nothing, keeps_dropped, keeps_viewed, goes_dropped, goes_still}
use Rattle.pm_young.proofs.Whole.{whole_answered, whole_still}
use Rattle.pm_young.proofs.engine.YoungEngine.ask_of_copies.Goals as goal

true_false : true ≡ false → ⊥
true_false is = cc is

pub answer-requires-clause-tied : goal.answer-requires-clause-tied
answer-requires-clause-tied g c = let it = c.args.self.now in (stored it.opening (stopped_by it.halted) it.works (ap stopped_by c.requires.running) it.safe).tied

pub invariant_of-self : goal.invariant_of-self
invariant_of-self g c =
    let it = c.args.self.now in
    let stopped = stopped_by it.halted in
    let none = ap stopped_by c.requires.running in
    let new = c.answer.new.self in
    let reply = c.in-Ok.reply in
    let is = c.in-Ok.ensures.answers in
    let stands = it.within c.requires.running in
    let agrees = agrees_young it.opening it.works new it.nursery c.args.client c.args.cmd c.requires.saves stands reply in
    let told : Told c.args.cmd it.works new = record {
      tied = c.in-Ok.ensures.tied;
      still = λ other. (c.answer.ensures.other other).still;
      leaves = λ settles. (c.answer.ensures.settle settles).leaves;
      told = c.answer.ensures.causes.told;
      counts = g.met.D.Disk.counts_now (disk_at new);
      only_now = g.met.D.Disk.only_now (disk_at it.works);
    } in
    record {
      safe = ask_sound it.opening stopped it.works none it.safe new c.args.client c.args.cmd reply agrees told is;
      within = λ running. stands_saved it.opening it.works new it.nursery c.args.client c.args.cmd c.requires.saves stands reply is;
      comes_in = keeps_viewed (view it.opening.space.value.parts) (view_in it.works) (view_in new) it.nursery it.entered.items (view_same it.opening it.works new it.nursery c.args.client c.args.cmd c.requires.saves stands reply is) it.comes_in;
      counted = counted_still it.opening.count (g.D.Disk.count (disk_at it.works)) (g.D.Disk.count (disk_at new)) it.counted c.in-Ok.ensures.causes.cause;
      whole = whole_answered c.args.client it.works new c.args.cmd c.requires.saves reply is it.whole;
    }

pub invariant_of-self-in-Err-Memory : goal.invariant_of-self-in-Err-Memory
invariant_of-self-in-Err-Memory g c =
    let it = c.args.self.now in
    let new = c.answer.new.self in
    let arm = c.in-Err-Memory in
    let none = ap stopped_by c.requires.running in
    let so = subst (λ (fault : SaveFault). IfMemory (LastsSo it.works new) fault) arm.field-0-is arm.ensures.fails.memory in
    let cause = subst (λ (fault : SaveFault). IsFaultOf (g.D.Disk.count (disk_at it.works)) (g.D.Disk.count (disk_at new)) fault) arm.field-0-is arm.ensures.causes.cause in
    record {
      safe = rest_sound it.opening None it.works refl (at_none it.opening (stopped_by it.halted) it.works none it.safe) new arm.ensures.fails.rests so.tied so.lasts c.answer.ensures.causes.told so.spares (g.met.D.Disk.counts_now (disk_at new));
      within = λ never. absurd (cc never);
      comes_in = subst (λ (n : NurseryView). ∥ KeepsEntered (view it.opening.space.value.parts) (view_in new) n it.entered.items ∥₁) (sym c.drop_all.ensures)
          (keeps_dropped (view it.opening.space.value.parts) (view_in it.works) (view_in new) it.nursery it.entered.items arm.ensures.fails.rests.view it.comes_in);
      counted = counted_still it.opening.count (g.D.Disk.count (disk_at it.works)) (g.D.Disk.count (disk_at new)) it.counted cause;
      whole = whole_still it.works new arm.ensures.fails.rests.nothing.past it.whole;
    }

pub invariant_of-self-in-Err-Disk : goal.invariant_of-self-in-Err-Disk
invariant_of-self-in-Err-Disk g c =
    let it = c.args.self.now in
    let new = c.answer.new.self in
    let arm = c.in-Err-Disk in
    let none = ap stopped_by c.requires.running in
    let fault = subst (λ (fault : SaveFault). IsFaultFor (is_settle c.args.cmd) it.works fault) arm.field-0-is arm.ensures.fails.fault in
    let begun = progress_of (saving_in it.works).progress fault.1 in
    let rose = subst (λ (fault : SaveFault). IsFaultOf (g.D.Disk.count (disk_at it.works)) (g.D.Disk.count (disk_at new)) fault) arm.field-0-is arm.ensures.causes.cause in
    record {
      safe = fail_sound it.opening (stopped_by it.halted) it.works none it.safe new c.faults-after.result arm.ensures.fails.rests (c.answer.ensures.settle fault.0).leaves.either begun.0 begun.1 c.answer.ensures.causes.told (g.met.D.Disk.counts_now (disk_at new));
      within = λ never. absurd (cc never);
      comes_in = keeps_viewed (view it.opening.space.value.parts) (view_in it.works) (view_in new) it.nursery it.entered.items arm.ensures.fails.rests.view it.comes_in;
      counted = counted_risen it.opening.count (g.D.Disk.count (disk_at it.works)) (g.D.Disk.count (disk_at new)) it.counted rose;
      whole = whole_still it.works new arm.ensures.fails.rests.nothing.past it.whole;
    }

pub returns-in-Ok-clause-call : goal.returns-in-Ok-clause-call
returns-in-Ok-clause-call g c =
    let it = c.args.self.now in
    let stopped = stopped_by it.halted in
    let none = ap stopped_by c.requires.running in
    let new = c.answer.new.self in
    let client = c.args.client in
    let cmd = c.args.cmd in
    let reply = c.in-Ok.reply in
    let is = c.in-Ok.ensures.answers in
    let stands = it.within c.requires.running in
    let agrees = agrees_young it.opening it.works new it.nursery client cmd c.requires.saves stands reply in
    let told : Told cmd it.works new = record {
      tied = c.in-Ok.ensures.tied;
      still = λ other. (c.answer.ensures.other other).still;
      leaves = λ settles. (c.answer.ensures.settle settles).leaves;
      told = c.answer.ensures.causes.told;
      counts = g.met.D.Disk.counts_now (disk_at new);
      only_now = g.met.D.Disk.only_now (disk_at it.works);
    } in
    let serves = ask_serves it.opening stopped it.works none it.safe new client cmd reply agrees told is in
    let viewed = view_same it.opening it.works new it.nursery client cmd c.requires.saves stands reply is in
    record {
      serves = serves;
      enters = record {
        ids = [];
        escaping = ∣ saves_escaping (world (seen it.opening stopped it.works)) it.nursery client cmd c.requires.saves ∣₁;
        entered = sym (append-nil it.entered.items);
        here = λ id never. absurd (cc never);
        young = saves_young (world (seen it.opening stopped it.works)) it.nursery client cmd c.requires.saves;
      };
      fails = tt;
      running = record { running = c.requires.running; count = c.in-Ok.ensures.causes.cause };
      runs = c.requires.running;
      still = λ other. record { disk = (c.answer.ensures.other other).still.disk; none = tt };
      leaves = λ none. leaves_answered it.opening stopped it.works none it.safe new cmd reply (g.met.D.Disk.only_now (disk_at it.works)) (λ other. (c.answer.ensures.other other).still) (λ settles. (c.answer.ensures.settle settles).leaves);
      settled = settled_all it.opening stopped it.works new client none it.safe cmd reply serves is;
      dropped = dropped_all it.opening stopped it.works new client cmd reply is;
      made = c.in-Ok.ensures.causes.made;
      short = tt;
      shown = short_of client cmd it.works new reply is;
      copies = λ other. copies_of it.opening stopped it.works new client cmd reply other is;
      idle = idle_of it.opening stopped it.works new cmd (λ other. (c.answer.ensures.other other).still) (λ settles. (c.answer.ensures.settle settles).leaves);
      past = c.in-Ok.ensures.causes.made.past;
      room = room_of client cmd it.works new reply is;
      goes = goes_still it _ refl viewed refl refl;
    }

pub returns-in-Err-Memory-clause-call : goal.returns-in-Err-Memory-clause-call
returns-in-Err-Memory-clause-call g c =
    let it = c.args.self.now in
    let stopped = stopped_by it.halted in
    let new = c.answer.new.self in
    let arm = c.in-Err-Memory in
    let rests = arm.ensures.fails.rests in
    let so = subst (λ (fault : SaveFault). IfMemory (LastsSo it.works new) fault) arm.field-0-is arm.ensures.fails.memory in
    let cause = subst (λ (fault : SaveFault). IsFaultOf (g.D.Disk.count (disk_at it.works)) (g.D.Disk.count (disk_at new)) fault) arm.field-0-is arm.ensures.causes.cause in
    record {
      serves = tt;
      enters = tt;
      fails = record {
        halts = record { running = c.requires.running; halts = ap (λ (count : ℕ). Some (record { cause = causes.Memory; count = count })) c.faults.ensures; count = cause };
        nothing = record {
          opening = record { number = refl; opened = refl };
          frozen = rests.frozen;
          settled = rests.settled;
          progress = rests.progress;
          journal = nothing_journal it.works new rests.nothing;
          course = rests.nothing.course;
          watches = rests.nothing.watches;
          events = rests.nothing.events;
          steps = rests.nothing.steps;
        };
        ids = [];
        first = ∣ first_nothing (world (seen it.opening stopped it.works)) it.nursery c.args.client c.args.cmd ∣₁;
        entered = sym (append-nil it.entered.items);
        here = λ id never. absurd (cc never);
        young = c.drop_all.ensures;
      };
      running = tt;
      runs = tt;
      still = λ other. record { disk = (c.answer.ensures.other other).still.disk; none = tt };
      leaves = λ none. settled_alone it.opening stopped it.works none it.safe new c.args.cmd (Err (Memory no_memory)) so.spares;
      settled = tt;
      dropped = tt;
      made = arm.ensures.causes.made;
      short = λ settles. subst (λ (fault : SaveFault). IfMemory (IsShort it.works new) fault) arm.field-0-is (subst (λ (result : Result Reply SaveFault). OnMemory result (IsShort it.works new)) arm.is (c.answer.ensures.settle settles).short);
      shown = tt;
      copies = λ _. tt;
      idle = idle_of it.opening stopped it.works new c.args.cmd (λ other. (c.answer.ensures.other other).still) (λ settles. (c.answer.ensures.settle settles).leaves);
      past = arm.ensures.causes.made.past;
      room = rests.nothing.room;
      goes = goes_dropped it _ refl rests.view refl c.drop_all.ensures;
    }

pub returns-in-Err-Disk-clause-call : goal.returns-in-Err-Disk-clause-call
returns-in-Err-Disk-clause-call g c =
    let it = c.args.self.now in
    let stopped = stopped_by it.halted in
    let new = c.answer.new.self in
    let arm = c.in-Err-Disk in
    let rests = arm.ensures.fails.rests in
    let fault = subst (λ (fault : SaveFault). IsFaultFor (is_settle c.args.cmd) it.works fault) arm.field-0-is arm.ensures.fails.fault in
    let rose = subst (λ (fault : SaveFault). IsFaultOf (g.D.Disk.count (disk_at it.works)) (g.D.Disk.count (disk_at new)) fault) arm.field-0-is arm.ensures.causes.cause in
    let begun = progress_of (saving_in it.works).progress fault.1 in
    record {
      serves = tt;
      enters = tt;
      fails = record {
        settles = fault.0;
        halts = record {
          running = c.requires.running;
          halts = ap (λ (count : ℕ). Some (record { cause = causes.Disk; count = count })) c.faults-after.ensures;
          rose = shows_rise c.faults-before.result c.faults-after.result (g.D.Disk.count (disk_at it.works)) (g.D.Disk.count (disk_at new)) c.faults-before.ensures c.faults-after.ensures rose;
          nothing = nothing_served it.opening stopped it.works new (Some c.faults-after.result) rests;
        };
        nursery = record { young = refl; entered = refl };
      };
      running = tt;
      runs = tt;
      still = λ other. absurd (true_false (sym fault.0 ∙ other));
      leaves = λ none. leaves_failed it.opening stopped it.works none it.safe new c.args.cmd c.faults-before.result c.faults-after.result fault.0 begun.0 begun.1 (c.answer.ensures.settle fault.0).leaves;
      settled = tt;
      dropped = tt;
      made = arm.ensures.causes.made;
      short = tt;
      shown = tt;
      copies = λ _. tt;
      idle = idle_of it.opening stopped it.works new c.args.cmd (λ other. (c.answer.ensures.other other).still) (λ settles. (c.answer.ensures.settle settles).leaves);
      past = arm.ensures.causes.made.past;
      room = rests.nothing.room;
      goes = goes_still it _ refl rests.view refl refl;
    }
