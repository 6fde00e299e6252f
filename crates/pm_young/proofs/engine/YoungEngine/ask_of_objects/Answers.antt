use Rattle.std.proofs.Common.{◌≡◌, ◌≤◌, ℕ, List, Option, Some, None, Ok, Err, ap, refl, sym, subst, ◌∙◌, arith}
use Rattle.pm_types.specs.Memory.{no_memory}
use Rattle.pm_types.specs.declared.fault.EngineFault.TheVariants.{Memory}
use Rattle.pm_save.specs.Writer.Settling.{settling_syncs, settling_writes}
use Rattle.std.specs.Option.{IsSome}
use Rattle.std.specs.FinMap.{get}
use Rattle.pm_space.specs.Shown.{view}
use Rattle.pm_save.specs.Shown.{saving}
use Rattle.pm_saving.specs.Progress.{Saving}
use Rattle.pm_saving.specs.Serving.{world}
use Rattle.pm_engine.specs.Works.Seen.{IsCrashSafe, seen}
use Rattle.pm_engine.specs.Works.Working.{disk_at, saving_in, state_in, view_in}
use Rattle.pm_engine.proofs.WorksLemmas.Asking.{at_none, stored}
use Rattle.pm_engine.proofs.WorksLemmas.Crashing.{settled_alone}
use Rattle.pm_engine.proofs.WorksLemmas.Kept.{spares_still, still_made}
use Rattle.pm_engine.proofs.WorksLemmas.Whole.{nothing_journal}
use Rattle.pm_law_saving.proofs.ServingLemmas.Kept.{stays_same}
use Rattle.pm_nursery.specs.Young.{NurseryView}
use Rattle.pm_young.specs.declared.halt.Halt.{Halt}
use Rattle.pm_young.specs.declared.halt.HaltCause.TheVariants as causes
use Rattle.pm_young.specs.Entering.{KeepsEntered}
use Rattle.pm_young.specs.Halts.{stopped_by}
use Rattle.pm_young.proofs.Asked.{enters_lost, enters_then, escaping_then, first_lost, for_some, least_next, none_stays, not_saved_then, safe_lost, safe_then, same_disk, served, stands_then, young_then_is}
use Rattle.pm_young.proofs.Sound.{may_all_come}
use Rattle.pm_young.proofs.Told.{drops_none, goes_coming, settles_none, settles_not}
use Rattle.pm_young.proofs.Whole.{whole_still}
use Rattle.pm_young.proofs.engine.YoungEngine.ask_of_objects.Goals as goal

pub answer-answered-requires-clause-may : goal.answer-answered-requires-clause-may
answer-answered-requires-clause-may g c =
    let it = c.args.self.now in
    may_all_come (view it.opening.space.value.parts) (view it.works.space.parts) it.nursery it.entered.items it.opening.space.value.kept it.comes_in

pub answer-answered-requires-clause-stands : goal.answer-answered-requires-clause-stands
answer-answered-requires-clause-stands g c =
    let it = c.args.self.now in
    for_some it.opening it.works it.nursery (at_none it.opening (stopped_by it.halted) it.works (ap stopped_by c.requires.running) it.safe) (it.within c.requires.running)

pub invariant_of-self : goal.invariant_of-self
invariant_of-self g c =
    let it = c.args.self.now in
    let works = c.answer-answered.new.works in
    let nursery = c.answer-answered.new.nursery in
    let last = c.answer-answered.new.entered.items in
    let kept = c.answer-answered.ensures.kept in
    let safe = at_none it.opening (stopped_by it.halted) it.works (ap stopped_by c.requires.running) it.safe in
    let stands = it.within c.requires.running in
    let least = least_next it.opening it.works it.nursery stands in
    let counts = g.met.D.Disk.counts_now (disk_at works) in
    let only_now = g.met.D.Disk.only_now (disk_at it.works) in
    let same = same_disk it.opening it.works works it.nursery nursery c.args.client c.args.cmd c.requires.act kept safe stands counts only_now in
    let is = c.in-Ok.ensures.ok in
    record {
      safe = subst (λ (h : Option Halt). ∥ IsCrashSafe it.opening (stopped_by h) works ∥₁) (sym c.requires.running) (safe_then it.opening it.works works it.nursery nursery c.args.client c.args.cmd c.requires.act kept safe stands counts only_now it.entered.items last c.in-Ok.reply is);
      within = λ running. stands_then it.opening it.works works it.nursery nursery c.args.client c.args.cmd c.requires.act kept safe stands counts only_now it.entered.items last c.in-Ok.reply is;
      comes_in = enters_then it.opening it.works works it.nursery nursery c.args.client c.args.cmd c.requires.act kept safe stands counts only_now it.entered.items last c.in-Ok.reply is (view it.opening.space.value.parts) least it.comes_in;
      counted = subst (λ d. it.opening.count ≤ g.D.Disk.count d) (sym same) it.counted;
      whole = whole_still it.works works is.adds.past it.whole;
    }

pub invariant_of-self-in-Err : goal.invariant_of-self-in-Err
invariant_of-self-in-Err g c =
    let it = c.args.self.now in
    let works = c.answer-answered.new.works in
    let nursery = c.answer-answered.new.nursery in
    let last = c.answer-answered.new.entered.items in
    let kept = c.answer-answered.ensures.kept in
    let safe = at_none it.opening (stopped_by it.halted) it.works (ap stopped_by c.requires.running) it.safe in
    let stands = it.within c.requires.running in
    let least = least_next it.opening it.works it.nursery stands in
    let counts = g.met.D.Disk.counts_now (disk_at works) in
    let only_now = g.met.D.Disk.only_now (disk_at it.works) in
    let same = same_disk it.opening it.works works it.nursery nursery c.args.client c.args.cmd c.requires.act kept safe stands counts only_now in
    let is = c.in-Err.ensures.err in
    record {
      safe = safe_lost it.opening it.works works it.nursery nursery c.args.client c.args.cmd c.requires.act kept safe stands counts only_now it.entered.items last is;
      within = λ never. absurd (cc never);
      comes_in =
          subst (λ (n : NurseryView). ∥ KeepsEntered (view it.opening.space.value.parts) (view_in works) n last ∥₁) (sym c.drop_all.ensures)
          (enters_lost it.opening it.works works it.nursery nursery c.args.client c.args.cmd c.requires.act kept safe stands counts only_now it.entered.items last is (view it.opening.space.value.parts) least it.comes_in);
      counted = subst (λ d. it.opening.count ≤ g.D.Disk.count d) (sym same) it.counted;
      whole = whole_still it.works works is.nothing.past it.whole;
    }

pub returns-in-Ok-clause-call : goal.returns-in-Ok-clause-call
returns-in-Ok-clause-call g c =
    let it = c.args.self.now in
    let works = c.answer-answered.new.works in
    let nursery = c.answer-answered.new.nursery in
    let last = c.answer-answered.new.entered.items in
    let kept = c.answer-answered.ensures.kept in
    let safe = at_none it.opening (stopped_by it.halted) it.works (ap stopped_by c.requires.running) it.safe in
    let stands = it.within c.requires.running in
    let least = least_next it.opening it.works it.nursery stands in
    let counts = g.met.D.Disk.counts_now (disk_at works) in
    let only_now = g.met.D.Disk.only_now (disk_at it.works) in
    let same = same_disk it.opening it.works works it.nursery nursery c.args.client c.args.cmd c.requires.act kept safe stands counts only_now in
    let is = c.in-Ok.ensures.ok in
    let reply = c.in-Ok.reply in
    let none = ap stopped_by c.requires.running in
    record {
      serves = served it.opening it.works works it.nursery nursery c.args.client c.args.cmd c.requires.act kept safe stands counts only_now it.entered.items last reply is (stopped_by it.halted) none;
      enters = record {
        ids = is.space.ids;
        escaping = escaping_then it.opening it.works works it.nursery nursery c.args.client c.args.cmd c.requires.act kept safe stands counts only_now it.entered.items last reply is;
        entered = is.space.entered;
        here = is.space.answers.comes.here;
        young = young_then_is it.opening it.works works it.nursery nursery c.args.client c.args.cmd c.requires.act kept safe stands counts only_now it.entered.items last reply is;
      };
      fails = tt;
      running = record { running = c.requires.running; count = ap g.D.Disk.count same };
      runs = c.requires.running;
      still = λ _. record { disk = same; none = tt };
      leaves = λ none. settled_alone it.opening (stopped_by it.halted) it.works none it.safe works c.args.cmd (Ok reply) (spares_still it.works works only_now same (stored it.opening (stopped_by it.halted) it.works none it.safe).tied.sound);
      settled = settles_none _ _ reply (not_saved_then it.opening it.works works it.nursery nursery c.args.client c.args.cmd c.requires.act kept safe stands counts only_now it.entered.items last reply is);
      dropped = drops_none _ _ c.args.cmd reply c.requires.act;
      made = still_made g.D.Disk (settling_writes (saving_in it.works) (state_in it.works)) (settling_syncs (state_in it.works)) (disk_at it.works) (disk_at works) same;
      short = tt;
      shown = is.space.answers.short;
      copies = λ _. record { saving = ap saving kept.saver; frozen = kept.frozen };
      idle = λ _. same;
      past = ap (λ d. (g.D.Disk.made d).past) same;
      room = is.adds.room;
      goes = goes_coming it _ is.space.ids refl is.space.answers.comes is.space.entered is.space.answers.young;
    }

pub returns-in-Err-clause-call : goal.returns-in-Err-clause-call
returns-in-Err-clause-call g c =
    let it = c.args.self.now in
    let works = c.answer-answered.new.works in
    let nursery = c.answer-answered.new.nursery in
    let last = c.answer-answered.new.entered.items in
    let kept = c.answer-answered.ensures.kept in
    let safe = at_none it.opening (stopped_by it.halted) it.works (ap stopped_by c.requires.running) it.safe in
    let stands = it.within c.requires.running in
    let least = least_next it.opening it.works it.nursery stands in
    let counts = g.met.D.Disk.counts_now (disk_at works) in
    let only_now = g.met.D.Disk.only_now (disk_at it.works) in
    let same = same_disk it.opening it.works works it.nursery nursery c.args.client c.args.cmd c.requires.act kept safe stands counts only_now in
    let is = c.in-Err.ensures.err in
    let saver = ap saving kept.saver in
    record {
      serves = tt;
      enters = tt;
      fails = record {
        halts = record { running = c.requires.running; halts = ap (λ (count : ℕ). Some (record { cause = causes.Memory; count = count })) c.faults.ensures; count = ap g.D.Disk.count same };
        nothing = record {
          opening = record { number = refl; opened = refl };
          frozen = kept.frozen;
          settled = ap (λ (s : Saving). s.settled) saver;
          progress = stays_same (saving_in it.works).progress (saving_in works).progress (ap (λ (s : Saving). s.progress) saver);
          journal = nothing_journal it.works works is.nothing;
          course = is.nothing.course;
          watches = is.nothing.watches;
          events = is.nothing.events;
          steps = is.nothing.steps;
        };
        ids = is.space.ids;
        first = first_lost it.opening it.works works it.nursery nursery c.args.client c.args.cmd c.requires.act kept safe stands counts only_now it.entered.items last is;
        entered = is.space.entered;
        here = is.space.loses.comes.here;
        young = c.drop_all.ensures;
      };
      running = tt;
      runs = tt;
      still = λ _. record { disk = same; none = tt };
      leaves = λ none. settled_alone it.opening (stopped_by it.halted) it.works none it.safe works c.args.cmd (Err (Memory no_memory)) (spares_still it.works works only_now same (stored it.opening (stopped_by it.halted) it.works none it.safe).tied.sound);
      settled = tt;
      dropped = tt;
      made = still_made g.D.Disk (settling_writes (saving_in it.works) (state_in it.works)) (settling_syncs (state_in it.works)) (disk_at it.works) (disk_at works) same;
      short = λ settles. absurd (cc (settles_not c.args.cmd c.requires.act, settles));
      shown = tt;
      copies = λ _. tt;
      idle = λ _. same;
      past = ap (λ d. (g.D.Disk.made d).past) same;
      room = is.nothing.room;
      goes = goes_coming it _ is.space.ids refl is.space.loses.comes is.space.entered (λ id there. none_stays (view_in it.works) (view_in works) it.nursery is.space.ids id (subst (λ (n : NurseryView). IsSome (get n.objects id)) c.drop_all.ensures there));
    }
