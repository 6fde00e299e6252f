use Rattle.std.proofs.Common.{ℕ, Option, Some, None, ap, arith, refl, subst}
use Rattle.pm_shadow.specs.Pages.{state}
use Rattle.pm_space.specs.Shown.{view}
use Rattle.pm_engine.specs.Works.Seen.{IsCrashSafe}
use Rattle.pm_engine.specs.Works.Working.{disk_at, place_in, view_in}
use Rattle.pm_engine.proofs.WorksLemmas.Asking.{stored}
use Rattle.pm_engine.proofs.WorksLemmas.Collected.{collects, same_disk, tried_sound}
use Rattle.pm_engine.proofs.WorksLemmas.Counts.{counted_still}
use Rattle.pm_young.specs.declared.halt.Halt.{Halt}
use Rattle.pm_young.specs.declared.halt.HaltCause.TheVariants.{Memory}
use Rattle.pm_young.specs.Halts.{stopped_by}
use Rattle.pm_young.proofs.Events.{entered_on, goes_quietly, left_told, next_on, tried_journal, tried_makes_none, tried_past, within_on}
use Rattle.pm_young.proofs.Whole.{whole_still}
use Rattle.pm_young.proofs.engine.YoungEngine.collect_running.Goals as goal

pub collect-requires-clause-tied : goal.collect-requires-clause-tied
collect-requires-clause-tied g c =
    let it = c.args.self.now in
    (stored it.opening (stopped_by it.halted) it.works (ap stopped_by c.requires.running) it.safe).tied

pub invariant_of-self : goal.invariant_of-self
invariant_of-self g c =
    let it = c.args.self.now in
    let new = c.collect.new.self in
    let is = c.collect.ensures in
    let next = next_on it.opening it.works new it.nursery is.worlds (it.within c.requires.running) in
    record {
      safe = tried_sound it.opening (stopped_by it.halted) it.works new (ap stopped_by c.requires.running) it.safe c.collect.result is.collects is.err is.pages is.tied
          (g.met.D.Disk.counts_now (disk_at new)) (g.met.D.Disk.only_now (disk_at it.works));
      within = λ running. within_on it.opening it.works new it.nursery is.worlds (tried_journal g.F.Fn (place_in it.works) it.works new c.collect.result is.collects is.err) (it.within running);
      comes_in = entered_on (view it.opening.space.value.parts) (view_in it.works) (view_in new) it.nursery it.entered.items
          (tried_makes_none g.F.Fn (place_in it.works) it.works new c.collect.result it.works.space.kept is.event is.err) next it.comes_in;
      counted = counted_still it.opening.count (g.D.Disk.count (disk_at it.works)) (g.D.Disk.count (disk_at new)) it.counted (ap g.D.Disk.count (same_disk it.works new is.pages));
      whole = whole_still it.works new (tried_past g.F.Fn (place_in it.works) it.works new c.collect.result is.collects is.err) it.whole;
    }

pub invariant_of-self-in-Err : goal.invariant_of-self-in-Err
invariant_of-self-in-Err g c =
    let it = c.args.self.now in
    let new = c.collect.new.self in
    let is = c.collect.ensures in
    let next = next_on it.opening it.works new it.nursery is.worlds (it.within c.requires.running) in
    record {
      safe = tried_sound it.opening None it.works new refl (subst (λ (h : Option Halt). ∥ IsCrashSafe it.opening (stopped_by h) it.works ∥₁) c.requires.running it.safe) c.collect.result is.collects is.err is.pages is.tied
          (g.met.D.Disk.counts_now (disk_at new)) (g.met.D.Disk.only_now (disk_at it.works));
      within = λ never. absurd (cc never);
      comes_in = entered_on (view it.opening.space.value.parts) (view_in it.works) (view_in new) it.nursery it.entered.items
          (tried_makes_none g.F.Fn (place_in it.works) it.works new c.collect.result it.works.space.kept is.event is.err) next it.comes_in;
      counted = counted_still it.opening.count (g.D.Disk.count (disk_at it.works)) (g.D.Disk.count (disk_at new)) it.counted (ap g.D.Disk.count (same_disk it.works new is.pages));
      whole = whole_still it.works new c.in-Err.ensures.err.nothing.past it.whole;
    }

pub returns-in-Ok-clause-call : goal.returns-in-Ok-clause-call
returns-in-Ok-clause-call g c =
    let it = c.args.self.now in
    let new = c.collect.new.self in
    let is = c.collect.ensures in
    record {
      event = c.in-Ok.ensures.event;
      collects = collects it.opening (stopped_by it.halted) it.works new c.in-Ok.ensures.collects;
      fails = tt;
      running = record { running = c.requires.running; count = ap g.D.Disk.count (same_disk it.works new is.pages) };
      runs = c.requires.running;
      still = record { disk = same_disk it.works new is.pages; none = tt };
      pages = ap state is.pages;
      memory = tt;
      short = tt;
      room = let same = is.room in omega (arith, same);
      young = record { young = refl; entered = refl };
      goes = goes_quietly it _ refl (record { young = refl; entered = refl }) (next_on it.opening it.works new it.nursery is.worlds (it.within c.requires.running));
    }

pub returns-in-Err-clause-call : goal.returns-in-Err-clause-call
returns-in-Err-clause-call g c =
    let it = c.args.self.now in
    let new = c.collect.new.self in
    let is = c.collect.ensures in
    let disk = same_disk it.works new is.pages in
    record {
      event = tt;
      collects = tt;
      fails = record {
        running = c.requires.running;
        halts = ap (λ (count : ℕ). Some (record { cause = Memory; count = count })) c.faults.ensures;
        count = ap g.D.Disk.count disk;
      };
      running = tt;
      runs = tt;
      still = record { disk = disk; none = tt };
      pages = ap state is.pages;
      memory = left_told it.opening (stopped_by it.halted) it.works new (ap stopped_by c.requires.running) c.in-Err.ensures.err;
      short = c.in-Err.ensures.short;
      room = let same = is.room in omega (arith, same);
      young = record { young = refl; entered = refl };
      goes = goes_quietly it _ refl (record { young = refl; entered = refl }) (next_on it.opening it.works new it.nursery is.worlds (it.within c.requires.running));
    }
