use Rattle.std.proofs.Common.{ap, arith, refl}
use Rattle.pm_law_bound.proofs.Many.{kept_still}
use Rattle.pm_engine.specs.Works.Working.{disk_at, place_in, view_in}
use Rattle.pm_engine.proofs.engine.Engine.collect_running.Goals as goal
use Rattle.pm_engine.proofs.Standing.{safe, sound_tried}
use Rattle.pm_engine.proofs.WorksLemmas.Asking.{stored}
use Rattle.pm_engine.proofs.Bounding.{bounds_tried, made_keeps}
use Rattle.pm_engine.proofs.WorksLemmas.Collected.{collects, left_rests, same_disk, tried_sound}
use Rattle.pm_engine.proofs.WorksLemmas.Counts.{counted_still}
use Rattle.pm_engine.proofs.WorksLemmas.Telling.{left_alone, nothing_served}
use Rattle.pm_engine.proofs.Past.{past_tried}
use Rattle.pm_engine.proofs.WorksLemmas.Whole.{same_past}

pub collect-requires-clause-tied : goal.collect-requires-clause-tied
collect-requires-clause-tied g c = (stored c.args.self.now.opening c.args.self.now.stopped c.args.self.now.works c.requires.running (safe c.args.self.now.sound)).tied

pub invariant_of-self : goal.invariant_of-self
invariant_of-self g c =
    let self = c.args.self.now in
    let new = c.collect.new.self in
    record {
      sound = sound_tried self.opening self.stopped self.works new self.sound self.stopped
          (tried_sound self.opening self.stopped self.works new c.requires.running (safe self.sound) c.collect.result c.collect.ensures.collects c.collect.ensures.err c.collect.ensures.pages c.collect.ensures.tied
          (g.met.D.Disk.counts_now (disk_at new)) (g.met.D.Disk.only_now (disk_at self.works))) c.collect.result c.collect.ensures.collects c.collect.ensures.err c.collect.ensures.worlds;
      bounded = bounds_tried self.opening self.stopped self.works new g.F.Fn c.collect.result c.collect.ensures.counted c.collect.ensures.event c.collect.ensures.collects c.collect.ensures.err self.bounded;
      counted = counted_still self.opening.count (g.D.Disk.count (disk_at self.works)) (g.D.Disk.count (disk_at new)) self.counted (ap g.D.Disk.count (same_disk self.works new c.collect.ensures.pages));
      past = past_tried self.opening self.stopped self.works new g.F.Fn c.collect.result c.collect.ensures.event c.collect.ensures.collects c.collect.ensures.err self.past;
    }

pub invariant_of-self-in-Err : goal.invariant_of-self-in-Err
invariant_of-self-in-Err g c =
    let self = c.args.self.now in
    let new = c.collect.new.self in
    record {
      sound = sound_tried self.opening self.stopped self.works new self.sound self.stopped
          (tried_sound self.opening self.stopped self.works new c.requires.running (safe self.sound) c.collect.result c.collect.ensures.collects c.collect.ensures.err c.collect.ensures.pages c.collect.ensures.tied
          (g.met.D.Disk.counts_now (disk_at new)) (g.met.D.Disk.only_now (disk_at self.works))) c.collect.result c.collect.ensures.collects c.collect.ensures.err c.collect.ensures.worlds;
      bounded = bounds_tried self.opening self.stopped self.works new g.F.Fn c.collect.result c.collect.ensures.counted c.collect.ensures.event c.collect.ensures.collects c.collect.ensures.err self.bounded;
      counted = counted_still self.opening.count (g.D.Disk.count (disk_at self.works)) (g.D.Disk.count (disk_at new)) self.counted (ap g.D.Disk.count (same_disk self.works new c.collect.ensures.pages));
      past = past_tried self.opening self.stopped self.works new g.F.Fn c.collect.result c.collect.ensures.event c.collect.ensures.collects c.collect.ensures.err self.past;
    }

pub returns-in-Ok-clause-call : goal.returns-in-Ok-clause-call
returns-in-Ok-clause-call g c =
    let self = c.args.self.now in
    let new = c.collect.new.self in
    record {
      event = c.in-Ok.ensures.event;
      collects = collects self.opening self.stopped self.works new c.in-Ok.ensures.collects;
      fails = tt;
      running = record { running = c.requires.running; count = ap g.D.Disk.count (same_disk self.works new c.collect.ensures.pages) };
      reopen = tt;
      still = record { disk = same_disk self.works new c.collect.ensures.pages; none = tt };
      bound = made_keeps (view_in self.works) (view_in new) c.in-Ok.step g.F.Fn (place_in self.works) c.collect.ensures.counted c.in-Ok.ensures.event;
      memory = tt;
      short = tt;
      room = let same = c.collect.ensures.room in omega (arith, same);
      unmade = refl;
      kept = record { past = same_past self.works new c.in-Ok.ensures.collects.past; recent = c.in-Ok.ensures.collects.journal };
    }

pub returns-in-Err-clause-call : goal.returns-in-Err-clause-call
returns-in-Err-clause-call g c =
    let self = c.args.self.now in
    let new = c.collect.new.self in
    let disk = same_disk self.works new c.collect.ensures.pages in
    record {
      event = tt;
      collects = tt;
      fails = (nothing_served self.opening self.stopped self.works new self.stopped (left_rests self.works new c.in-Err.ensures.err), c.requires.running, c.requires.running, ap g.D.Disk.count disk);
      running = tt;
      reopen = tt;
      still = record { disk = disk; none = tt };
      bound = kept_still (view_in self.works) (view_in new) c.in-Err.ensures.err.keeps.view;
      memory = left_alone self.opening self.stopped self.works new c.in-Err.ensures.err;
      short = c.in-Err.ensures.short;
      room = let same = c.collect.ensures.room in omega (arith, same);
      unmade = refl;
      kept = record { past = same_past self.works new c.in-Err.ensures.err.nothing.past; recent = c.in-Err.ensures.err.nothing.journal };
    }
