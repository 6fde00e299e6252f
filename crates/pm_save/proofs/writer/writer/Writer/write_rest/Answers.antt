use Rattle.std.proofs.Common.{rules, arith, Some, ◌≡◌, ◌+◌, refl, ap, sym, ◌∙◌, ◌<◌, subst}
use Rattle.std.proofs.lemmas.Result.{err_from_is_err_and}
use Rattle.pm_shadow.specs.Pages.{state, disk_of, current_kept}
use Rattle.pm_types.specs.declared.event.Flushed.{Flushed}
use Rattle.pm_saving.specs.Progress.{Saving}
use Rattle.pm_saving.specs.Paging.{left_of}
use Rattle.pm_disk.specs.Made.{Made}
use Rattle.pm_save.specs.Progress.Answers.{IsFlushed, IsMadeBy}
use Rattle.pm_save.specs.Writer.Shown.{writing}
use Rattle.pm_save.proofs.WriterLemmas.FlushLemmas.{spares_by, spares_still}
use Rattle.pm_save.proofs.WriterLemmas.RunLemmas.{begin_runs, fault_runs, left_some, more_runs, runs_on, spares_then, tells_then}
use Rattle.pm_law_saving.proofs.Publishing.{copy_held}
use Rattle.pm_save.proofs.writer.writer.Writer.write_rest.Goals as goal

pub loop-page-init : goal.loop-page-init
loop-page-init g c =
    let it = c.args.pages.now in
    record {
      run = begin_runs (Some (g.C.Frozen.cars c.args.frozen.now)) (g.C.Frozen.cars c.args.frozen.now) (writing c.args.self.now) (state it) (g.D.Disk.contents (disk_of it)) c.requires.begun c.requires.tied;
      spares = spares_by g.D.Disk.contents g.D.Disk.image g.D.Disk.moment g.D.Disk.since (state it) it.disk it.disk
          (spares_still g.D.Disk.contents g.D.Disk.image g.D.Disk.moment g.D.Disk.since (state it) it.disk (current_kept it c.requires.tied.sound) (g.met.D.Disk.only_now it.disk)) copy_held;
      told = λ bytes told. (bytes, told);
      count = refl;
      writes = refl;
      syncs = refl;
      past = refl;
    }

pub flush_from-requires : goal.flush_from-requires
flush_from-requires g c = record { tied = c.loop-page.invariant.run.run.tied }

pub returns-in_err-_page-clause-run : goal.returns-in_err-_page-clause-run
returns-in_err-_page-clause-run g c =
    let p = err_from_is_err_and c.from_residual.result c.from_residual.ensures.1 in
    let frozen = Some (g.C.Frozen.cars c.args.frozen.now) in
    let cars = g.C.Frozen.cars c.args.frozen.now in
    rw (p.1, p.2) (fault_runs frozen cars (writing c.args.self.now) (writing c.loop-page.self) (writing c.flush_from.new.self) (state c.args.pages.now) (state c.loop-page.pages) (state c.flush_from.new.pages)
    (g.D.Disk.contents (disk_of c.args.pages.now)) (g.D.Disk.contents (disk_of c.loop-page.pages)) (g.D.Disk.contents (disk_of c.flush_from.new.pages)) c.in_err-_page.field-0.0 c.loop-page.invariant.run refl c.in_err-_page.ensures.memory)

pub returns-in_err-_page-clause-fault : goal.returns-in_err-_page-clause-fault
returns-in_err-_page-clause-fault g c =
    let p = err_from_is_err_and c.from_residual.result c.from_residual.ensures.1 in
    rw p.1 (left_some (Some (g.C.Frozen.cars c.args.frozen.now)) (g.C.Frozen.cars c.args.frozen.now) (writing c.args.self.now) (writing c.loop-page.self) (state c.args.pages.now) (state c.loop-page.pages)
    (g.D.Disk.contents (disk_of c.args.pages.now)) (g.D.Disk.contents (disk_of c.loop-page.pages)) c.loop-page.invariant.run c.in_err-_page.ensures.fault)

pub returns-in_err-_page-clause-left : goal.returns-in_err-_page-clause-left
returns-in_err-_page-clause-left g c =
    let p = err_from_is_err_and c.from_residual.result c.from_residual.ensures.1 in
    rw p.1 (subst (λ (it : Saving). 0 < left_of it.progress) (sym c.in_err-_page.ensures.err) c.in_err-_page.ensures.fault)

pub returns-in_err-_page-clause-spares : goal.returns-in_err-_page-clause-spares
returns-in_err-_page-clause-spares g c =
    let is = c.loop-page.invariant in
    spares_then g.D.Disk.contents g.D.Disk.moment g.D.Disk.since (state c.args.pages.now) (state c.loop-page.pages) (disk_of c.args.pages.now) (disk_of c.loop-page.pages) (disk_of c.flush_from.new.pages)
    is.run.run.header is.told is.run.run.has is.spares c.flush_from.ensures.leaves

pub returns-in_err-_page-clause-told : goal.returns-in_err-_page-clause-told
returns-in_err-_page-clause-told g c =
    tells_then (g.D.Disk.contents (disk_of c.args.pages.now)) (g.D.Disk.contents (disk_of c.loop-page.pages)) (g.D.Disk.contents (disk_of c.flush_from.new.pages)) c.loop-page.invariant.told c.flush_from.ensures.told

pub returns-in_err-_page-clause-made : goal.returns-in_err-_page-clause-made
returns-in_err-_page-clause-made g c =
    let p = err_from_is_err_and c.from_residual.result c.from_residual.ensures.1 in
    let is = c.loop-page.invariant in
    let most = c.flush_from.ensures.made.most in
    rw p.1 (record {
      done = tt;
      most = record {
        writes = let so_far = is.writes in let more = most.writes in let some = c.in_err-_page.ensures.fault in omega (arith, so_far, more, some);
        syncs = let so_far = is.syncs in let more = most.syncs in omega (arith, so_far, more);
        past = most.past ∙ is.past;
      };
    })

pub loop-page-smaller : goal.loop-page-smaller
loop-page-smaller g c = search rules

pub loop-page-preserved : goal.loop-page-preserved
loop-page-preserved g c =
    let is = c.loop-page.invariant in
    let old = disk_of c.args.pages.now in
    let mid = disk_of c.loop-page.pages in
    let new = disk_of c.flush_from.new.pages in
    let wrote = subst (λ (flushed : Flushed). IsFlushed (writing c.loop-page.self) (writing c.flush_from.new.self) (g.C.Frozen.cars c.args.frozen.now) (state c.loop-page.pages) (state c.flush_from.new.pages) (g.D.Disk.contents mid) (g.D.Disk.contents new) flushed)
    c.in-Wrote.is c.in_ok-_page.ensures.flushed in
    let by = subst (λ (flushed : Flushed). IsMadeBy (g.D.Disk.made mid) (g.D.Disk.made new) flushed) c.in-Wrote.is c.in_ok-_page.ensures.made.by in
    let by_writes : (g.D.Disk.made new).writes ≡ (g.D.Disk.made mid).writes + 1 = ap (λ (it : Made). it.writes) by in
    record {
      run = more_runs (Some (g.C.Frozen.cars c.args.frozen.now)) (g.C.Frozen.cars c.args.frozen.now) (writing c.args.self.now) (writing c.loop-page.self) (writing c.flush_from.new.self) (state c.args.pages.now) (state c.loop-page.pages) (state c.flush_from.new.pages)
          (g.D.Disk.contents old) (g.D.Disk.contents mid) (g.D.Disk.contents new) is.run refl c.in-Wrote._page wrote c.in_ok-_page.ensures.tied c.in_ok-_page.ensures.has;
      spares = spares_then g.D.Disk.contents g.D.Disk.moment g.D.Disk.since (state c.args.pages.now) (state c.loop-page.pages) old mid new is.run.run.header is.told is.run.run.has is.spares c.flush_from.ensures.leaves;
      told = tells_then (g.D.Disk.contents old) (g.D.Disk.contents mid) (g.D.Disk.contents new) is.told c.flush_from.ensures.told;
      count = search rules;
      writes = let so_far = is.writes in let more = wrote.left in let same = by_writes in omega (arith, so_far, more, same);
      syncs = ap (λ (it : Made). it.syncs) by ∙ is.syncs;
      past = ap (λ (it : Made). it.past) by ∙ is.past;
    }

pub returns-clause-spares : goal.returns-clause-spares
returns-clause-spares g c =
    let is = c.loop-page.invariant in
    spares_then g.D.Disk.contents g.D.Disk.moment g.D.Disk.since (state c.args.pages.now) (state c.loop-page.pages) (disk_of c.args.pages.now) (disk_of c.loop-page.pages) (disk_of c.flush_from.new.pages)
    is.run.run.header is.told is.run.run.has is.spares c.flush_from.ensures.leaves

pub returns-in_err-_page-clause-goes : goal.returns-in_err-_page-clause-goes
returns-in_err-_page-clause-goes g c =
    let p = err_from_is_err_and c.from_residual.result c.from_residual.ensures.1 in
    rw p.1 (runs_on (Some (g.C.Frozen.cars c.args.frozen.now)) (g.C.Frozen.cars c.args.frozen.now) (writing c.args.self.now) (writing c.loop-page.self) (writing c.flush_from.new.self) (state c.args.pages.now) (state c.loop-page.pages)
    (g.D.Disk.contents (disk_of c.args.pages.now)) (g.D.Disk.contents (disk_of c.loop-page.pages)) c.loop-page.invariant.run c.in_err-_page.ensures.err)
