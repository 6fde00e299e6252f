use Rattle.std.proofs.Common.{List, ◌≡◌, ◌∙◌, ap, arith, length, sym, subst}
use Rattle.pm_script.specs.declared.line.Line.{Line}
use Rattle.pm_script.specs.Parted.Asked.{requests_asked}
use Rattle.pm_script.specs.Parted.Left.{lists_in}
use Rattle.pm_engine.specs.Shown.{disk_in, past_of, recent, serving}
use Rattle.pm_engine.specs.Events.Running.{IsFresh}
use Rattle.pm_engine.proofs.EventsLemmas.Going.{goes_still}
use Rattle.pm_engine.proofs.WorksLemmas.Whole.{front_none}
use Rattle.pm_lock.proofs.Keeping.{script_begun}
use Rattle.pm_lock.proofs.Engines.{book_begun}
use Rattle.pm_lock.proofs.book.Book.new.Goals as goal

pub invariant_of-result : goal.invariant_of-result
invariant_of-result g c =
    let engine = c.args.engine in
    let lines = c.args.script in
    let now = c.reserve_entries.new.self in
    let reserved = c.reserve_entries.ensures in
    let law = c.keep_their_images.ensures in
    let split = c.in-Ok.ensures in
    let lists = lists_in c.in-Ok.parts in
    let fresh : IsFresh (serving now) = subst IsFresh (sym reserved.serving) c.requires.fresh in
    let asked : c.commands_asked.result ≡ length (requests_asked lines) = c.commands_asked.ensures.all ∙ ap (λ (l : List Line). length (requests_asked l)) c.as_slice.ensures.lines in
    let all = split.all in
    let few = split.few in
    let within = c.in_default.ensures.room in
    record {
      kept =
          book_begun engine now c.of-first.result.value lines c.of-lines.result.value lists c.collects_asked-collects.result c.flushes_asked-flushes.result c.of-first.ensures c.of-lines.ensures
          (script_begun lines (serving now) lists c.collects_asked-collects.result c.flushes_asked-flushes.result fresh c.as_slice.ensures.few split.each all (omega (arith, all, few)) c.collects_asked-collects.ensures.all c.collects_asked-collects.ensures.few
          c.flushes_asked-flushes.ensures.all c.flushes_asked-flushes.ensures.few)
          (goes_still engine now reserved.start reserved.entries.past reserved.grows reserved.serving reserved.disk c.requires.fresh.stopped law.legal (law.settled c.requires.fresh.stopped) (g.met.D.Disk.only_now (disk_in engine)))
          (reserved.entries.past ∙ front_none (past_of engine) (recent engine) c.requires.fresh.journal) reserved.unmade
          (omega (arith, asked, all, within));
    }
