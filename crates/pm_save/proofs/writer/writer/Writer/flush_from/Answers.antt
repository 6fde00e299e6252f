use Rattle.std.proofs.Common.{◌≡◌, List, Some, sym, ap, subst}
use Rattle.std.specs.Prelude.{IfOk, IfSome, IsSome, OnErr, option_map}
use Rattle.pm_image.specs.declared.settled.KeptPage.{KeptPage}
use Rattle.pm_shadow.specs.Pages.{state, disk_of, current_kept}
use Rattle.pm_saving.specs.Paging.{next_page}
use Rattle.pm_saving.specs.Tied.{HasPage}
use Rattle.pm_save.specs.Progress.Seen.{progress_seen}
use Rattle.pm_save.specs.Writer.Shown.{writing}
use Rattle.pm_save.specs.Progress.Answers.{OnMemory}
use Rattle.pm_save.specs.Writer.Steps.{IsStep}
use Rattle.pm_save.proofs.ProgressLemmas.Keeping.{newly_on}
use Rattle.pm_save.proofs.WriterLemmas.FlushLemmas.{memory_told, begun_from, may_be, holds_now, spares_by, spares_still, fault_by, flushed_by, tied_by, has_by, err_kept}
use Rattle.pm_save.proofs.writer.writer.Writer.flush_from.Goals as goal

pub returns-in_default-clause-leaves : goal.returns-in_default-clause-leaves
returns-in_default-clause-leaves g c =
    let it = c.args.pages.now in
    spares_by g.D.Disk.contents g.D.Disk.image g.D.Disk.moment g.D.Disk.since (state it) it.disk it.disk
    (spares_still g.D.Disk.contents g.D.Disk.image g.D.Disk.moment g.D.Disk.since (state it) it.disk (current_kept it c.requires.tied.sound) (g.met.D.Disk.only_now it.disk))
    c.a_published_copy_is_the_settled_one.ensures.held

pub flush-requires-clause-may : goal.flush-requires-clause-may
flush-requires-clause-may g c =
    let self = c.args.self.now in
    let settled = self.settled.items in
    let progress = progress_seen settled c.in-Some.it in
    let is : (writing self).progress ≡ Some progress = ap (option_map (progress_seen settled)) c.in-Some.is in
    let begun = begun_from settled (writing self).progress progress (Some (g.C.Frozen.cars c.args.frozen.now)) (state c.args.pages.now).header.epoch c.requires.tied.begun is in
    let cars = g.C.Frozen.cars c.args.frozen.now in
    subst (λ (settled : List KeptPage). IfSome (next_page cars (progress_seen settled c.in-Some.it)) HasPage) (sym c.deref.ensures.value)
    (may_be (next_page cars progress) (λ page next. c.pages_of_a_copy_are_written_in_order.ensures.may settled cars progress page begun.1 next))

pub returns-clause-flushed : goal.returns-clause-flushed
returns-clause-flushed g c =
    let self = c.args.self.now in
    let settled = self.settled.items in
    let progress = progress_seen settled c.in-Some.it in
    let is : (writing self).progress ≡ Some progress = ap (option_map (progress_seen settled)) c.in-Some.is in
    let s = state c.args.pages.now in
    let t = state c.flush.new.pages in
    let was = g.D.Disk.contents (disk_of c.args.pages.now) in
    let now = g.D.Disk.contents (disk_of c.flush.new.pages) in
    let cars = g.C.Frozen.cars c.args.frozen.now in
    let step : IfOk c.flush.result (IsStep cars progress (progress_seen settled c.flush.new.it) s t was now) =
    subst (λ (settled : List KeptPage). IfOk c.flush.result (IsStep cars (progress_seen settled c.in-Some.it) (progress_seen settled c.flush.new.it) s t was now)) c.deref.ensures.value c.flush.ensures.step in
    let law = c.pages_of_a_copy_are_written_in_order.ensures in
    flushed_by (writing self) progress (progress_seen settled c.flush.new.it) (Some (g.C.Frozen.cars c.args.frozen.now)) s t was now (newly_on s settled c.in-Some.it c.requires.tied.on_pages) c.requires.tied is law.none law.left c.flush.result step

pub returns-clause-tied : goal.returns-clause-tied
returns-clause-tied g c =
    let self = c.args.self.now in
    let settled = self.settled.items in
    let progress = progress_seen settled c.in-Some.it in
    let after = progress_seen settled c.flush.new.it in
    let is : (writing self).progress ≡ Some progress = ap (option_map (progress_seen settled)) c.in-Some.is in
    let s = state c.args.pages.now in
    let t = state c.flush.new.pages in
    let old = disk_of c.args.pages.now in
    let new = disk_of c.flush.new.pages in
    let was = g.D.Disk.contents old in
    let now = g.D.Disk.contents new in
    let cars = g.C.Frozen.cars c.args.frozen.now in
    let step : IfOk c.flush.result (IsStep cars progress after s t was now) =
    subst (λ (settled : List KeptPage). IfOk c.flush.result (IsStep cars (progress_seen settled c.in-Some.it) (progress_seen settled c.flush.new.it) s t was now)) c.deref.ensures.value c.flush.ensures.step in
    let same : OnErr c.flush.result (after ≡ progress) =
    subst (λ (settled : List KeptPage). OnErr c.flush.result (progress_seen settled c.flush.new.it ≡ progress_seen settled c.in-Some.it)) c.deref.ensures.value c.flush.ensures.err in
    let memory : OnMemory c.flush.result ((t ≡ s) × (now ≡ was)) = memory_told (t ≡ s) g.D.Disk.contents c.flush.result old new c.flush.ensures.memory in
    let law = c.pages_of_a_copy_are_written_in_order.ensures in
    tied_by (writing self) progress after (Some (g.C.Frozen.cars c.args.frozen.now)) s t was now (newly_on s settled c.in-Some.it c.requires.tied.on_pages) c.requires.tied is law.none law.left
    (holds_now g.D.Disk.contents g.D.Disk.image g.D.Disk.moment g.D.Disk.since s old new c.flush.ensures.leaves (g.met.D.Disk.contents_stay new) (g.met.D.Disk.counts_now new))
    (λ fine bytes told. (current_kept c.flush.new.pages fine bytes told).counted)
    c.the_next_page_is_written_beside_the_current_copy.ensures c.flush.result step same memory

pub returns-clause-has : goal.returns-clause-has
returns-clause-has g c =
    let self = c.args.self.now in
    let settled = self.settled.items in
    let progress = progress_seen settled c.in-Some.it in
    let after = progress_seen settled c.flush.new.it in
    let is : (writing self).progress ≡ Some progress = ap (option_map (progress_seen settled)) c.in-Some.is in
    let s = state c.args.pages.now in
    let t = state c.flush.new.pages in
    let old = disk_of c.args.pages.now in
    let new = disk_of c.flush.new.pages in
    let was = g.D.Disk.contents old in
    let now = g.D.Disk.contents new in
    let cars = g.C.Frozen.cars c.args.frozen.now in
    let step : IfOk c.flush.result (IsStep cars progress after s t was now) =
    subst (λ (settled : List KeptPage). IfOk c.flush.result (IsStep cars (progress_seen settled c.in-Some.it) (progress_seen settled c.flush.new.it) s t was now)) c.deref.ensures.value c.flush.ensures.step in
    let memory : OnMemory c.flush.result ((t ≡ s) × (now ≡ was)) = memory_told (t ≡ s) g.D.Disk.contents c.flush.result old new c.flush.ensures.memory in
    let law = c.pages_of_a_copy_are_written_in_order.ensures in
    has_by (writing self) progress after (Some (g.C.Frozen.cars c.args.frozen.now)) s t was now (newly_on s settled c.in-Some.it c.requires.tied.on_pages) c.requires.tied is law.none law.left
    (holds_now g.D.Disk.contents g.D.Disk.image g.D.Disk.moment g.D.Disk.since s old new c.flush.ensures.leaves (g.met.D.Disk.contents_stay new) (g.met.D.Disk.counts_now new))
    c.a_published_copy_is_the_settled_one.ensures.still c.flush.result step memory

pub returns-clause-leaves : goal.returns-clause-leaves
returns-clause-leaves g c =
    spares_by g.D.Disk.contents g.D.Disk.image g.D.Disk.moment g.D.Disk.since (state c.args.pages.now) (disk_of c.args.pages.now) (disk_of c.flush.new.pages) c.flush.ensures.leaves c.a_published_copy_is_the_settled_one.ensures.held

pub returns-clause-fault : goal.returns-clause-fault
returns-clause-fault g c =
    let self = c.args.self.now in
    let settled = self.settled.items in
    let progress = progress_seen settled c.in-Some.it in
    let is : (writing self).progress ≡ Some progress = ap (option_map (progress_seen settled)) c.in-Some.is in
    let s = state c.args.pages.now in
    let cars = g.C.Frozen.cars c.args.frozen.now in
    let some : OnErr c.flush.result (IsSome (next_page cars progress)) = subst (λ (settled : List KeptPage). OnErr c.flush.result (IsSome (next_page cars (progress_seen settled c.in-Some.it)))) c.deref.ensures.value c.flush.ensures.fault in
    let law = c.pages_of_a_copy_are_written_in_order.ensures in
    fault_by (writing self) progress (progress_seen settled c.flush.new.it) (Some (g.C.Frozen.cars c.args.frozen.now)) s (state c.flush.new.pages) (g.D.Disk.contents (disk_of c.args.pages.now)) (g.D.Disk.contents (disk_of c.flush.new.pages))
    (newly_on s settled c.in-Some.it c.requires.tied.on_pages) c.requires.tied is law.none law.left c.flush.result some

pub returns-clause-err : goal.returns-clause-err
returns-clause-err g c =
    let self = c.args.self.now in
    let settled = self.settled.items in
    let progress = progress_seen settled c.in-Some.it in
    let is : (writing self).progress ≡ Some progress = ap (option_map (progress_seen settled)) c.in-Some.is in
    let kept : OnErr c.flush.result (progress_seen settled c.flush.new.it ≡ progress) =
    subst (λ (settled : List KeptPage). OnErr c.flush.result (progress_seen settled c.flush.new.it ≡ progress_seen settled c.in-Some.it)) c.deref.ensures.value c.flush.ensures.err in
    err_kept (writing self) progress (progress_seen settled c.flush.new.it) c.flush.result is kept
