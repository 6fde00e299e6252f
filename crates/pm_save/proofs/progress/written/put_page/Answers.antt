use Rattle.std.proofs.Common.{◌≡◌, ℕ, List, sym, ap, ◌∙◌, subst}
use Rattle.std.specs.List.{AllByRecursion}
use Rattle.pm_disk.specs.Disk.{LeavesOnly}
use Rattle.pm_disk.proofs.RunLemmas.{started}
use Rattle.pm_image.specs.declared.settled.KeptPage.{KeptPage}
use Rattle.pm_shadow.specs.declared.page_use.PageUse.TheVariants.{Free}
use Rattle.pm_shadow.specs.State.{State, with_claimed, with_page}
use Rattle.std.specs.Prelude.{option_map}
use Rattle.pm_disk.specs.Writes.{written}
use Rattle.pm_shadow.specs.Images.{Holds, place_of}
use Rattle.pm_shadow.specs.Pages.{state, disk_of, current_kept}
use Rattle.pm_saving.specs.Paging.{newly_kept}
use Rattle.pm_saving.specs.Tied.{IsOnPage, with_all_kept}
use Rattle.pm_save.specs.declared.progress.place.InProgress.{InProgress}
use Rattle.pm_save.specs.Progress.Seen.{progress_seen}
use Rattle.pm_save.specs.Progress.Putting.{IsReady}
use Rattle.pm_save.proofs.ProgressLemmas.Keeping.{IsBeside, beside, newly_on, put_leaves}
use Rattle.pm_law_saving.proofs.Staying.{still_on_pages}
use Rattle.pm_shadow.proofs.CopyLemmas.{claimed_keeps}
use Rattle.pm_save.proofs.progress.written.put_page.Goals as goal

mid_is : (settled : List KeptPage) (it : InProgress) (s claimed mid : State) (page : ℕ) → IsReady s settled → s.uses page ≡ Free → claimed ≡ with_claimed s page → mid ≡ with_all_kept (newly_kept (progress_seen settled it)) claimed
    → IsBeside (newly_kept (progress_seen settled it)) s mid page
mid_is settled it s claimed mid page ready free one two =
    beside (newly_kept (progress_seen settled it)) s mid page ready.known free (newly_on s settled it ready.on_pages) (two ∙ ap (with_all_kept (newly_kept (progress_seen settled it))) one)

pub returns-in_err-page-clause-leaves : goal.returns-in_err-page-clause-leaves
returns-in_err-page-clause-leaves g c bytes told =
    let it = c.args.pages.now in
    subst (λ (d : g.row.D.Denot). LeavesOnly g.D.Disk.moment g.D.Disk.since it.disk d (Holds (state it) bytes)) (sym c.claim.ensures.still)
    (started g.D.Disk.moment g.D.Disk.since it.disk (Holds (state it) bytes) (λ image left. (current_kept it c.requires.ready.sound bytes told).each image (g.met.D.Disk.only_now it.disk image left)))

pub keep_first-requires-clause-on_pages : goal.keep_first-requires-clause-on_pages
keep_first-requires-clause-on_pages g c =
    let s = state c.args.pages.now in
    let done = c.in_ok-page.ensures in
    subst (λ (t : State). AllByRecursion (IsOnPage t) c.args.settled.now) (sym done.state)
    (still_on_pages c.args.settled.now s (with_claimed s c.in_ok-page.page) (claimed_keeps s c.in_ok-page.page c.requires.ready.known done.lowest.free) c.requires.ready.on_pages)

pub write_page-requires : goal.write_page-requires
write_page-requires g c =
    let done = c.in_ok-page.ensures in
    let is = mid_is c.args.settled.now c.args.it.now (state c.args.pages.now) (state c.claim.new.self) (state c.keep_first.new.pages) c.in_ok-page.page c.requires.ready done.lowest.free done.state c.keep_first.ensures.state in
    record { claimed = is.claimed; len = c.requires.whole; sound = is.failed ∙ c.requires.ready.sound }

pub returns-in_err-write_page-clause-leaves : goal.returns-in_err-write_page-clause-leaves
returns-in_err-write_page-clause-leaves g c =
    let done = c.in_ok-page.ensures in
    let is = mid_is c.args.settled.now c.args.it.now (state c.args.pages.now) (state c.claim.new.self) (state c.keep_first.new.pages) c.in_ok-page.page c.requires.ready done.lowest.free done.state c.keep_first.ensures.state in
    put_leaves g.D.Disk.contents g.D.Disk.moment g.D.Disk.since (state c.args.pages.now) (state c.keep_first.new.pages) (disk_of c.args.pages.now) (disk_of c.keep_first.new.pages) (disk_of c.write_page.new.self)
    (c.keep_first.ensures.still ∙ c.claim.ensures.still) is.same is.closed c.write_page.ensures.leaves

pub returns-clause-leaves : goal.returns-clause-leaves
returns-clause-leaves g c =
    let done = c.in_ok-page.ensures in
    let is = mid_is c.args.settled.now c.args.it.now (state c.args.pages.now) (state c.claim.new.self) (state c.keep_first.new.pages) c.in_ok-page.page c.requires.ready done.lowest.free done.state c.keep_first.ensures.state in
    put_leaves g.D.Disk.contents g.D.Disk.moment g.D.Disk.since (state c.args.pages.now) (state c.keep_first.new.pages) (disk_of c.args.pages.now) (disk_of c.keep_first.new.pages) (disk_of c.write_page.new.self)
    (c.keep_first.ensures.still ∙ c.claim.ensures.still) is.same is.closed c.write_page.ensures.leaves

pub returns-clause-written : goal.returns-clause-written
returns-clause-written g c =
    let done = c.in_ok-page.ensures in
    let is = mid_is c.args.settled.now c.args.it.now (state c.args.pages.now) (state c.claim.new.self) (state c.keep_first.new.pages) c.in_ok-page.page c.requires.ready done.lowest.free done.state c.keep_first.ensures.state in
    record {
      lowest = done.lowest;
      state = c.in_ok-write_page.ensures.state ∙ ap (λ (s : State). with_page s c.in_ok-page.page) is.state;
      contents = c.in_ok-write_page.ensures.written ∙ ap (λ (d : g.row.D.Denot). option_map (written (place_of c.in_ok-page.page) c.args.bytes.now) (g.D.Disk.contents d)) (c.keep_first.ensures.still ∙ c.claim.ensures.still);
    }
