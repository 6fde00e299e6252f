-- What holds between calls, where only the journal changes.
use Rattle.std.proofs.Common.{◌≡◌, ⊎_elim, inl, inr, ℕ, ◌≤◌, false, List, Option, Some, None, refl, sym, ap, subst, ◌∙◌, arith}
use Rattle.pm_disk.specs.declared.disk.Disk.{Ghosts}
use Rattle.pm_disk.specs.Made.{Made, MadeAtMost}
use Rattle.pm_image.specs.declared.settled.KeptPage.{KeptPage}
use Rattle.pm_shadow.specs.declared.pages.Pages.{Pages}
use Rattle.pm_disk.specs.Disk.{LeavesOnly}
use Rattle.pm_image.specs.Stands.{StandsForCopy}
use Rattle.pm_shadow.specs.State.{State}
use Rattle.pm_shadow.specs.Pages.{state, disk_of, current_kept}
use Rattle.pm_law_saving.proofs.Publishing.{copy_held}
use Rattle.pm_space.specs.declared.space.Space.{Space}
use Rattle.pm_view.specs.View.{Cars}
use Rattle.pm_saving.specs.Progress.{Progress, Saving, cars_or_none}
use Rattle.pm_saving.specs.Tied.{HasCopy, IsBegun, IsTied}
use Rattle.pm_save.specs.Progress.Answers.{KeepsCopy, Spares, TellsOn}
use Rattle.pm_save.specs.Writer.Settling.{SparesEither, StaysOn}
use Rattle.pm_saving.specs.Beginning.{IsInProgress}
use Rattle.pm_saving.specs.Events.{StaysBegun}
use Rattle.pm_save.specs.declared.saver.Saver.{Saver}
use Rattle.pm_save.specs.Shown.{frozen_of, saving}
use Rattle.pm_engine.specs.declared.works.works.Works.{Works}
use Rattle.pm_engine.specs.Works.Working.{IsTiedIn, KeepsStore, LastsIn, LastsSo, Rests, course_in, disk_at, frozen_in, room_in, saving_in, state_in, view_in, watches_in}

module _ {D : Type 0} {F : Type 0} {g : Ghosts D} where
  pub tied_kept : (old new : Works D F g) → KeepsStore old new → IsTiedIn old → IsTiedIn new
  tied_kept old new keeps tied =
      let P : Space F × Saver × Pages D g → Type 0 = λ it. IsTied (saving it.1) (frozen_of it.0.parts) (state it.2) (g.contents (disk_of it.2)) in
      let same : (old.space, old.saver, old.pages) ≡ (new.space, new.saver, new.pages) = (λ i. (sym keeps.space i, sym keeps.saver i, sym keeps.pages i)) in
      subst P same tied

-- no call was made
pub none_made : (writes syncs : ℕ) (made : Made) → MadeAtMost writes syncs made made
none_made writes syncs made = record { writes = omega arith; syncs = omega arith; past = refl }

module _ {D : Type 0} (g : Ghosts D) (writes syncs : ℕ) (old new : D) (same : new ≡ old) where
  pub still_made : MadeAtMost writes syncs (g.made old) (g.made new)
  still_made = subst (λ (d : D). MadeAtMost writes syncs (g.made old) (g.made d)) (sym same) (none_made writes syncs (g.made old))

  pub still_told : TellsOn (g.contents old) (g.contents new)
  still_told bytes told = (bytes, ap g.contents same ∙ told)

-- cars are frozen only for a copy in progress
pub unfrozen : (settled : List KeptPage) (progress : Option Progress) (frozen : Option Cars) (epoch : ℕ) → IsBegun settled progress frozen epoch → progress ≡ None → frozen ≡ None
unfrozen settled None None epoch begun none = refl
unfrozen settled None (Some cars) epoch begun none = absurd begun
unfrozen settled (Some progress) frozen epoch begun none = absurd (cc none)

-- a copy that stands in what a disk tells
same_told : (bytes after : List ℕ) (contents : Option (List ℕ)) → contents ≡ Some bytes → contents ≡ Some after → bytes ≡ after
same_told bytes after contents told also = cc (told, also)

same_has : (s : State) (contents : Option (List ℕ)) → KeepsCopy s s contents contents
same_has s contents copy bytes told has after also = subst (λ (b : List ℕ). HasCopy s b copy) (same_told bytes after contents told also) has

module _ {D : Type 0} {F : Type 0} {g : Ghosts D} where
  -- the pages stay, and so does what the saver shows
  pub pages_last : (old new : Works D F g) → new.pages ≡ old.pages → LastsIn old new
  pages_last old new same = record {
    header = ap (λ (p : Pages D g). (state p).header) same;
    has = subst (λ (p : Pages D g). KeepsCopy (state old.pages) (state p) (g.contents (disk_of old.pages)) (g.contents (disk_of p))) (sym same) (same_has (state old.pages) (g.contents (disk_of old.pages)));
  }

  -- where no call of the disk was made, each image stands for the current copy
  pub spares_still : (old new : Works D F g) → ((bytes : List ℕ) → g.since (disk_at old) (g.moment (disk_at old)) bytes → g.image (disk_at old) bytes) → disk_at new ≡ disk_at old → (state_in old).failed ≡ false
      → Spares g.contents g.moment g.since (state_in old) (disk_at old) (disk_at new)
  spares_still old new only_now still fine copy bytes told has =
      let P : List ℕ → Type 0 = λ image. StandsForCopy image (state_in old).header.epoch copy in
      subst (λ (d : D). LeavesOnly g.moment g.since (disk_at old) d P) (sym still) (record {
        later = omega arith;
        each = λ image during. copy_held (state_in old) bytes image copy has ((current_kept old.pages fine bytes told).each image (only_now image during));
        before = λ t image le was. inl was;
      })

  pub lasts_so : (old new : Works D F g) → ((bytes : List ℕ) → g.since (disk_at old) (g.moment (disk_at old)) bytes → g.image (disk_at old) bytes) → IsTiedIn old → IsTiedIn new → disk_at new ≡ disk_at old → LastsIn old new → LastsSo old new
  lasts_so old new only_now tied also still lasts = record { tied = also; lasts = lasts; spares = spares_still old new only_now still tied.sound }

  -- a fault of a settle leaves the copy in progress
  pub rests_on : (old new : Works D F g) → new.past ≡ old.past → new.journal.items ≡ old.journal.items → course_in new ≡ course_in old → watches_in new ≡ watches_in old → new.events ≡ old.events → new.steps ≡ old.steps → room_in old ≤ room_in new → view_in new ≡ view_in old → frozen_in new ≡ frozen_in old → StaysOn (saving_in old) (saving_in new) → Rests old new
  rests_on old new past journal course watches events steps room view frozen stays = record {
    nothing = record { past = past; journal = journal; course = course; watches = watches; events = events; steps = steps; room = room };
    view = view;
    frozen = frozen;
    settled = ap (λ (it : Saving). it.settled) stays.saving;
    progress = subst (λ (o : Option Progress). StaysBegun o (saving_in new).progress) (sym stays.is_progress) (subst (StaysBegun (Some stays.progress)) (sym (ap (λ (it : Saving). it.progress) stays.saving)) stays.goes_on);
  }

-- where the current copy stood at each moment, it or the one in progress did
pub either_of : {D : Type 0} (contents : D → Option (List ℕ)) (moment : D → ℕ) (since : D → ℕ → List ℕ → Type 0) (progress : Option Progress) (cars : Cars) (s : State) (old new : D) → Spares contents moment since s old new
    → SparesEither contents moment since progress cars s old new
either_of contents moment since None cars s old new spares = tt
either_of contents moment since (Some progress) cars s old new spares = λ copy bytes told has.
    let so = spares copy bytes told has in
    record { later = so.later; each = λ image during. inl (so.each image during); before = λ t image le during. ⊎_elim (λ was. inl was) (λ now. inr (inl now)) (so.before t image le during) }

-- a copy in progress was begun from frozen cars
pub begun_from : (settled : List KeptPage) (p : Option Progress) (progress : Progress) (frozen : Option Cars) (epoch : ℕ) → IsBegun settled p frozen epoch → p ≡ Some progress → IsInProgress settled (cars_or_none frozen) progress
begun_from settled None progress frozen epoch begun is = absurd (cc is)
begun_from settled (Some one) progress None epoch begun is = absurd begun
begun_from settled (Some one) progress (Some cars) epoch begun is =
    let same : one ≡ progress = cc is in
    subst (IsInProgress settled cars) same begun.0
