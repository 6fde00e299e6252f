-- What a flush leaves.
use Rattle.std.proofs.Common.{◌≡◌, ℕ, ◌≤◌, List, Option, Some, None, refl, sym, ap, subst}
use Rattle.pm_types.specs.declared.entry.Entry.{Entry}
use Rattle.pm_types.specs.declared.event.Flushed.{Flushed}
use Rattle.pm_types.specs.declared.event.Flushed.TheVariants.{Wrote, AllFlushed}
use Rattle.pm_disk.specs.declared.disk.Disk.{Ghosts}
use Rattle.pm_model.specs.Journal.{after, chain, settled_in}
use Rattle.pm_shadow.specs.State.{State}
use Rattle.pm_space.specs.declared.space.Space.{Space}
use Rattle.pm_space.specs.Shown.{view}
use Rattle.pm_view.specs.View.{Cars}
use Rattle.pm_saving.specs.Progress.{Progress, Saving, cars_or_none}
use Rattle.pm_saving.specs.Tied.{IsTied}
use Rattle.pm_law_saving.proofs.Next.{next_goes}
use Rattle.pm_law_saving.proofs.ServingLemmas.Kept as kept
use Rattle.pm_save.specs.Progress.Answers.{IsFlushed, Spares, TellsOn}
use Rattle.pm_save.specs.Shown.{frozen_of}
use Rattle.pm_saving.specs.Serving.{opening}
use Rattle.pm_saving.specs.Events.{Flushes, StaysBegun}
use Rattle.pm_engine.specs.declared.works.start.Start.{Start}
use Rattle.pm_engine.specs.declared.works.works.Works.{Works}
use Rattle.pm_engine.specs.Works.Working.{FlushesOn, IsTiedIn, LastsIn, contents_in, disk_at, frozen_in, saving_in, state_in, view_in}
use Rattle.pm_engine.specs.Works.Seen.{IsCrashSafe, seen}
use Rattle.pm_engine.proofs.WorksLemmas.Going.{lasts}
use Rattle.pm_engine.proofs.WorksLemmas.Kept.{begun_from}
use Rattle.pm_engine.proofs.WorksLemmas.Whole.{same_journal}

-- and so do the settled cars, and the copy in progress but for its pages
pub flushed_stays : (old new : Saving) (frozen : Option Cars) (s t : State) (was now : Option (List ℕ)) (flushed : Flushed) → IsTied old frozen s was → IsFlushed old new (cars_or_none frozen) s t was now flushed
    → (new.settled ≡ old.settled) × StaysBegun old.progress new.progress
flushed_stays old new frozen s t was now AllFlushed tied is = (ap (λ (it : Saving). it.settled) is.1.saving, kept.stays_same old.progress new.progress (ap (λ (it : Saving). it.progress) is.1.saving))
flushed_stays old new frozen s t was now (Wrote page) tied is =
    let begun = begun_from old.settled old.progress is.progress frozen s.header.epoch tied.begun is.is_progress in
    let goes = (next_goes old.settled (cars_or_none frozen) is.progress is.next page begun is.is_next).0 in (
      ap (λ (it : Saving). it.settled) is.saving,
      subst (λ (o : Option Progress). StaysBegun o new.progress) (sym is.is_progress) (subst (StaysBegun (Some is.progress)) (sym (ap (λ (it : Saving). it.progress) is.saving)) goes),
    )

module _ {D : Type 0} {F : Type 0} {g : Ghosts D} (start : Start D F g) (stopped : Option ℕ) (old new : Works D F g) (flushed : Flushed) (tied : IsTiedIn old) (is : FlushesOn old new flushed) where
  same_view : view_in new ≡ view_in old
  same_view = ap (λ (space : Space F). view space.parts) is.space

  same_frozen : frozen_in new ≡ frozen_in old
  same_frozen = ap (λ (space : Space F). frozen_of space.parts) is.space

  stays : ((saving_in new).settled ≡ (saving_in old).settled) × StaysBegun (saving_in old).progress (saving_in new).progress
  stays = flushed_stays (saving_in old) (saving_in new) (frozen_in old) (state_in old) (state_in new) (contents_in old) (contents_in new) flushed tied is.flushed

  -- journal, space and copies stay, but for the page
  pub flush_told : Flushes (seen start stopped old) (seen start stopped new)
  flush_told = record {
    opening = record { number = refl; opened = refl };
    view = same_view;
    frozen = same_frozen;
    settled = stays.0;
    journal = same_journal old new is.past is.journal;
    course = is.course;
    watches = is.watches;
    events = is.events;
    steps = is.steps;
    stopped = refl;
  }

module _ {D : Type 0} {F : Type 0} {g : Ghosts D} (start : Start D F g) (old new : Works D F g) (sound : IsCrashSafe start None old)
    (counts : (t : ℕ) (bytes : List ℕ) → t ≤ g.moment (disk_at new) → g.image (disk_at new) bytes → g.since (disk_at new) t bytes) (flushed : Flushed) (is : FlushesOn old new flushed) where
  pub flush_sound : IsTiedIn new → LastsIn old new → TellsOn (contents_in old) (contents_in new) → Spares g.contents g.moment g.since (state_in old) (disk_at old) (disk_at new) → IsCrashSafe start None new
  flush_sound =
      let w = opening (seen start None old) in
      let tied = (sound.stored refl).tied in
      lasts start old new sound counts (kept.flushed (seen start None old) (seen start None new) sound.journal (flush_told start None old new flushed tied is) (stays start None old new flushed tied is).1)
      (ap (λ (entries : List Entry). settled_in (after w entries)) (same_journal old new is.past is.journal))
      (ap (chain w) (same_journal old new is.past is.journal))
