-- What an event of the collector leaves.
use Rattle.std.proofs.Common.{◌≡◌, ℕ, ◌≤◌, List, Option, None, Result, Ok, Err, OnOk, OnErr, refl, sym, ap, subst, ◌∙◌}
use Rattle.std.proofs.Math.Logic.{∥∥₁_map}
use Rattle.pm_types.specs.declared.entry.Entry.{Entry}
use Rattle.pm_disk.specs.declared.disk.Disk.{Ghosts}
use Rattle.pm_model.specs.Journal.{after, chain, settled_in}
use Rattle.pm_shadow.specs.Pages.{disk_of}
use Rattle.pm_saving.specs.Progress.{Saving}
use Rattle.pm_save.specs.Shown.{saving}
use Rattle.pm_save.specs.Progress.Answers.{TellsOn}
use Rattle.pm_saving.specs.Serving.{opening}
use Rattle.pm_saving.specs.Events.{Collects}
use Rattle.pm_law_saving.proofs.ServingLemmas.Kept as kept
use Rattle.pm_engine.specs.declared.works.start.Start.{Start}
use Rattle.pm_engine.specs.declared.works.works.Works.{Works}
use Rattle.pm_engine.specs.Works.Working.{CollectsOn, IsLeft, IsTiedIn, Rests, contents_in, disk_at, saving_in}
use Rattle.pm_engine.specs.Works.Seen.{IsCrashSafe, seen}
use Rattle.pm_engine.proofs.WorksLemmas.Asking.{at_none, rest_sound, stored}
use Rattle.pm_engine.proofs.WorksLemmas.Going.{lasts}
use Rattle.pm_engine.proofs.WorksLemmas.Kept.{pages_last, spares_still}
use Rattle.pm_engine.proofs.WorksLemmas.Whole.{same_journal}

module _ {D : Type 0} {F : Type 0} {g : Ghosts D} (start : Start D F g) (stopped : Option ℕ) (old new : Works D F g) (is : CollectsOn old new) where
  -- all but the space stays
  pub collects : Collects (seen start stopped old) (seen start stopped new)
  collects = record {
    opening = record { number = refl; opened = refl };
    frozen = is.frozen;
    saving = ap saving is.saver;
    journal = same_journal old new is.past is.journal;
    course = is.course;
    watches = is.watches;
    events = is.events;
    steps = is.steps;
    stopped = refl;
  }

-- the pages stay, and with them the disk
module _ {D : Type 0} {F : Type 0} {g : Ghosts D} (old new : Works D F g) (pages : new.pages ≡ old.pages) where
  pub same_disk : disk_at new ≡ disk_at old
  same_disk = ap disk_of pages

  told : TellsOn (contents_in old) (contents_in new)
  told bytes here = (bytes, ap (λ (d : D). g.contents d) same_disk ∙ here)

-- all of it stays
pub left_rests : {D F : Type 0} {g : Ghosts D} (old new : Works D F g) → IsLeft old new → Rests old new
left_rests old new left = record {
  nothing = left.nothing;
  view = left.keeps.view;
  frozen = left.keeps.frozen;
  settled = ap (λ (it : Saving). it.settled) left.keeps.saving;
  progress = kept.stays_same (saving_in old).progress (saving_in new).progress (ap (λ (it : Saving). it.progress) left.keeps.saving);
}

module _ {D : Type 0} {F : Type 0} {g : Ghosts D} (start : Start D F g) (stopped : Option ℕ) (old new : Works D F g) (is : CollectsOn old new) (none : stopped ≡ None) (known : ∥ IsCrashSafe start stopped old ∥₁) where
  pub collect_sound : IsTiedIn new → ((t : ℕ) (bytes : List ℕ) → t ≤ g.moment (disk_at new) → g.image (disk_at new) bytes → g.since (disk_at new) t bytes)
      → ((bytes : List ℕ) → g.since (disk_at old) (g.moment (disk_at old)) bytes → g.image (disk_at old) bytes) → ∥ IsCrashSafe start stopped new ∥₁
  collect_sound tied counts only_now =
      let w = opening (seen start None old) in
      subst (λ (o : Option ℕ). ∥ IsCrashSafe start o new ∥₁) (sym none) (∥∥₁_map (at_none start stopped old none known) (λ sound.
      lasts start old new sound counts (kept.collected (seen start None old) (seen start None new) sound.journal (collects start None old new is))
      (ap (λ (entries : List Entry). settled_in (after w entries)) (same_journal old new is.past is.journal))
      (ap (chain w) (same_journal old new is.past is.journal))
      tied (pages_last old new is.pages) (told old new is.pages)
      (spares_still old new only_now (same_disk old new is.pages) (sound.stored refl).tied.sound)))

-- nothing was made
module _ {D : Type 0} {F : Type 0} {g : Ghosts D} (start : Start D F g) (stopped : Option ℕ) (old new : Works D F g) (left : IsLeft old new) (none : stopped ≡ None) (known : ∥ IsCrashSafe start stopped old ∥₁) where
  pub left_sound : new.pages ≡ old.pages → IsTiedIn new → ((t : ℕ) (bytes : List ℕ) → t ≤ g.moment (disk_at new) → g.image (disk_at new) bytes → g.since (disk_at new) t bytes)
      → ((bytes : List ℕ) → g.since (disk_at old) (g.moment (disk_at old)) bytes → g.image (disk_at old) bytes) → ∥ IsCrashSafe start stopped new ∥₁
  left_sound pages tied counts only_now =
      rest_sound start stopped old none known new (left_rests old new left) tied (pages_last old new pages) (told old new pages)
      (spares_still old new only_now (same_disk old new pages) (stored start stopped old none known).tied.sound) counts

-- either way
module _ {D : Type 0} {F : Type 0} {g : Ghosts D} {T E : Type 0} (start : Start D F g) (stopped : Option ℕ) (old new : Works D F g) (none : stopped ≡ None) (known : ∥ IsCrashSafe start stopped old ∥₁) where
  pub tried_sound : (result : Result T E) → OnOk result (CollectsOn old new) → OnErr result (IsLeft old new) → new.pages ≡ old.pages → IsTiedIn new
      → ((t : ℕ) (bytes : List ℕ) → t ≤ g.moment (disk_at new) → g.image (disk_at new) bytes → g.since (disk_at new) t bytes)
      → ((bytes : List ℕ) → g.since (disk_at old) (g.moment (disk_at old)) bytes → g.image (disk_at old) bytes) → ∥ IsCrashSafe start stopped new ∥₁
  tried_sound (Ok made) is left pages = collect_sound start stopped old new is none known
  tried_sound (Err fault) is left pages = left_sound start stopped old new left none known pages
