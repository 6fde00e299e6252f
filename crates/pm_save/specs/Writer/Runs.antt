-- What a run of flushes leaves.
use Rattle.std.specs.Prelude.{◌≡◌, ℕ, ◌+◌, ◌<◌, ◌≤◌, List, Contains, length, Option, Some, option_map}
use Rattle.std.specs.List.{AllByRecursion}
use Rattle.pm_disk.specs.Disk.{IfTold}
use Rattle.pm_image.specs.Opening.{page_count, page_of}
use Rattle.pm_shadow.specs.declared.page_use.PageUse.TheVariants.{Free}
use Rattle.pm_shadow.specs.Uses.{AreLowestFree, all_used}
use Rattle.pm_shadow.specs.State.{State}
use Rattle.pm_view.specs.View.{Cars}
use Rattle.pm_copies.specs.Apart.{AreApart}
use Rattle.pm_saving.specs.Progress.{Progress, Saving}
use Rattle.pm_saving.specs.Paging.{left, put_on, written_on}
use Rattle.pm_saving.specs.Tied.{GoesOn, IsTied}
use Rattle.pm_save.specs.Progress.Answers.{KeepsCopy}

-- no page but these is another, among those that there were
pub record StaysBeside (pages : List ℕ) (before after : List ℕ) : Type 0 where
  pub longer : page_count before ≤ page_count after
  pub same : (page : ℕ) → page < page_count before → (Contains pages page → ⊥) → page_of after page ≡ page_of before page

-- The next pages of the copy in progress were written on these, one after another: each was free before, and none twice,
-- and each was the lowest one that was free at its time. The current header and its gate stay, and what holds between
-- calls holds again.
pub record HasRun (progress : Progress) (frozen : Option Cars) (cars : Cars) (old new : Saving) (s t : State) (was now : Option (List ℕ)) (pages : List ℕ) : Type 0 where
  pub saving : new ≡ record old { progress = Some (written_on cars pages progress) }
  pub left : left (written_on cars pages progress) + length pages ≡ left progress
  pub goes : GoesOn progress (written_on cars pages progress)
  pub free : AllByRecursion (λ (page : ℕ). s.uses page ≡ Free) pages
  pub apart : AreApart pages
  pub lowest : AreLowestFree s.uses pages
  pub unused : (page : ℕ) → all_used pages s.uses page ≡ Free → t.uses page ≡ Free
  pub free_still : (page : ℕ) → t.uses page ≡ Free → (s.uses page ≡ Free) × (Contains pages page → ⊥)
  pub header : t.header ≡ s.header
  pub slot : t.slot ≡ s.slot
  pub closed : t.closed ≡ s.closed
  pub tied : IsTied new frozen t now
  pub has : KeepsCopy s t was now
  pub contents : now ≡ option_map (put_on cars pages progress) was
  pub only : IfTold was (λ before. IfTold now (StaysBeside pages before))

-- A run of flushes over a copy in progress, whatever it answered but that the disk failed.
pub record Runs (frozen : Option Cars) (cars : Cars) (old new : Saving) (s t : State) (was now : Option (List ℕ)) : Type 0 where
  pub progress : Progress
  pub is_progress : old.progress ≡ Some progress
  pub pages : List ℕ
  pub run : HasRun progress frozen cars old new s t was now pages
