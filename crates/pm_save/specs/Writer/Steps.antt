-- What one flush makes of the copy in progress.
use Rattle.std.specs.Prelude.{◌≡◌, ℕ, List, Option, Some, None, length}
use Rattle.pm_types.specs.declared.limits.TheConstants.{PAGE_BYTES}
use Rattle.pm_types.specs.declared.event.Flushed.{Flushed}
use Rattle.pm_types.specs.declared.event.Flushed.TheVariants.{Wrote, AllFlushed}
use Rattle.pm_shadow.specs.State.{State}
use Rattle.pm_view.specs.View.{Cars}
use Rattle.pm_saving.specs.Progress.{Progress}
use Rattle.pm_saving.specs.Paging.{NextPage, newly_kept, next_page, text_of, with_page}
use Rattle.pm_save.specs.Progress.Putting.{IsWritten}

-- the next page of the copy was written here
pub record Steps (cars : Cars) (old new : Progress) (s t : State) (was now : Option (List ℕ)) (page : ℕ) : Type 0 where
  pub next : NextPage
  pub is_next : next_page cars old ≡ Some next
  pub whole : length (text_of old next) ≡ PAGE_BYTES
  pub written : IsWritten (newly_kept old) s t was now (text_of old next) page
  pub seen : new ≡ with_page page old next

-- no page is left, and nothing changed
pub record Rests (cars : Cars) (old new : Progress) (s t : State) (was now : Option (List ℕ)) : Type 0 where
  pub none : next_page cars old ≡ None
  pub seen : new ≡ old
  pub state : t ≡ s
  pub contents : now ≡ was

abbrev pub IsStep : Cars → Progress → Progress → State → State → Option (List ℕ) → Option (List ℕ) → Flushed → Type 0
IsStep cars old new s t was now AllFlushed = Rests cars old new s t was now
IsStep cars old new s t was now (Wrote page) = Steps cars old new s t was now page
