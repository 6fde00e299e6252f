-- A flush leaves the header.
use Rattle.std.proofs.Common.{◌≡◌, ℕ, List, [], ◌∷◌, Option, refl, ap, ◌∙◌}
use Rattle.pm_types.specs.declared.event.Flushed.{Flushed}
use Rattle.pm_types.specs.declared.event.Flushed.TheVariants.{Wrote, AllFlushed}
use Rattle.pm_shadow.specs.State.{State, with_kept}
use Rattle.pm_view.specs.View.{Cars}
use Rattle.pm_saving.specs.Progress.{Saving}
use Rattle.pm_saving.specs.Paging.{newly_kept}
use Rattle.pm_saving.specs.Tied.{with_all_kept}
use Rattle.pm_save.specs.Progress.Answers.{IsFlushed}

kept_header : (pages : List ℕ) (s : State) → (with_all_kept pages s).header ≡ s.header
kept_header [] s = refl
kept_header (page ∷ pages) s = kept_header pages (with_kept s page)

-- the header stays
pub flushed_header : (old new : Saving) (cars : Cars) (s t : State) (was now : Option (List ℕ)) (flushed : Flushed) → IsFlushed old new cars s t was now flushed → t.header ≡ s.header
flushed_header old new cars s t was now AllFlushed is = ap (λ (it : State). it.header) is.1.state
flushed_header old new cars s t was now (Wrote page) is = ap (λ (it : State). it.header) is.state ∙ kept_header (newly_kept is.progress) s
