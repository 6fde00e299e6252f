-- What holds once a copy was given up.
use Rattle.std.proofs.Common.{◌≡◌, ℕ, List, Option, sym, subst}
use Rattle.pm_image.specs.declared.settled.KeptPage.{KeptPage}
use Rattle.pm_shadow.specs.State.{State}
use Rattle.pm_shadow.specs.Copies.{KeepsSamePages}
use Rattle.pm_view.specs.View.{Cars}
use Rattle.pm_saving.specs.Progress.{Progress}
use Rattle.pm_saving.specs.Tied.{HasCopy, IsTied}
use Rattle.pm_save.specs.Progress.Answers.{KeepsCopy}
use Rattle.pm_save.proofs.WriterLemmas.FlushLemmas.{copy_still}

-- what holds of values holds of the same values
pub same_tied : (settled : List KeptPage) (p q : Option Progress) (frozen after : Option Cars) (s t : State) (was now : Option (List ℕ)) → q ≡ p → after ≡ frozen → t ≡ s → now ≡ was
    → IsTied (record { settled = settled; progress = p }) frozen s was → IsTied (record { settled = settled; progress = q }) after t now
same_tied settled p q frozen after s t was now progress_is frozen_is state contents tied =
    subst (λ (contents : Option (List ℕ)). IsTied (record { settled = settled; progress = q }) after t contents) (sym contents)
    (subst (λ (t : State). IsTied (record { settled = settled; progress = q }) after t was) (sym state)
    (subst (λ (frozen : Option Cars). IsTied (record { settled = settled; progress = q }) frozen s was) (sym frozen_is)
    (subst (λ (p : Option Progress). IsTied (record { settled = settled; progress = p }) frozen s was) (sym progress_is) tied)))

-- the disk is the same, and the same pages are kept
pub kept_copy : (s t u : State) (was now : Option (List ℕ)) → KeepsSamePages s t → u ≡ t → now ≡ was → KeepsCopy s u was now
kept_copy s t u was now same is contents copy bytes told has after now_told =
    let still : bytes ≡ after = cc in
    subst (λ (bytes : List ℕ). HasCopy u bytes copy) still (subst (λ (t : State). HasCopy t bytes copy) (sym is) (copy_still s t bytes copy same has))
