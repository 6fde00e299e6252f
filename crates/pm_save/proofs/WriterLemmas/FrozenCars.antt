-- The cars of a copy in progress are frozen.
use Rattle.std.proofs.Common.{◌≡◌, ℕ, List, Option, Some, None, refl, subst}
use Rattle.std.specs.Prelude.{IsSome, option_map}
use Rattle.pm_image.specs.declared.settled.KeptPage.{KeptPage}
use Rattle.pm_shadow.specs.State.{State}
use Rattle.pm_view.specs.View.{Cars}
use Rattle.pm_saving.specs.Progress.{Progress, Saving, cars_or_none}
use Rattle.pm_saving.specs.Tied.{IsBegun, IsTied}
use Rattle.pm_save.specs.declared.progress.place.InProgress.{InProgress}
use Rattle.pm_save.specs.Progress.Seen.{progress_seen}

-- where cars are frozen a copy is in progress
pub some_begun : (settled : List KeptPage) (progress : Option Progress) (cars : Cars) (epoch : ℕ) → IsBegun settled progress (Some cars) epoch → IsSome progress
some_begun settled None cars epoch begun = absurd begun
some_begun settled (Some progress) cars epoch begun = refl

-- and the other way round
frozen_is : (settled : List KeptPage) (progress : Option Progress) (frozen : Option Cars) (epoch : ℕ) → IsBegun settled progress frozen epoch → IsSome progress → frozen ≡ Some (cars_or_none frozen)
frozen_is settled None frozen epoch begun some = absurd cc
frozen_is settled (Some progress) None epoch begun some = absurd begun
frozen_is settled (Some progress) (Some cars) epoch begun some = refl

pub frozen_some : (saving : Saving) (frozen : Option Cars) (s : State) (contents : Option (List ℕ)) → IsTied saving frozen s contents → IsSome saving.progress → frozen ≡ Some (cars_or_none frozen)
frozen_some saving frozen s contents tied some = frozen_is saving.settled saving.progress frozen s.header.epoch tied.begun some

pub with_cars : (saving : Saving) (frozen : Option Cars) (s : State) (contents : Option (List ℕ)) → IsTied saving frozen s contents → IsSome saving.progress → IsTied saving (Some (cars_or_none frozen)) s contents
with_cars saving frozen s contents tied some = subst (λ (frozen : Option Cars). IsTied saving frozen s contents) (frozen_some saving frozen s contents tied some) tied

pub some_is : (settled : List KeptPage) (progress : Option InProgress) (it : InProgress) → progress ≡ Some it → IsSome (option_map (progress_seen settled) progress)
some_is settled None it is = absurd cc
some_is settled (Some one) it is = refl
