-- A saver keeps a copy in progress in one way.
use Rattle.std.specs.Prelude.{List, [], ◌∷◌, Option, Some, None}
use Rattle.std.specs.List.{AllByRecursion}
use Rattle.std.proofs.Props.{props}
use Rattle.pm_image.specs.declared.settled.KeptPage.{KeptPage}
use Rattle.pm_save.specs.declared.progress.place.Place.{Place}
use Rattle.pm_save.specs.declared.progress.place.Place.TheVariants.{Clean, Unwritten, Written}
use Rattle.pm_save.specs.declared.progress.place.InProgress.{InProgress}
use Rattle.pm_save.specs.Progress.Kept.{IsWithin, IsKept, AreKept}

All-prop : {A : Type 0} (P : A → Type 0) → ((x : A) → IsProp (P x)) → (xs : List A) → IsProp (AllByRecursion P xs)
All-prop P each [] = hlevel props
All-prop P each (x ∷ xs) = hlevel (props, each, All-prop P each xs)

IsWithin-prop : (settled : List KeptPage) (place : Place) → IsProp (IsWithin settled place)
IsWithin-prop settled (Clean index) = hlevel props
IsWithin-prop settled Unwritten = hlevel props
IsWithin-prop settled (Written kept) = hlevel props

IsKept-prop : (settled : List KeptPage) (it : InProgress) → IsProp (IsKept settled it)
IsKept-prop settled it = hlevel (props, All-prop, IsWithin-prop)

pub AreKept-prop : (settled : List KeptPage) (progress : Option InProgress) → IsProp (AreKept settled progress)
AreKept-prop settled None = hlevel props
AreKept-prop settled (Some it) = IsKept-prop settled it
