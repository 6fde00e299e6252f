-- The next page of a copy in progress, before it is written.
use Rattle.std.specs.Prelude.{◌≡◌, true, take, length, IfSome}
use Rattle.std.specs.List.{AllByRecursion, slice_get}
use Rattle.pm_types.specs.declared.limits.TheConstants.{PAGE_BYTES}
use Rattle.pm_saving.specs.Progress.{Progress}
use Rattle.pm_saving.specs.Paging.{NextPage, CarPage, PartPage, text_of}
use Rattle.pm_save.specs.declared.progress.place.InProgress.{InProgress}
use Rattle.pm_save.specs.declared.progress.place.PlacedCar.{PlacedCar}
use Rattle.pm_save.specs.declared.progress.next.Next.{Next}
use Rattle.pm_save.specs.declared.progress.next.Next.TheVariants.{Car, Part}
use Rattle.pm_save.specs.declared.progress.next.Ready.{Ready}
use Rattle.pm_save.specs.Progress.Kept.{IsPlaced, is_open}

-- what comes on a page
abbrev pub next_seen : Next → NextPage
next_seen (Car image) = CarPage image
next_seen (Part entries) = PartPage entries

-- the first car that stands on no page is found: the cars before it all stand on one
pub record IsFound (it : InProgress) : Type 0 where
  pub before : AllByRecursion IsPlaced (take it.placed it.cars.items)
  pub here : IfSome (slice_get it.cars.items it.placed) (λ (one : PlacedCar). is_open one.place ≡ true)

-- the bytes are those that this page of the copy spells, and fill a page
pub record Spells (progress : Progress) (page : Ready) : Type 0 where
  pub text : page.bytes.items ≡ text_of progress (next_seen page.next)
  pub whole : length page.bytes.items ≡ PAGE_BYTES
