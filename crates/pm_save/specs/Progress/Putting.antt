-- A page that was written for the copy in progress.
use Rattle.std.specs.Prelude.{◌≡◌, ℕ, true, false, List, map, Option, option_map}
use Rattle.std.specs.List.{AllByRecursion, flat_map}
use Rattle.pm_disk.specs.Writes.{written}
use Rattle.pm_image.specs.declared.settled.KeptPage.{KeptPage}
use Rattle.pm_shadow.specs.Uses.{IsLowestFree}
use Rattle.pm_shadow.specs.State.{State, with_claimed, with_page}
use Rattle.pm_shadow.specs.Images.{place_of}
use Rattle.pm_saving.specs.Progress as seen
use Rattle.pm_saving.specs.Paging.{clean_page}
use Rattle.pm_save.specs.declared.progress.place.PlacedCar.{PlacedCar}
use Rattle.pm_save.specs.Progress.Seen.{car_seen}
use Rattle.pm_saving.specs.Tied.{IsOnPage, with_all_kept}

-- no publish has failed, the pages of the current copy are known, and the settled cars are on pages of it
pub record IsReady (s : State) (settled : List KeptPage) : Type 0 where
  pub sound : s.failed ≡ false
  pub known : s.known ≡ true
  pub on_pages : AllByRecursion (IsOnPage s) settled

-- the pages of the clean ones among cars
abbrev pub pages_in : List KeptPage → List PlacedCar → List ℕ
pages_in settled cars = flat_map (λ (one : seen.PlacedCar). clean_page one.place) (map (car_seen settled) cars)

-- These pages were kept, and these bytes were written on the lowest page that was free.
pub record IsWritten (kept : List ℕ) (s t : State) (was now : Option (List ℕ)) (bytes : List ℕ) (page : ℕ) : Type 0 where
  pub lowest : IsLowestFree s.uses page
  pub state : t ≡ with_page (with_claimed (with_all_kept kept s) page) page
  pub contents : now ≡ option_map (written (place_of page) bytes) was
