-- On which pages the cars of a copy stand once nothing of it is left.
use Rattle.std.proofs.Common.{◌≡◌, ℕ, ◌<◌, ◌≤◌, Bool, true, List, [], map, Contains, Option, Some, sym, ap, subst, if◌then◌else◌}
use Rattle.std.specs.List.{AllByRecursion, flat_map}
use Rattle.std.proofs.lemmas.List.Elements.{Contains-append_left}
use Rattle.pm_model.proofs.Members.{at_first, in_none}
use Rattle.pm_image.specs.declared.car.CarImage.{CarImage}
use Rattle.pm_image.specs.declared.catalog.CatalogPage.{CatalogPage}
use Rattle.pm_image.specs.declared.settled.KeptPage.{KeptPage}
use Rattle.pm_image.specs.CarPages.{padded}
use Rattle.pm_image.specs.CatalogPages.{catalog_spelling}
use Rattle.pm_shadow.specs.declared.page_use.PageUse.TheVariants.{Claimed, Kept}
use Rattle.pm_shadow.specs.Uses.{is_next}
use Rattle.pm_shadow.specs.State.{State}
use Rattle.pm_view.specs.View.{Cars}
use Rattle.pm_copies.specs.Plans.{chain_of}
use Rattle.pm_saving.specs.Progress.{Place, Clean, Unwritten, Written, PlacedCar, Progress, Saving, car_pages, catalog_of, image_of, page_in}
use Rattle.pm_saving.specs.Paging.{Put, car_put, car_text, clean_page, clean_pages, kept_pages, left, puts_of}
use Rattle.pm_saving.specs.Beginning.{IsInProgress, StandsAs}
use Rattle.pm_saving.specs.Tied.{AreItsPages, IsBegun, IsOnPage, IsPut, IsTied}
use Rattle.pm_law_saving.proofs.Members.{from_flat, in_flat, of_member, only_member}
use Rattle.pm_law_saving.proofs.Counting.{all_written}

-- what holds of a saver in which this copy is in progress
pub record IsUnderWay (saving : Saving) (cars : Cars) (s : State) (contents : Option (List ℕ)) (progress : Progress) : Type 0 where
  pub pages : AreItsPages (Some progress) s contents
  pub copy : IsInProgress saving.settled cars progress
  pub later : s.header.epoch < progress.number

pub under_way : (saving : Saving) (cars : Cars) (s : State) (contents : Option (List ℕ)) (progress : Progress) → IsTied saving (Some cars) s contents → saving.progress ≡ Some progress → IsUnderWay saving cars s contents progress
under_way saving cars s contents progress tied is =
    let begun : IsBegun saving.settled (Some progress) (Some cars) s.header.epoch = subst (λ (p : Option Progress). IsBegun saving.settled p (Some cars) s.header.epoch) is tied.begun in
    record { pages = subst (λ (p : Option Progress). AreItsPages p s contents) is tied.pages; copy = begun.0; later = begun.1 }

-- the pages of the catalog, as they were written
abbrev pub part_put : ℕ × CatalogPage → Put
part_put page = (page.0, padded (catalog_spelling page.1))

-- a car that was written is one of the pages that were
pub written_put : (progress : Progress) (one : PlacedCar) (put : Put) → Contains progress.cars one → Contains (car_put one.place) put → Contains (puts_of progress) put
written_put progress one put within here =
    Contains-append_left (flat_map (λ (one : PlacedCar). car_put one.place) progress.cars) (map part_put (chain_of (catalog_of progress))) put
    (in_flat (λ (one : PlacedCar). car_put one.place) progress.cars one put within here)

pub clean_kept : (progress : Progress) (one : PlacedCar) (page : ℕ) → progress.kept ≡ true → Contains progress.cars one → Contains (clean_page one.place) page → Contains (kept_pages progress) page
clean_kept progress one page kept within here =
    let is : kept_pages progress ≡ clean_pages progress = ap (λ (b : Bool). if b then clean_pages progress else []) kept in
    subst (λ (pages : List ℕ). Contains pages page) (sym is) (in_flat (λ (one : PlacedCar). clean_page one.place) progress.cars one page within here)

-- a page of the next copy, behind the headers' two
pub record IsItsPage (s : State) (page : ℕ) : Type 0 where
  pub from_2 : 2 ≤ page
  pub next : is_next (s.uses page) ≡ true

module _ (settled : List KeptPage) (s : State) (contents : Option (List ℕ)) (image : CarImage) (on : AllByRecursion (IsOnPage s) settled) where
  page_next : (place : Place) → StandsAs settled image place → ((page : ℕ) → Contains (clean_page place) page → s.uses page ≡ Kept) → ((put : Put) → Contains (car_put place) put → (s.uses put.0 ≡ Claimed) × IsPut s contents put)
      → (kept : KeptPage) → Contains (page_in place) kept → IsItsPage s kept.page
  page_next (Clean clean) stands are_kept are_written kept within =
      let same = only_member clean kept within in
      let there = of_member (IsOnPage s) settled clean on stands.0 in
      subst (λ (k : KeptPage). IsItsPage s k.page) same (record { from_2 = there.from_2; next = ap is_next (are_kept clean.page (at_first clean.page [])) })
  page_next Unwritten stands are_kept are_written kept within = absurd (in_none kept within)
  page_next (Written written) stands are_kept are_written kept within =
      let same = only_member written kept within in
      let put = are_written (written.page, car_text written.image) (at_first {X = Put} (written.page, car_text written.image) []) in
      subst (λ (k : KeptPage). IsItsPage s k.page) same (record { from_2 = put.1.from_2; next = ap is_next put.0 })

-- each car that stands on a page does so on one of the next copy
pub car_page_next : (saving : Saving) (cars : Cars) (s : State) (contents : Option (List ℕ)) (progress : Progress) → IsTied saving (Some cars) s contents → saving.progress ≡ Some progress → left progress ≡ 0
    → (kept : KeptPage) → Contains (car_pages progress) kept → IsItsPage s kept.page
car_page_next saving cars s contents progress tied is none kept within =
    let way = under_way saving cars s contents progress tied is in
    let all = all_written progress way.copy.catalog none in
    let from = from_flat (λ (one : PlacedCar). page_in one.place) progress.cars kept within in
    let one = from.0 in
    let pages = way.pages in
    page_next saving.settled s contents (image_of cars one) tied.on_pages one.place
    (of_member (λ (one : PlacedCar). StandsAs saving.settled (image_of cars one) one.place) progress.cars one way.copy.stand from.1)
    (λ page here. of_member (λ (page : ℕ). s.uses page ≡ Kept) (kept_pages progress) page pages.are_kept (clean_kept progress one page all.kept from.1 here))
    (λ put here.
    let there = written_put progress one put from.1 here in
    (of_member (λ (put : Put). s.uses put.0 ≡ Claimed) (puts_of progress) put pages.written there, of_member (IsPut s contents) (puts_of progress) put pages.read there))
    kept from.2
