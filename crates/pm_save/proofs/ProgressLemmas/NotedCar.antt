-- What is noted of the page of a car.
use Rattle.std.proofs.Common.{◌≡◌, ℕ, zero, suc, ◌-◌, ◌<◌, ◌≤◌, Bool, true, false, List, [], ◌∷◌, ◌++◌, length, map, take, drop, reverse, if◌then◌else◌, slice_set, get_or, Option, Some, refl, sym, ap, ◌∙◌, subst, arith}
use Rattle.std.specs.List.{AllByRecursion, slice_get}
use Rattle.std.specs.Prelude.{IfSome}
use Rattle.std.proofs.lemmas.List.{nil_from_length}
use Rattle.sha2.specs.Sha256.{sha256}
use Rattle.pm_image.specs.declared.car.CarImage.{CarImage}
use Rattle.pm_image.specs.declared.catalog.CatEntry.{CatEntry}
use Rattle.pm_image.specs.declared.settled.KeptPage.{KeptPage}
use Rattle.pm_copies.specs.Plans.{chain_of, digest_of, root_entry}
use Rattle.pm_copies.specs.Cutting.{OnePage, cut}
use Rattle.pm_saving.specs.Progress as seen
use Rattle.pm_saving.specs.Progress.{catalog_left, draft_entry, paired, parts_of}
use Rattle.pm_saving.specs.Paging.{CarPage, car_text, is_unwritten, place_first, unwritten, with_page}
use Rattle.pm_save.specs.declared.progress.place.Place.TheVariants.{Written}
use Rattle.pm_save.specs.declared.progress.place.PlacedCar.{PlacedCar}
use Rattle.pm_save.specs.declared.progress.place.InProgress.{InProgress}
use Rattle.pm_save.specs.Progress.Seen.{car_seen, place_seen, progress_seen}
use Rattle.pm_save.specs.Progress.Kept.{IsKept, IsPlaced, is_open}
use Rattle.pm_save.specs.Progress.Next.{IsFound}
use Rattle.pm_save.specs.Progress.Noted.{with_written}
use Rattle.pm_save.proofs.ProgressLemmas.Slices.{there}
use Rattle.pm_save.proofs.ProgressLemmas.Placed.{Within, same_open}

-- ---- the cars, of which one stands on a page now

pub set_written : (place : ℕ) (kept : KeptPage) (cars : List PlacedCar) (one : PlacedCar) → place < length cars → one ≡ get_or cars place one
    → slice_set cars place (record one { place = Written kept }) ≡ with_written place kept cars
set_written place kept [] one low is = absurd (omega (arith, low))
set_written zero kept (first ∷ cars) one low is = ap (λ (one : PlacedCar). record one { place = Written kept } ∷ cars) is
set_written (suc place) kept (first ∷ cars) one low is = ap (λ (rest : List PlacedCar). first ∷ rest) (set_written place kept cars one (omega (arith, low)) is)

front_stays : (place : ℕ) (kept : KeptPage) (cars : List PlacedCar) → take place (with_written place kept cars) ≡ take place cars
front_stays place kept [] = refl
front_stays zero kept (one ∷ cars) = refl
front_stays (suc place) kept (one ∷ cars) = ap (λ (rest : List PlacedCar). one ∷ rest) (front_stays place kept cars)

within_stays : (settled : List KeptPage) (place : ℕ) (kept : KeptPage) (cars : List PlacedCar) → Within settled cars → Within settled (with_written place kept cars)
within_stays settled place kept [] within = tt
within_stays settled zero kept (one ∷ cars) within = (tt, within.1)
within_stays settled (suc place) kept (one ∷ cars) within = (within.0, within_stays settled place kept cars within.1)

length_stays : (place : ℕ) (kept : KeptPage) (cars : List PlacedCar) → length (with_written place kept cars) ≡ length cars
length_stays place kept [] = refl
length_stays zero kept (one ∷ cars) = refl
length_stays (suc place) kept (one ∷ cars) = ap (λ (n : ℕ). suc n) (length_stays place kept cars)

if_is : {A : Type 0} (b c : Bool) (x y : A) → b ≡ c → (if b then x else y) ≡ (if c then x else y)
if_is b c x y is = ap (λ (b : Bool). if b then x else y) is

-- it is the first that stood on none
first_placed : (settled : List KeptPage) (place : ℕ) (kept : KeptPage) (cars : List PlacedCar) (one : PlacedCar) → Within settled cars → AllByRecursion IsPlaced (take place cars) → slice_get cars place ≡ Some one → is_open one.place ≡ true
    → map (car_seen settled) (with_written place kept cars) ≡ place_first kept (map (car_seen settled) cars)
first_placed settled place kept [] one within before at here = absurd cc
first_placed settled zero kept (first ∷ cars) one within before at here =
    let same : first ≡ one = cc in
    let test : is_unwritten (place_seen settled first.place) ≡ true = same_open settled first.place within.0 ∙ ap (λ (one : PlacedCar). is_open one.place) same ∙ here in
    sym (if_is (is_unwritten (place_seen settled first.place)) true (record (car_seen settled first) { place = seen.Written kept } ∷ map (car_seen settled) cars) (car_seen settled first ∷ place_first kept (map (car_seen settled) cars)) test)
first_placed settled (suc place) kept (first ∷ cars) one within before at here =
    let test : is_unwritten (place_seen settled first.place) ≡ false = same_open settled first.place within.0 ∙ before.0 in
    ap (λ (rest : List seen.PlacedCar). car_seen settled first ∷ rest) (first_placed settled place kept cars one within.1 before.1 at here)
    ∙ sym (if_is (is_unwritten (place_seen settled first.place)) false (record (car_seen settled first) { place = seen.Written kept } ∷ map (car_seen settled) cars) (car_seen settled first ∷ place_first kept (map (car_seen settled) cars)) test)

some_left : (settled : List KeptPage) (place : ℕ) (cars : List PlacedCar) (one : PlacedCar) → Within settled cars → slice_get cars place ≡ Some one → is_open one.place ≡ true → 0 < unwritten (map (car_seen settled) cars)
some_left settled place [] one within at here = absurd cc
some_left settled zero (first ∷ cars) one within at here =
    let same : first ≡ one = cc in
    let test : is_unwritten (place_seen settled first.place) ≡ true = same_open settled first.place within.0 ∙ ap (λ (one : PlacedCar). is_open one.place) same ∙ here in
    let one : ℕ = 1 in let none : ℕ = 0 in
    let counts : (if is_unwritten (place_seen settled first.place) then one else none) ≡ one = if_is (is_unwritten (place_seen settled first.place)) true one none test in
    omega (arith, counts)
some_left settled (suc place) (first ∷ cars) one within at here =
    let rest = some_left settled place cars one within.1 at here in
    omega (arith, rest)

-- ---- the entries keep their sizes

drafts_stay : (place : ℕ) (settled : List KeptPage) (kept : KeptPage) (cars : List PlacedCar) → map draft_entry (map (car_seen settled) (with_written place kept cars)) ≡ map draft_entry (map (car_seen settled) cars)
drafts_stay place settled kept [] = refl
drafts_stay zero settled kept (one ∷ cars) = refl
drafts_stay (suc place) settled kept (one ∷ cars) = ap (λ (rest : List CatEntry). draft_entry (car_seen settled one) ∷ rest) (drafts_stay place settled kept cars)

-- ---- the copy

none_written : (written left : ℕ) → (0 < written → left ≡ 0) → 0 < left → written ≡ 0
none_written zero left none some = refl
none_written (suc written) left none some = let no = none (omega arith) in absurd (omega (arith, no, some))

module _ (settled : List KeptPage) (it new : InProgress) (image : CarImage) (page : ℕ) (digest : List ℕ) (kept : IsKept settled it) (found : IsFound it) (low : it.placed < length it.cars.items)
    (cars : new.cars.items ≡ with_written it.placed (record { image = image; page = page; digest = digest }) it.cars.items) (rest : new ≡ record it { cars = new.cars; kept = true }) where
  abbrev one_there : (one : PlacedCar) × (slice_get it.cars.items it.placed ≡ Some one)
  one_there = there it.cars.items it.placed low

  open_there : is_open one_there.0.place ≡ true
  open_there = subst (λ (one : Option PlacedCar). IfSome one (λ (one : PlacedCar). is_open one.place ≡ true)) one_there.1 found.here

  written_seen : map (car_seen settled) new.cars.items ≡ place_first (record { image = image; page = page; digest = digest }) (map (car_seen settled) it.cars.items)
  written_seen = ap (map (car_seen settled)) cars ∙ first_placed settled it.placed (record { image = image; page = page; digest = digest }) it.cars.items one_there.0 kept.within found.before one_there.1 open_there

  pub car_seen_then : digest ≡ sha256 (car_text image) → progress_seen settled new ≡ with_page page (progress_seen settled it) (CarPage image)
  car_seen_then is =
      ap (progress_seen settled) rest
      ∙ ap (λ (cars : List seen.PlacedCar). record (progress_seen settled it) { cars = cars; kept = true }) written_seen
      ∙ ap (λ (digest : List ℕ). record (progress_seen settled it) { cars = place_first (record { image = image; page = page; digest = digest }) (map (car_seen settled) it.cars.items); kept = true }) is

  no_parts : reverse it.parts.items ≡ []
  no_parts = nil_from_length (reverse it.parts.items) (none_written (length (reverse it.parts.items)) (unwritten (map (car_seen settled) it.cars.items)) kept.last.placed (some_left settled it.placed it.cars.items one_there.0 kept.within one_there.1 open_there))

  drafts : map draft_entry (map (car_seen settled) it.cars.items) ≡ map draft_entry (map (car_seen settled) new.cars.items)
  drafts = sym (ap (λ (cars : List PlacedCar). map draft_entry (map (car_seen settled) cars)) cars ∙ drafts_stay it.placed settled (record { image = image; page = page; digest = digest }) it.cars.items)

  pub car_kept : IsKept settled new
  car_kept =
      let length_is : length new.cars.items ≡ length it.cars.items = ap (λ (cars : List PlacedCar). length cars) cars ∙ length_stays it.placed (record { image = image; page = page; digest = digest }) it.cars.items in
      let room = kept.cars_room in
      let after : InProgress = record it { cars = new.cars; kept = true } in
      subst (IsKept settled) (sym rest) (record {
        placed = subst (λ (cars : List PlacedCar). AllByRecursion IsPlaced (take it.placed cars)) (sym cars) (subst (AllByRecursion IsPlaced) (sym (front_stays it.placed (record { image = image; page = page; digest = digest }) it.cars.items)) found.before);
        within = subst (Within settled) (sym cars) (within_stays settled it.placed (record { image = image; page = page; digest = digest }) it.cars.items kept.within);
        counts = kept.counts ∙ ap (λ (drafts : List CatEntry). take (length (cut (drafts ++ map root_entry it.roots.items)) - length (reverse it.parts.items)) (map (λ (page : OnePage). length page) (cut (drafts ++ map root_entry it.roots.items)))) drafts;
        last = record {
          few = subst (λ (drafts : List CatEntry). length (reverse it.parts.items) ≤ length (cut (drafts ++ map root_entry it.roots.items))) drafts kept.last.few;
          placed = λ some. let none : length (reverse it.parts.items) ≡ 0 = ap (λ (parts : List ℕ). length parts) no_parts in absurd (omega (arith, some, none));
          kept = λ some. refl;
        };
        digest =
            kept.digest
            ∙ ap (λ (parts : List ℕ). digest_of (chain_of (paired parts (drop (catalog_left (progress_seen settled it)) (parts_of (progress_seen settled it)))))) no_parts
            ∙ sym (ap (λ (parts : List ℕ). digest_of (chain_of (paired parts (drop (catalog_left (progress_seen settled after)) (parts_of (progress_seen settled after)))))) no_parts);
        pages = kept.pages;
        parts_room = kept.parts_room;
        empty = kept.empty;
        cars_room = omega (arith, room, length_is);
      })
