-- Which page of a copy comes next, and what is left once it was written.
use Rattle.std.proofs.Common.{◌≡◌, ◌⊎◌, inl, inr, ⊎_elim, ◌↔◌, ℕ, zero, suc, ◌+◌, Bool, true, false, List, [], ◌∷◌, ◌++◌, length, map, Contains, Option, Some, None, refl, sym, ap, subst, ◌∙◌, arith, if◌then◌else◌}
use Rattle.std.specs.Prelude.{slice_index_or}
use Rattle.std.specs.List.{AllByRecursion}
use Rattle.std.proofs.lemmas.Option.{same_Some}
use Rattle.pm_model.proofs.Members.{at_first, in_rest}
use Rattle.pm_image.specs.declared.car.CarImage.{CarImage}
use Rattle.pm_image.specs.declared.catalog.CatEntry.{CatEntry}
use Rattle.pm_image.specs.declared.settled.KeptPage.{KeptPage}
use Rattle.pm_view.specs.View.{Cars}
use Rattle.pm_copies.specs.Listed.{Listed, copy_listed}
use Rattle.pm_copies.specs.Accepted.{IsAccepted}
use Rattle.pm_law_copies.proofs.GraphsLemmas.Sets.{once}
use Rattle.pm_copies.specs.Cutting.{OnePage, cut}
use Rattle.pm_saving.specs.Progress.{Written, PlacedCar, Progress, catalog_left, catalog_len, draft_entry, image_of, in_list, parts_of, roots_of}
use Rattle.pm_saving.specs.Paging.{CarPage, NextPage, PartPage, first_unwritten, is_unwritten, kept_on, left, next_after, next_page, part_before, place_first, unwritten, with_next, with_page, written_on}
use Rattle.pm_saving.specs.Beginning.{IsCarNumbered, IsInProgress, StandsAs}
use Rattle.pm_saving.specs.Tied.{GoesOn}
use Rattle.pm_law_saving.proofs.Members.{of_member}

-- ---- the first car that stands on no page

pub none_unwritten : (cars : List PlacedCar) → first_unwritten cars ≡ None → unwritten cars ≡ 0
none_unwritten [] is = refl
none_unwritten (first ∷ cars) is = by (is_unwritten first.place) is (none_unwritten cars)
  where
    by : (b : Bool) → (if b then Some first else first_unwritten cars) ≡ None → (first_unwritten cars ≡ None → unwritten cars ≡ 0) → once b + unwritten cars ≡ 0
    by true is rest = absurd cc
    by false is rest = let none = rest is in omega (arith, none)

pub unwritten_none : (cars : List PlacedCar) → unwritten cars ≡ 0 → first_unwritten cars ≡ None
unwritten_none [] is = refl
unwritten_none (first ∷ cars) is = by (is_unwritten first.place) is (unwritten_none cars)
  where
    by : (b : Bool) → once b + unwritten cars ≡ 0 → (unwritten cars ≡ 0 → first_unwritten cars ≡ None) → (if b then Some first else first_unwritten cars) ≡ None
    by true is rest = absurd (omega (arith, is))
    by false is rest = rest (omega (arith, is))

-- once it stands on one, one less stands on none
pub one_less : (kept : KeptPage) (cars : List PlacedCar) (one : PlacedCar) → first_unwritten cars ≡ Some one → unwritten (place_first kept cars) + 1 ≡ unwritten cars
one_less kept [] one is = absurd cc
one_less kept (first ∷ cars) one is = by (is_unwritten first.place) refl is (one_less kept cars one)
  where
    by : (b : Bool) → is_unwritten first.place ≡ b → (if b then Some first else first_unwritten cars) ≡ Some one → (first_unwritten cars ≡ Some one → unwritten (place_first kept cars) + 1 ≡ unwritten cars)
        → unwritten (if b then record first { place = Written kept } ∷ cars else first ∷ place_first kept cars) + 1 ≡ once b + unwritten cars
    by true here is rest = omega arith
    by false here is rest = let less = rest is in let none : once (is_unwritten first.place) ≡ 0 = ap once here in omega (arith, less, none)

pub is_first : (cars : List PlacedCar) (one : PlacedCar) → first_unwritten cars ≡ Some one → Contains cars one
is_first [] one is = absurd cc
is_first (first ∷ cars) one is = by (is_unwritten first.place) is (is_first cars one)
  where
    by : (b : Bool) → (if b then Some first else first_unwritten cars) ≡ Some one → (first_unwritten cars ≡ Some one → Contains cars one) → Contains (first ∷ cars) one
    by true is rest = subst (Contains (first ∷ cars)) (same_Some first one is) (at_first first cars)
    by false is rest = in_rest first one cars (rest is)

-- what does not depend on where cars stand stays
pub places_aside : {A : Type 0} (f : PlacedCar → A) (kept : KeptPage) (cars : List PlacedCar) → ((one : PlacedCar) → f (record one { place = Written kept }) ≡ f one) → map f (place_first kept cars) ≡ map f cars
places_aside f kept [] same = refl
places_aside f kept (first ∷ cars) same = by (is_unwritten first.place) (places_aside f kept cars same)
  where
    by : (b : Bool) → map f (place_first kept cars) ≡ map f cars → map f (if b then record first { place = Written kept } ∷ cars else first ∷ place_first kept cars) ≡ f first ∷ map f cars
    by true rest = ap (λ x. x ∷ map f cars) (same first)
    by false rest = ap (λ xs. f first ∷ xs) rest

pub all_placed : (P : PlacedCar → Type 0) (kept : KeptPage) (cars : List PlacedCar) (one : PlacedCar) → first_unwritten cars ≡ Some one → P (record one { place = Written kept }) → AllByRecursion P cars
    → AllByRecursion P (place_first kept cars)
all_placed P kept [] one is now all = tt
all_placed P kept (first ∷ cars) one is now all = by (is_unwritten first.place) is (λ is. all_placed P kept cars one is now all.1)
  where
    by : (b : Bool) → (if b then Some first else first_unwritten cars) ≡ Some one → (first_unwritten cars ≡ Some one → AllByRecursion P (place_first kept cars))
        → AllByRecursion P (if b then record first { place = Written kept } ∷ cars else first ∷ place_first kept cars)
    by true is rest = (subst (λ (one : PlacedCar). P (record one { place = Written kept })) (sym (same_Some first one is)) now, all.1)
    by false is rest = (all.0, rest is)

-- ---- the next page

-- it is that of a car
pub record IsCarNext (cars : Cars) (progress : Progress) (next : NextPage) : Type 0 where
  pub one : PlacedCar
  pub first : first_unwritten progress.cars ≡ Some one
  pub same : CarPage (image_of cars one) ≡ next

-- or one of the catalog
pub record IsPartNext (progress : Progress) (next : NextPage) : Type 0 where
  pub before : ℕ
  pub placed : unwritten progress.cars ≡ 0
  pub some : catalog_left progress ≡ suc before
  pub same : PartPage (slice_index_or (parts_of progress) before []) ≡ next

part_next : (progress : Progress) (next : NextPage) → unwritten progress.cars ≡ 0 → (n : ℕ) → catalog_left progress ≡ n → part_before n progress ≡ Some next → IsPartNext progress next
part_next progress next placed zero some is = absurd cc
part_next progress next placed (suc before) some is =
    record { before = before; placed = placed; some = some; same = same_Some (PartPage (slice_index_or (parts_of progress) before [])) next is }

pub which_next : (cars : Cars) (progress : Progress) (next : NextPage) → next_page cars progress ≡ Some next → IsCarNext cars progress next ⊎ IsPartNext progress next
which_next cars progress next is = by (first_unwritten progress.cars) refl is
  where
    by : (first : Option PlacedCar) → first_unwritten progress.cars ≡ first → next_after cars progress first ≡ Some next → IsCarNext cars progress next ⊎ IsPartNext progress next
    by None first is = inr (part_next progress next (none_unwritten progress.cars first) (catalog_left progress) refl is)
    by (Some one) first is = inl (record { one = one; first = first; same = same_Some (CarPage (image_of cars one)) next is })

-- there is none exactly where nothing is left
pub next_none : (settled : List KeptPage) (cars : Cars) (progress : Progress) → IsInProgress settled cars progress → (next_page cars progress ≡ None) ↔ (left progress ≡ 0)
next_none settled cars progress copy = (forth (first_unwritten progress.cars) refl, back)
  where
    no_part : (n : ℕ) → part_before n progress ≡ None → n ≡ 0
    no_part zero is = refl
    no_part (suc before) is = absurd cc

    forth : (first : Option PlacedCar) → first_unwritten progress.cars ≡ first → next_after cars progress first ≡ None → left progress ≡ 0
    forth None first is = let placed = none_unwritten progress.cars first in let none = no_part (catalog_left progress) is in omega (arith, placed, none)
    forth (Some one) first is = absurd cc

    back : left progress ≡ 0 → next_page cars progress ≡ None
    back none =
        let placed : unwritten progress.cars ≡ 0 = omega (arith, none) in
        let written : catalog_left progress ≡ 0 = omega (arith, none) in
        ap (next_after cars progress) (unwritten_none progress.cars placed) ∙ ap (λ (n : ℕ). part_before n progress) written

-- ---- once it was written

pub same_len : (page : ℕ) (progress : Progress) (image : CarImage) → catalog_len (with_page page progress (CarPage image)) ≡ catalog_len progress
same_len page progress image = ap (λ (es : List CatEntry). length (cut (es ++ roots_of progress))) (places_aside draft_entry (kept_on page image) progress.cars (λ one. refl))

car_left : (cars : Cars) (progress : Progress) (page : ℕ) (one : PlacedCar) → first_unwritten progress.cars ≡ Some one → left (with_page page progress (CarPage (image_of cars one))) + 1 ≡ left progress
car_left cars progress page one first =
    let less = one_less (kept_on page (image_of cars one)) progress.cars one first in
    let same = same_len page progress (image_of cars one) in
    omega (arith, less, same)

part_left : (progress : Progress) (page before : ℕ) (entries : OnePage) → catalog_left progress ≡ suc before → left (with_page page progress (PartPage entries)) + 1 ≡ left progress
part_left progress page before entries some = omega (arith, some)

pub next_left : (settled : List KeptPage) (cars : Cars) (progress : Progress) (next : NextPage) (page : ℕ) → IsInProgress settled cars progress → next_page cars progress ≡ Some next
    → left (with_page page progress next) + 1 ≡ left progress
next_left settled cars progress next page copy is =
    ⊎_elim
    (λ (car : IsCarNext cars progress next). subst (λ (next : NextPage). left (with_page page progress next) + 1 ≡ left progress) car.same (car_left cars progress page car.one car.first))
    (λ (part : IsPartNext progress next). subst (λ (next : NextPage). left (with_page page progress next) + 1 ≡ left progress) part.same
    (part_left progress page part.before (slice_index_or (parts_of progress) part.before []) part.some))
    (which_next cars progress next is)

-- the copy goes on
abbrev Goes : List KeptPage → Cars → Progress → ℕ → NextPage → Type 0
Goes settled cars progress page next = GoesOn progress (with_page page progress next) × IsInProgress settled cars (with_page page progress next)

same_list : (cars : Cars) (kept : KeptPage) (placed : List PlacedCar) → map (in_list cars) (place_first kept placed) ≡ map (in_list cars) placed
same_list cars kept placed = places_aside (in_list cars) kept placed (λ one. refl)

car_goes : (settled : List KeptPage) (cars : Cars) (progress : Progress) (page : ℕ) (one : PlacedCar) → IsInProgress settled cars progress → first_unwritten progress.cars ≡ Some one
    → Goes settled cars progress page (CarPage (image_of cars one))
car_goes settled cars progress page one copy first =
    let image = image_of cars one in
    let kept = kept_on page image in
    let less = car_left cars progress page one first in
    let fewer = one_less kept progress.cars one first in
    let same = same_len page progress image in
    let few = copy.catalog.few in (
      record {
        number = refl;
        roots = refl;
        next_id = refl;
        copy = λ cars. ap (λ (list : List Listed). copy_listed list (roots_of progress) progress.next_id) (same_list cars kept progress.cars);
        left = omega (arith, less);
      },
      record {
        accepted = subst (λ (list : List Listed). IsAccepted list (roots_of progress) progress.next_id) (sym (same_list cars kept progress.cars)) copy.accepted;
        numbered = all_placed IsCarNumbered kept progress.cars one first
            (let is = of_member IsCarNumbered progress.cars one copy.numbered (is_first progress.cars one first) in record { train = is.train; number = is.number }) copy.numbered;
        copy_number = copy.copy_number;
        names = copy.names;
        stand = all_placed (λ (one : PlacedCar). StandsAs settled (image_of cars one) one.place) kept progress.cars one first refl copy.stand;
        catalog = record {
          few = omega (arith, few, same);
          placed = λ some. let none = copy.catalog.placed some in absurd (omega (arith, none, fewer));
          kept = λ some. refl;
        };
      },
    )

part_goes : (settled : List KeptPage) (cars : Cars) (progress : Progress) (page before : ℕ) (entries : OnePage) → IsInProgress settled cars progress → unwritten progress.cars ≡ 0 → catalog_left progress ≡ suc before
    → Goes settled cars progress page (PartPage entries)
part_goes settled cars progress page before entries copy placed some =
    let less = part_left progress page before entries some in (
      record { number = refl; roots = refl; next_id = refl; copy = λ cars. refl; left = omega (arith, less) },
      record {
        accepted = copy.accepted;
        numbered = copy.numbered;
        copy_number = copy.copy_number;
        names = copy.names;
        stand = copy.stand;
        catalog = record { few = omega (arith, some); placed = λ more. placed; kept = λ more. refl };
      },
    )

pub next_goes : (settled : List KeptPage) (cars : Cars) (progress : Progress) (next : NextPage) (page : ℕ) → IsInProgress settled cars progress → next_page cars progress ≡ Some next
    → GoesOn progress (with_page page progress next) × IsInProgress settled cars (with_page page progress next)
next_goes settled cars progress next page copy is =
    ⊎_elim
    (λ (car : IsCarNext cars progress next). subst (Goes settled cars progress page) car.same (car_goes settled cars progress page car.one copy car.first))
    (λ (part : IsPartNext progress next). subst (Goes settled cars progress page) part.same
    (part_goes settled cars progress page part.before (slice_index_or (parts_of progress) part.before []) copy part.placed part.some))
    (which_next cars progress next is)

-- once as many were written as were left, nothing is
pub all_left : (settled : List KeptPage) (cars : Cars) (progress : Progress) (pages : List ℕ) → IsInProgress settled cars progress → length pages ≡ left progress → left (written_on cars pages progress) ≡ 0
all_left settled cars progress [] copy count = sym count
all_left settled cars progress (page ∷ pages) copy count = by (next_page cars progress) refl (λ next copy count. all_left settled cars next pages copy count)
  where
    by : (next : Option NextPage) → next_page cars progress ≡ next → ((next : Progress) → IsInProgress settled cars next → length pages ≡ left next → left (written_on cars pages next) ≡ 0)
        → left (written_on cars pages (with_next page progress next)) ≡ 0
    by None is rest = let none = (next_none settled cars progress copy).0 is in absurd (omega (arith, none, count))
    by (Some next) is rest =
        let less = next_left settled cars progress next page copy is in
        rest (with_page page progress next) (next_goes settled cars progress next page copy is).1 (omega (arith, less, count))
