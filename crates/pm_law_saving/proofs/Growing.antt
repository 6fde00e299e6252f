-- What one page more of a copy changes of its pages.
use Rattle.std.proofs.Common.{◌≡◌, ◌⊎◌, inl, inr, ⊎_elim, ℕ, zero, suc, ◌+◌, ◌<◌, ◌==◌, Bool, true, false, List, [], ◌∷◌, ◌++◌, length, drop, map, Contains, Some, refl, sym, ap, subst, ◌∙◌, arith, if◌then◌else◌}
use Rattle.std.specs.Prelude.{slice_index_or}
use Rattle.std.specs.List.{flat_map}
use Rattle.std.proofs.lemmas.List.{at_drop_more, nil_from_length}
use Rattle.std.proofs.lemmas.List.Elements.{Contains-append_cases, Contains-append_left, Contains-append_right}
use Rattle.pm_model.proofs.Members.{first_or_rest}
use Rattle.pm_image.specs.declared.settled.KeptPage.{KeptPage}
use Rattle.pm_view.specs.View.{Cars}
use Rattle.pm_copies.specs.Apart.{times}
use Rattle.pm_law_copies.proofs.GraphsLemmas.Sets.{once}
use Rattle.pm_copies.specs.Plans.{PlannedPage, chain_of}
use Rattle.pm_copies.specs.Cutting.{OnePage}
use Rattle.pm_saving.specs.Progress.{Place, Clean, Unwritten, Written, PlacedCar, Progress, catalog_left, catalog_of, image_of, paired, parts_of}
use Rattle.pm_saving.specs.Paging.{CarPage, NextPage, PartPage, Put, car_put, car_text, clean_page, clean_pages, first_unwritten, is_unwritten, kept_on, next_page, place_first, puts_of, text_of, unwritten, with_page}
use Rattle.pm_saving.specs.Beginning.{IsInProgress}
use Rattle.pm_law_saving.proofs.Standing.{part_put}
use Rattle.pm_law_saving.proofs.Next.{IsCarNext, IsPartNext, one_less, which_next}
use Rattle.pm_law_saving.proofs.Planned.{parts_count}

-- the numbers of pages that were written
abbrev pub places : List Put → List ℕ
places puts = map (λ (put : Put). put.0) puts

-- one page more was written, and no other
pub record HasOneMore (old new : List Put) (put : Put) : Type 0 where
  pub of : (one : Put) → Contains new one → (put ≡ one) ⊎ Contains old one
  pub times : (number : ℕ) → times number (places new) ≡ once (put.0 == number) + times number (places old)

pub times_both : (number : ℕ) (xs ys : List Put) → times number (places (xs ++ ys)) ≡ times number (places xs) + times number (places ys)
times_both number [] ys = omega arith
times_both number (x ∷ xs) ys = let rest = times_both number xs ys in omega (arith, rest)

more_first : (put : Put) (puts : List Put) → HasOneMore puts (put ∷ puts) put
more_first put puts = record { of = λ one within. first_or_rest put one puts within; times = λ number. refl }

more_behind : (front old new : List Put) (put : Put) → HasOneMore old new put → HasOneMore (front ++ old) (front ++ new) put
more_behind front old new put more = record {
  of = λ one within.
      ⊎_elim (λ here. inr (Contains-append_left front old one here))
      (λ there. ⊎_elim (λ same. inl same) (λ was. inr (Contains-append_right front old one was)) (more.of one there)) (Contains-append_cases front new one within);
  times = λ number. let a = times_both number front old in let b = times_both number front new in let c = more.times number in omega (arith, a, b, c);
}

more_before : (back old new : List Put) (put : Put) → HasOneMore old new put → HasOneMore (old ++ back) (new ++ back) put
more_before back old new put more = record {
  of = λ one within.
      ⊎_elim (λ here. ⊎_elim (λ same. inl same) (λ was. inr (Contains-append_left old back one was)) (more.of one here))
      (λ there. inr (Contains-append_right old back one there)) (Contains-append_cases new back one within);
  times = λ number. let a = times_both number old back in let b = times_both number new back in let c = more.times number in omega (arith, a, b, c);
}

-- ---- a car was written

abbrev pub written_cars : List PlacedCar → List Put
written_cars cars = flat_map (λ (one : PlacedCar). car_put one.place) cars

abbrev pub kept_cars : List PlacedCar → List ℕ
kept_cars cars = flat_map (λ (one : PlacedCar). clean_page one.place) cars

none_put : (place : Place) → is_unwritten place ≡ true → car_put place ≡ []
none_put (Clean kept) is = refl
none_put Unwritten is = refl
none_put (Written kept) is = absurd cc

none_clean : (place : Place) → is_unwritten place ≡ true → clean_page place ≡ []
none_clean (Clean kept) is = absurd cc
none_clean Unwritten is = refl
none_clean (Written kept) is = refl

cars_more : (kept : KeptPage) (cars : List PlacedCar) (one : PlacedCar) → first_unwritten cars ≡ Some one → HasOneMore (written_cars cars) (written_cars (place_first kept cars)) (kept.page, car_text kept.image)
cars_more kept [] one is = absurd cc
cars_more kept (first ∷ cars) one is = by (is_unwritten first.place) refl is (cars_more kept cars one)
  where
    by : (b : Bool) → is_unwritten first.place ≡ b → (if b then Some first else first_unwritten cars) ≡ Some one
        → (first_unwritten cars ≡ Some one → HasOneMore (written_cars cars) (written_cars (place_first kept cars)) (kept.page, car_text kept.image))
        → HasOneMore (car_put first.place ++ written_cars cars) (written_cars (if b then record first { place = Written kept } ∷ cars else first ∷ place_first kept cars)) (kept.page, car_text kept.image)
    by true here is rest =
        subst (λ (puts : List Put). HasOneMore (puts ++ written_cars cars) ((kept.page, car_text kept.image) ∷ written_cars cars) (kept.page, car_text kept.image)) (sym (none_put first.place here))
        (more_first (kept.page, car_text kept.image) (written_cars cars))
    by false here is rest = more_behind (car_put first.place) (written_cars cars) (written_cars (place_first kept cars)) (kept.page, car_text kept.image) (rest is)

clean_still : (kept : KeptPage) (cars : List PlacedCar) → kept_cars (place_first kept cars) ≡ kept_cars cars
clean_still kept [] = refl
clean_still kept (first ∷ cars) = by (is_unwritten first.place) refl (clean_still kept cars)
  where
    by : (b : Bool) → is_unwritten first.place ≡ b → kept_cars (place_first kept cars) ≡ kept_cars cars
        → kept_cars (if b then record first { place = Written kept } ∷ cars else first ∷ place_first kept cars) ≡ clean_page first.place ++ kept_cars cars
    by true here rest = ap (λ (pages : List ℕ). pages ++ kept_cars cars) (sym (none_clean first.place here))
    by false here rest = ap (λ (pages : List ℕ). clean_page first.place ++ pages) rest

-- what one page more changes
pub record IsOneMore (progress now : Progress) (put : Put) : Type 0 where
  pub puts : HasOneMore (puts_of progress) (puts_of now) put
  pub clean : clean_pages now ≡ clean_pages progress
  pub kept : now.kept ≡ true

-- the pages of the catalog that were written
abbrev pub written_parts : List PlannedPage → List Put
written_parts catalog = map part_put (chain_of catalog)

pub no_parts : (parts : List ℕ) (cut : List OnePage) → parts ≡ [] → written_parts (paired parts cut) ≡ []
no_parts parts cut none = ap (λ (parts : List ℕ). written_parts (paired parts cut)) none

car_more : (settled : List KeptPage) (cars : Cars) (progress : Progress) (page : ℕ) (one : PlacedCar) → IsInProgress settled cars progress → first_unwritten progress.cars ≡ Some one
    → IsOneMore progress (with_page page progress (CarPage (image_of cars one))) (page, car_text (image_of cars one))
car_more settled cars progress page one copy first =
    let kept = kept_on page (image_of cars one) in
    let now = with_page page progress (CarPage (image_of cars one)) in
    let put : Put = (page, car_text (image_of cars one)) in
    let less = one_less kept progress.cars one first in
    let none : progress.parts ≡ [] = nil_from_length progress.parts (no_length (length progress.parts) (λ some. let placed = copy.catalog.placed some in absurd (omega (arith, placed, less)))) in
    let was = no_parts progress.parts (drop (catalog_left progress) (parts_of progress)) none in
    let is = no_parts progress.parts (drop (catalog_left now) (parts_of now)) none in
    record {
      puts = subst (λ (parts : List Put). HasOneMore (puts_of progress) (written_cars now.cars ++ parts) put) (sym is)
          (subst (λ (parts : List Put). HasOneMore (written_cars progress.cars ++ parts) (written_cars now.cars ++ []) put) (sym was)
          (more_before [] (written_cars progress.cars) (written_cars now.cars) put (cars_more kept progress.cars one first)));
      clean = clean_still kept progress.cars;
      kept = refl;
    }
  where
    no_length : (n : ℕ) → (0 < n → ⊥) → n ≡ 0
    no_length zero none = refl
    no_length (suc n) none = absurd (none (omega arith))

-- ---- a page of the catalog was written

part_more : (settled : List KeptPage) (cars : Cars) (progress : Progress) (page before : ℕ) → IsInProgress settled cars progress → unwritten progress.cars ≡ 0 → catalog_left progress ≡ suc before
    → IsOneMore progress (with_page page progress (PartPage (slice_index_or (parts_of progress) before []))) (page, text_of progress (PartPage (slice_index_or (parts_of progress) before [])))
part_more settled cars progress page before copy placed some =
    let parts = parts_of progress in
    let entries : OnePage = slice_index_or parts before [] in
    let now = with_page page progress (PartPage entries) in
    let put : Put = (page, text_of progress (PartPage entries)) in
    let count = parts_count settled cars progress copy placed in
    let now_left : catalog_left now ≡ before = omega (arith, some) in
    let more : before + 1 ≡ catalog_left progress = omega (arith, some) in
    let same : written_parts (catalog_of now) ≡ put ∷ written_parts (catalog_of progress) =
    ap (λ (n : ℕ). written_parts (paired (page ∷ progress.parts) (drop n parts))) now_left
    ∙ at_drop_more (λ (cut : List OnePage). written_parts (paired (page ∷ progress.parts) cut)) parts before [] (omega (arith, some, count))
    ∙ ap (λ (n : ℕ). written_parts (record { page = page; entries = entries } ∷ paired progress.parts (drop n parts))) more in
    record {
      puts = subst (λ (written : List Put). HasOneMore (puts_of progress) (written_cars progress.cars ++ written) put) (sym same)
          (more_behind (written_cars progress.cars) (written_parts (catalog_of progress)) (put ∷ written_parts (catalog_of progress)) put (more_first put (written_parts (catalog_of progress))));
      clean = refl;
      kept = refl;
    }

pub next_more : (settled : List KeptPage) (cars : Cars) (progress : Progress) (next : NextPage) (page : ℕ) → IsInProgress settled cars progress → next_page cars progress ≡ Some next
    → IsOneMore progress (with_page page progress next) (page, text_of progress next)
next_more settled cars progress next page copy is =
    ⊎_elim
    (λ (car : IsCarNext cars progress next). subst (λ (next : NextPage). IsOneMore progress (with_page page progress next) (page, text_of progress next)) car.same (car_more settled cars progress page car.one copy car.first))
    (λ (part : IsPartNext progress next). subst (λ (next : NextPage). IsOneMore progress (with_page page progress next) (page, text_of progress next)) part.same
    (part_more settled cars progress page part.before copy part.placed part.some))
    (which_next cars progress next is)
