-- Once nothing of a copy is left, its pages hold it behind its header.
use Rattle.std.proofs.Common.{◌≡◌, ◌⊎◌, inl, inr, ⊎_elim, ℕ, zero, suc, ◌+◌, ◌<◌, ◌≤◌, ◌^◌, ◌==◌, Bool, true, false, List, [], ◌∷◌, ◌++◌, length, drop, map, Contains, Option, Some, refl, sym, ap, subst, ◌∙◌, arith, if◌then◌else◌}
use Rattle.std.specs.List.{AllByRecursion, flat_map}
use Rattle.std.proofs.lemmas.Bool.Decides.{nat_tests}
use Rattle.std.proofs.lemmas.List.Elements.{Contains-append_cases, Contains-append_right}
use Rattle.sha2.specs.Sha256.{sha256}
use Rattle.pm_types.specs.declared.limits.TheConstants.{FIELDS}
use Rattle.pm_model.proofs.Members.{at_first, first_or_rest, in_none}
use Rattle.pm_layout.specs.Headers.{HasHeaderSpelling}
use Rattle.pm_image.specs.declared.car.CarImage.{CarImage}
use Rattle.pm_image.specs.declared.catalog.CatalogPage.{CatalogPage}
use Rattle.pm_image.specs.declared.settled.KeptPage.{KeptPage}
use Rattle.pm_image.specs.CarAnswers.{AreBytes}
use Rattle.pm_image.specs.Opening.{page_count, page_of}
use Rattle.pm_image.proofs.FrameLaws.{graph_too}
use Rattle.pm_image.specs.Stands.{pages_of}
use Rattle.pm_shadow.specs.declared.page_use.PageUse.{PageUse}
use Rattle.pm_shadow.specs.declared.page_use.PageUse.TheVariants.{Free, Current, Claimed, Kept}
use Rattle.pm_shadow.specs.Uses.{is_next}
use Rattle.pm_shadow.specs.State.{State}
use Rattle.pm_shadow.specs.Copies.{IsNext}
use Rattle.pm_shadow.proofs.UsedLemmas.{graph_first}
use Rattle.pm_view.specs.View.{Cars}
use Rattle.pm_copies.specs.Listed.{Listed, copy_listed, images}
use Rattle.pm_copies.specs.Accepted.{Differ}
use Rattle.pm_copies.specs.Apart.{AreApart, times}
use Rattle.pm_law_copies.proofs.GraphsLemmas.Lists.{all_back}
use Rattle.pm_law_copies.proofs.GraphsLemmas.Sets.{once, times_append}
use Rattle.pm_copies.specs.Plans.{PlannedPage, chain_of, graph_of_plan, planned_cars, planned_entries, planned_list, planned_pages}
use Rattle.pm_copies.specs.Cutting.{IsCutInto, OnePage}
use Rattle.pm_copies.specs.Laid.{IsCarHeld, IsLaidBehind, IsCatalogFilled, IsPageHeld, IsStorePlan}
use Rattle.pm_law_copies.proofs.LayoutLemmas.Again.{laid_found}
use Rattle.pm_law_copies.proofs.LayoutLemmas.Keeping.{cars_held}
use Rattle.pm_law_copies.proofs.LayoutLemmas.Planned.{plan_copy, plan_pages}
use Rattle.pm_law_copies.proofs.LayoutLemmas.Sizes.{planned_cut}
use Rattle.pm_saving.specs.Progress.{Place, Clean, Unwritten, Written, PlacedCar, Progress, Saving, car_pages, catalog_of, image_of, in_list, list_of, page_in, paired, parts_of, plan_of, roots_of}
use Rattle.pm_saving.specs.Paging.{Put, car_put, car_text, clean_page, clean_pages, header_of, kept_pages, left, puts_of}
use Rattle.pm_saving.specs.Beginning.{StandsAs}
use Rattle.pm_saving.specs.Tied.{AreSettled, IsPut, IsTied, IsWhole}
use Rattle.pm_law_saving.proofs.Members.{all_map, apart_more, by_members, from_flat, from_map, in_map, is_member, of_member, only_member, stands_in}
use Rattle.pm_law_saving.proofs.Counting.{IsAllWritten, all_written}
use Rattle.pm_law_saving.proofs.Standing.{IsUnderWay, car_page_next, part_put, under_way, written_put}
use Rattle.pm_law_saving.proofs.Planned.{cars_paged, cars_same, copy_of_store, parts_count}
use Rattle.pm_law_saving.proofs.Growing.{kept_cars, places, times_both, written_cars, written_parts}
use Rattle.pm_law_saving.proofs.Begun.{keeps_spelled}

-- ---- the catalog

-- the numbers of pages of the catalog
abbrev page_numbers : List PlannedPage → List ℕ
page_numbers catalog = map (λ (listed : PlannedPage). listed.page) catalog

paired_parts : (pages : List ℕ) (parts : List OnePage) → length pages ≡ length parts → map (λ (listed : PlannedPage). listed.entries) (paired pages parts) ≡ parts
paired_parts [] [] same = refl
paired_parts [] (part ∷ parts) same = absurd (omega (arith, same))
paired_parts (page ∷ pages) [] same = absurd (omega (arith, same))
paired_parts (page ∷ pages) (part ∷ parts) same = ap (λ (rest : List OnePage). part ∷ rest) (paired_parts pages parts (omega (arith, same)))

chain_pages : (catalog : List PlannedPage) → places (written_parts catalog) ≡ page_numbers catalog
chain_pages [] = refl
chain_pages (listed ∷ catalog) = ap (λ (rest : List ℕ). listed.page ∷ rest) (chain_pages catalog)

-- ---- the pages of the plan, counted

cars_times : (number : ℕ) (cars : List PlacedCar) → times number (map (λ (kept : KeptPage). kept.page) (flat_map (λ (one : PlacedCar). page_in one.place) cars)) ≡ times number (kept_cars cars) + times number (places (written_cars cars))
cars_times number [] = refl
cars_times number (one ∷ cars) = by one.place (cars_times number cars)
  where
    by : (place : Place)
        → times number (map (λ (kept : KeptPage). kept.page) (flat_map (λ (one : PlacedCar). page_in one.place) cars)) ≡ times number (kept_cars cars) + times number (places (written_cars cars))
        → times number (map (λ (kept : KeptPage). kept.page) (page_in place ++ flat_map (λ (one : PlacedCar). page_in one.place) cars))
        ≡ times number (clean_page place ++ kept_cars cars) + times number (places (car_put place ++ written_cars cars))
    by (Clean kept) rest = omega (arith, rest)
    by Unwritten rest = rest
    by (Written kept) rest = omega (arith, rest)

plan_times : (number : ℕ) (progress : Progress) → times number (planned_pages (plan_of progress)) ≡ times number (clean_pages progress) + times number (places (puts_of progress))
plan_times number progress =
    let whole = times_append number (page_numbers (catalog_of progress)) (map (λ (kept : KeptPage). kept.page) (planned_cars (plan_of progress))) in
    let cars : times number (map (λ (kept : KeptPage). kept.page) (planned_cars (plan_of progress))) ≡ times number (clean_pages progress) + times number (places (written_cars progress.cars)) =
    ap (λ (cars : List KeptPage). times number (map (λ (kept : KeptPage). kept.page) cars)) (cars_paged progress.cars) ∙ cars_times number progress.cars in
    let puts = times_both number (written_cars progress.cars) (written_parts (catalog_of progress)) in
    let parts = ap (times number) (chain_pages (catalog_of progress)) in
    omega (arith, whole, cars, puts, parts)

-- ---- the pages of the clean cars are apart

-- where pages are apart two cars on one page are one
one_page : (settled : List KeptPage) (a b : KeptPage) → AreApart (map (λ (kept : KeptPage). kept.page) settled) → Contains settled a → Contains settled b → a.page ≡ b.page → a ≡ b
one_page [] a b apart in_a in_b same = absurd (in_none a in_a)
one_page (first ∷ others) a b apart in_a in_b same =
    by (first_or_rest first a others in_a) (first_or_rest first b others in_b) (λ in_a in_b. one_page others a b (λ number. let all = apart number in omega (arith, all)) in_a in_b same)
  where
    alone : (kept : KeptPage) → Contains others kept → first.page ≡ kept.page → ⊥
    alone kept within here =
        let all = apart kept.page in
        let self : (kept.page == kept.page) ≡ true = grind (arith, nat_tests) in
        let once_here : once (first.page == kept.page) ≡ 1 = ap (λ (n : ℕ). once (n == kept.page)) here ∙ ap once self in
        let there = stands_in kept.page (map (λ (kept : KeptPage). kept.page) others) (in_map (λ (kept : KeptPage). kept.page) others kept within) in
        omega (arith, all, once_here, there)

    by : (first ≡ a) ⊎ Contains others a → (first ≡ b) ⊎ Contains others b → (Contains others a → Contains others b → a ≡ b) → a ≡ b
    by (inl is_a) (inl is_b) rest = sym is_a ∙ is_b
    by (inl is_a) (inr there) rest = absurd (alone b there (ap (λ (kept : KeptPage). kept.page) is_a ∙ same))
    by (inr there) (inl is_b) rest = absurd (alone a there (ap (λ (kept : KeptPage). kept.page) is_b ∙ sym same))
    by (inr one) (inr two) rest = rest one two

-- the settled car whose page a clean car has
clean_of : (settled : List KeptPage) (image : CarImage) (place : Place) (page : ℕ) → StandsAs settled image place → Contains (clean_page place) page → (kept : KeptPage) × Contains settled kept × (kept.image ≡ image) × (kept.page ≡ page)
clean_of settled image (Clean kept) page stands within = (kept, stands.0, stands.1, only_member kept.page page within)
clean_of settled image Unwritten page stands within = absurd (in_none page within)
clean_of settled image (Written kept) page stands within = absurd (in_none page within)

module _ (settled : List KeptPage) (cars : Cars) (apart : AreApart (map (λ (kept : KeptPage). kept.page) settled)) where
  abbrev Stand : List PlacedCar → Type 0
  Stand placed = AllByRecursion (λ (one : PlacedCar). StandsAs settled (image_of cars one) one.place) placed

  others_apart : (one : PlacedCar) (placed : List PlacedCar) (page : ℕ) → StandsAs settled (image_of cars one) one.place → Stand placed → AllByRecursion (λ (other : CarImage). (other.number == one.number) ≡ false) (images (map (in_list cars) placed))
      → Contains (clean_page one.place) page → Contains (kept_cars placed) page → ⊥
  others_apart one placed page here stand differ within there =
      let from = from_flat (λ (one : PlacedCar). clean_page one.place) placed page there in
      let first = clean_of settled (image_of cars one) one.place page here within in
      let second = clean_of settled (image_of cars from.0) from.0.place page (of_member (λ (one : PlacedCar). StandsAs settled (image_of cars one) one.place) placed from.0 stand from.1) from.2 in
      let same = one_page settled first.0 second.0 apart first.1 second.1 (first.3 ∙ sym second.3) in
      let number : from.0.number ≡ one.number = ap (λ (car : CarImage). car.number) (sym second.2 ∙ ap (λ (kept : KeptPage). kept.image) (sym same) ∙ first.2) in
      let test : (from.0.number == one.number) ≡ true = grind (arith, nat_tests, number) in
      let other = of_member (λ (one_ : PlacedCar). (one_.number == one.number) ≡ false) placed from.0
      (all_map (λ (listed : Listed). (listed.1.number == one.number) ≡ false) (in_list cars) placed (all_map (λ (car : CarImage). (car.number == one.number) ≡ false) (λ (listed : Listed). listed.1) (map (in_list cars) placed) differ)) from.1 in
      absurd (cc (test, other))

  clean_apart : (placed : List PlacedCar) → Stand placed → Differ (images (map (in_list cars) placed)) → AreApart (kept_cars placed)
  clean_apart [] stand differ = λ number. omega arith
  clean_apart (one ∷ placed) stand differ = by one.place (others_apart one placed) stand.0 (clean_apart placed stand.1 differ.1) refl
    where
      by : (place : Place) → ((page : ℕ) → StandsAs settled (image_of cars one) one.place → Stand placed → AllByRecursion (λ (other : CarImage). (other.number == one.number) ≡ false) (images (map (in_list cars) placed))
          → Contains (clean_page one.place) page → Contains (kept_cars placed) page → ⊥) → StandsAs settled (image_of cars one) one.place → AreApart (kept_cars placed) → one.place ≡ place → AreApart (clean_page place ++ kept_cars placed)
      by (Clean kept) others here rest is =
          apart_more kept.page (kept_cars placed)
          (λ within. others kept.page here stand.1 differ.0 (subst (λ (place : Place). Contains (clean_page place) kept.page) (sym is) (at_first kept.page [])) within) rest
      by Unwritten others here rest is = rest
      by (Written kept) others here rest is = rest

-- ---- what a copy of which nothing is left has

claimed_or_kept : (u : PageUse) → is_next u ≡ true → (u ≡ Claimed) ⊎ (u ≡ Kept)
claimed_or_kept Free is = absurd cc
claimed_or_kept Current is = absurd cc
claimed_or_kept Claimed is = inl refl
claimed_or_kept Kept is = inr refl

module _ (saving : Saving) (cars : Cars) (s : State) (bytes : List ℕ) (progress : Progress) (tied : IsTied saving (Some cars) s (Some bytes)) (is : saving.progress ≡ Some progress) (none : left progress ≡ 0)
    (fits : AreBytes bytes) (counted : s.count ≤ page_count bytes) (few : s.count ≤ 2 ^ 64) where
  way : IsUnderWay saving cars s (Some bytes) progress
  way = under_way saving cars s (Some bytes) progress tied is

  all : IsAllWritten progress
  all = all_written progress way.copy.catalog none

  settled : AreSettled saving.settled s bytes
  settled = tied.current bytes refl

  grown : s.settled ≤ page_count bytes
  grown = let more = tied.grown in omega (arith, more, counted)

  kept_is : kept_pages progress ≡ clean_pages progress
  kept_is = ap (λ (b : Bool). if b then clean_pages progress else []) all.kept

  put_read : (put : Put) → Contains (puts_of progress) put → IsPut s (Some bytes) put
  put_read put within = of_member (IsPut s (Some bytes)) (puts_of progress) put way.pages.read within

  -- the pages of the settled cars
  settled_held : AllByRecursion (IsCarHeld (pages_of bytes)) saving.settled
  settled_held =
      subst (AllByRecursion (IsCarHeld (pages_of bytes))) settled.cars
      (cars_held (pages_of bytes) s.header settled.graph (keeps_spelled s bytes settled.graph fits grown settled.keeps))

  settled_pages : AreApart (map (λ (kept : KeptPage). kept.page) saving.settled)
  settled_pages =
      let spells = keeps_spelled s bytes settled.graph fits grown settled.keeps in
      subst (λ (cars : List KeptPage). AreApart (map (λ (kept : KeptPage). kept.page) cars)) settled.cars
      (λ number.
      let whole = times_append number (map (λ (page : ℕ × CatalogPage). page.0) settled.graph.catalog) (map (λ (kept : KeptPage). kept.page) settled.graph.cars) in
      let apart = spells.own_pages.apart number in
      omega (arith, whole, apart))

  settled_there : (kept : KeptPage) → Contains saving.settled kept → kept.page < s.count
  settled_there kept within =
      let used = Contains-append_right (map (λ (page : ℕ × CatalogPage). page.0) settled.graph.catalog) (map (λ (kept : KeptPage). kept.page) settled.graph.cars) kept.page
      (in_map (λ (kept : KeptPage). kept.page) settled.graph.cars kept (subst (λ (cars : List KeptPage). Contains cars kept) (sym settled.cars) within)) in
      let below = (settled.keeps.kept kept.page used).settled in
      let more = tied.grown in
      omega (arith, below, more)

  -- ---- each car is held on its page

  place_held : (image : CarImage) (place : Place) → StandsAs saving.settled image place → ((put : Put) → Contains (car_put place) put → IsPut s (Some bytes) put) → (kept : KeptPage) → Contains (page_in place) kept
      → IsCarHeld (pages_of bytes) kept × (kept.page < s.count)
  place_held image (Clean clean) stands read kept within =
      subst (λ (kept : KeptPage). IsCarHeld (pages_of bytes) kept × (kept.page < s.count)) (only_member clean kept within)
      (of_member (IsCarHeld (pages_of bytes)) saving.settled clean settled_held stands.0, settled_there clean stands.0)
  place_held image Unwritten stands read kept within = absurd (in_none kept within)
  place_held image (Written written) stands read kept within =
      let put = read (written.page, car_text written.image) (at_first {X = Put} (written.page, car_text written.image) []) in
      let reads = put.reads bytes refl in
      let image_is : written.image ≡ image = ap (λ (kept : KeptPage). kept.image) stands in
      let digest_is : written.digest ≡ sha256 (car_text image) = ap (λ (kept : KeptPage). kept.digest) stands in
      subst (λ (kept : KeptPage). IsCarHeld (pages_of bytes) kept × (kept.page < s.count)) (only_member written kept within)
      (record { spelled = reads; digest = ap sha256 reads ∙ ap (λ (image : CarImage). sha256 (car_text image)) image_is ∙ sym digest_is }, put.there)

  car_held : (kept : KeptPage) → Contains (car_pages progress) kept → IsCarHeld (pages_of bytes) kept × (kept.page < s.count)
  car_held kept within =
      let from = from_flat (λ (one : PlacedCar). page_in one.place) progress.cars kept within in
      place_held (image_of cars from.0) from.0.place (of_member (λ (one : PlacedCar). StandsAs saving.settled (image_of cars one) one.place) progress.cars from.0 way.copy.stand from.1)
      (λ put here. put_read put (written_put progress from.0 put from.1 here)) kept from.2

  planned_are : planned_cars (plan_of progress) ≡ car_pages progress
  planned_are = cars_paged progress.cars

  -- ---- the pages of the plan are those that were claimed or kept

  put_next : (page : ℕ) → Contains (places (puts_of progress)) page → IsNext s bytes page
  put_next page within =
      let from = from_map (λ (put : Put). put.0) (puts_of progress) page within in
      let claimed = of_member (λ (put : Put). s.uses put.0 ≡ Claimed) (puts_of progress) from.0 way.pages.written from.1 in
      let put = put_read from.0 from.1 in
      let below = put.there in
      subst (IsNext s bytes) from.2 (record { from_2 = put.from_2; there = omega (arith, below, counted); counted = below; next = ap is_next claimed })

  car_next : (kept : KeptPage) → Contains (car_pages progress) kept → IsNext s bytes kept.page
  car_next kept within =
      let its = car_page_next saving cars s (Some bytes) progress tied is none kept within in
      let below = (car_held kept within).1 in
      record { from_2 = its.from_2; there = omega (arith, below, counted); counted = below; next = its.next }

  page_next : (page : ℕ) → Contains (planned_pages (plan_of progress)) page → IsNext s bytes page
  page_next page within =
      ⊎_elim
      (λ (here : Contains (page_numbers (catalog_of progress)) page).
      let parts : List Put = written_parts (catalog_of progress) in
      let there : Contains (places parts) page = subst (λ (pages : List ℕ). Contains pages page) (sym (chain_pages (catalog_of progress))) here in
      let from = from_map (λ (put : Put). put.0) parts page there in
      put_next page (subst (Contains (places (puts_of progress))) from.2 (in_map (λ (put : Put). put.0) (puts_of progress) from.0 (Contains-append_right (written_cars progress.cars) parts from.0 from.1))))
      (λ (here : Contains (map (λ (kept : KeptPage). kept.page) (planned_cars (plan_of progress))) page).
      let from = from_map (λ (kept : KeptPage). kept.page) (planned_cars (plan_of progress)) page here in
      subst (IsNext s bytes) from.2 (car_next from.0 (subst (λ (cars : List KeptPage). Contains cars from.0) planned_are from.1)))
      (Contains-append_cases (page_numbers (catalog_of progress)) (map (λ (kept : KeptPage). kept.page) (planned_cars (plan_of progress))) page within)

  next_page_of : (page : ℕ) → is_next (s.uses page) ≡ true → Contains (planned_pages (plan_of progress)) page
  next_page_of page next =
      let count = plan_times page progress in
      ⊎_elim
      (λ (claimed : s.uses page ≡ Claimed). let stands = stands_in page (places (puts_of progress)) (way.pages.claimed page claimed) in is_member page (planned_pages (plan_of progress)) (omega (arith, count, stands)))
      (λ (kept : s.uses page ≡ Kept).
      let stands = stands_in page (clean_pages progress) (subst (λ (pages : List ℕ). Contains pages page) kept_is (way.pages.kept page kept)) in
      is_member page (planned_pages (plan_of progress)) (omega (arith, count, stands)))
      (claimed_or_kept (s.uses page) next)

  -- no page stands for two of them
  both_not : (number : ℕ) → 1 ≤ times number (clean_pages progress) → 1 ≤ times number (places (puts_of progress)) → ⊥
  both_not number clean put =
      let kept : s.uses number ≡ Kept = of_member (λ (page : ℕ). s.uses page ≡ Kept) (kept_pages progress) number way.pages.are_kept (subst (λ (pages : List ℕ). Contains pages number) (sym kept_is) (is_member number (clean_pages progress) clean)) in
      let from = from_map (λ (put : Put). put.0) (puts_of progress) number (is_member number (places (puts_of progress)) put) in
      let claimed : s.uses number ≡ Claimed = ap s.uses (sym from.2) ∙ of_member (λ (put : Put). s.uses put.0 ≡ Claimed) (puts_of progress) from.0 way.pages.written from.1 in
      absurd (cc (kept, claimed))

  plan_apart : AreApart (planned_pages (plan_of progress))
  plan_apart number =
      let count = plan_times number progress in
      let clean = clean_apart saving.settled cars settled_pages progress.cars way.copy.stand way.copy.accepted.differ number in
      let puts = way.pages.apart number in
      at_most (times number (clean_pages progress)) (times number (places (puts_of progress))) refl refl clean puts count
    where
      at_most : (a b : ℕ) → times number (clean_pages progress) ≡ a → times number (places (puts_of progress)) ≡ b → a ≤ 1 → b ≤ 1 → times number (planned_pages (plan_of progress)) ≡ a + b → times number (planned_pages (plan_of progress)) ≤ 1
      at_most zero b is_a is_b low_a low_b count = omega (arith, low_b, count)
      at_most (suc a) zero is_a is_b low_a low_b count = omega (arith, low_a, count)
      at_most (suc a) (suc b) is_a is_b low_a low_b count = absurd (both_not number (omega (arith, is_a)) (omega (arith, is_b)))

  -- ---- the plan is laid

  plan_store : IsStorePlan progress.next_id FIELDS (plan_of progress)
  plan_store = let store = copy_of_store saving.settled cars progress way.copy all.cars in record { accepted = store.accepted; fields = store.fields; in_range = record { names = store.in_range.names; cars = store.in_range.cars; trains = store.in_range.trains } }

  catalog_parts : map (λ (listed : PlannedPage). listed.entries) (catalog_of progress) ≡ parts_of progress
  catalog_parts =
      let count = parts_count saving.settled cars progress way.copy all.cars in
      let written = all.parts in
      ap (λ (n : ℕ). map (λ (listed : PlannedPage). listed.entries) (paired progress.parts (drop n (parts_of progress)))) all.catalog
      ∙ paired_parts progress.parts (parts_of progress) (written ∙ sym count)

  plan_listed : IsCatalogFilled (plan_of progress)
  plan_listed = subst (IsCutInto (planned_entries (plan_of progress))) (sym catalog_parts) (planned_cut progress.next_id FIELDS (plan_of progress) plan_store)

  -- It is laid on the pages that are counted: all that the copy stands on are among them.
  plan_laid : IsLaidBehind (record { count = s.count; page = page_of bytes }) (header_of progress) (plan_of progress)
  plan_laid = record {
    of_store = plan_store;
    listed = plan_listed;
    held = record {
      cars = subst (AllByRecursion (IsCarHeld (record { count = s.count; page = page_of bytes }))) (sym planned_are)
          (by_members (IsCarHeld (record { count = s.count; page = page_of bytes })) (car_pages progress) (λ kept within. let held = (car_held kept within).0 in record { spelled = held.spelled; digest = held.digest }));
      catalog = parts_held (chain_of (catalog_of progress)) (all_map (IsPut s (Some bytes)) part_put (chain_of (catalog_of progress)) (all_back (IsPut s (Some bytes)) (written_cars progress.cars) (written_parts (catalog_of progress)) way.pages.read));
      own_pages = record {
        within = by_members (λ (page : ℕ). (2 ≤ page) × (page < s.count)) (planned_pages (plan_of progress)) (λ page within. let next = page_next page within in (next.from_2, next.counted));
        apart = plan_apart;
      };
    };
    header_of = record { version = refl; first = refl; digest = refl };
  }
    where
      parts_held : (chain : List (ℕ × CatalogPage)) → AllByRecursion (λ (page : ℕ × CatalogPage). IsPut s (Some bytes) (part_put page)) chain → AllByRecursion (IsPageHeld (record { count = s.count; page = page_of bytes })) chain
      parts_held [] read = tt
      parts_held (page ∷ chain) read = (read.0.reads bytes refl, parts_held chain read.1)

  whole_laid : IsWhole s bytes cars progress
  whole_laid =
      let plan = plan_of progress in
      let used = plan_pages plan in
      let found = graph_too (record { count = s.count; page = page_of bytes }) (pages_of bytes) (header_of progress) (graph_of_plan plan)
      (laid_found (record { count = s.count; page = page_of bytes }) (header_of progress) plan few plan_laid)
      (λ page within. ((page_next page (subst (λ (pages : List ℕ). Contains pages page) used within)).there, refl)) in
      let same : planned_list plan ≡ list_of cars progress = cars_same saving.settled cars progress.cars way.copy.stand all.cars in
      record {
        graph = graph_of_plan plan;
        next = record {
          found = found;
          first = graph_first (pages_of bytes) (header_of progress) (graph_of_plan plan) found;
          next = λ page within. page_next page (subst (λ (pages : List ℕ). Contains pages page) used within);
          only = λ page next. subst (λ (pages : List ℕ). Contains pages page) (sym used) (next_page_of page next);
        };
        cars_are = planned_are;
        is_copy = sym (plan_copy plan progress.next_id plan_listed ∙ ap (λ (list : List Listed). copy_listed list (roots_of progress) progress.next_id) same);
      }

pub copy_whole : (saving : Saving) (cars : Cars) (s : State) (bytes : List ℕ) (progress : Progress) → IsTied saving (Some cars) s (Some bytes) → saving.progress ≡ Some progress → left progress ≡ 0
    → AreBytes bytes → s.count ≤ page_count bytes → s.count ≤ 2 ^ 64 → IsWhole s bytes cars progress
copy_whole = whole_laid

pub copy_header : (saving : Saving) (cars : Cars) (s : State) (contents : Option (List ℕ)) (progress : Progress) → IsTied saving (Some cars) s contents → saving.progress ≡ Some progress → left progress ≡ 0
    → HasHeaderSpelling (header_of progress) × (s.header.epoch < progress.number)
copy_header saving cars s contents progress tied is none =
    let way = under_way saving cars s contents progress tied is in
    let next = way.copy.accepted.next in
    let some = next.0 in
    (record { version = refl; some = omega (arith, some); last = next.1 }, way.later)
