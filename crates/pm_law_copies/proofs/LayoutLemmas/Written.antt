-- The pages of a plan may be written, each by itself.
use Rattle.std.proofs.Common.{◌≡◌, ℕ, zero, suc, ◌<◌, ◌≤◌, ◌==◌, Bool, true, false, not, ◌||◌, List, [], ◌∷◌, ◌++◌, map, Option, None, refl, sym, ap, subst, ◌∙◌, arith}
use Rattle.std.specs.List.{list_all, AllByRecursion}
use Rattle.std.specs.Option.{is_none}
use Rattle.std.specs.Ordering.{nat_cmp, eq_by_cmp}
use Rattle.std.specs.Cmp.{nat_cmp_total}
use Rattle.std.specs.FinSet as set
use Rattle.std.proofs.lemmas.Bool.Decides.{nat_tests}
use Rattle.pm_types.specs.declared.limits.TheConstants.{FIELDS}
use Rattle.pm_types.specs.Names.{IsName}
use Rattle.pm_model.proofs.Unused.{tied_nat}
use Rattle.pm_layout.specs.declared.header.Header.{Header}
use Rattle.pm_layout.specs.Headers.{HasHeaderSpelling}
use Rattle.pm_image.specs.declared.car.CarImage.{CarImage}
use Rattle.pm_image.specs.declared.catalog.CatEntry.{CatEntry}
use Rattle.pm_image.specs.declared.catalog.CatEntry.TheVariants.{Car, Root}
use Rattle.pm_image.specs.declared.catalog.CatalogPage.{CatalogPage}
use Rattle.pm_image.specs.declared.settled.KeptPage.{KeptPage}
use Rattle.pm_image.specs.CarPages.{HasCarPage, Numbers, one_car}
use Rattle.pm_image.specs.CatalogPages.{AreNext, HasCatalogPage, IsNextEntry, Met, has_next_digest, is_next_name, meeting, meeting_all, meeting_next, nothing_met}
use Rattle.pm_copies.specs.Listed.{images}
use Rattle.pm_copies.specs.Accepted.{Differ, IsAcceptedCar, NamesAscend, NeverFall}
use Rattle.pm_law_copies.proofs.Pages.{are_written}
use Rattle.pm_copies.specs.Plans.{CarInTrain, CarPlan, PlannedPage, car_entry, cars_in, chain_of, digest_of, first_of, in_list, planned_cars, planned_entries, planned_list, planned_roots, root_entry}
use Rattle.pm_copies.specs.Cutting.{Fit, OnePage, cut, joined}
use Rattle.pm_copies.specs.Laid.{IsPlanHeader, IsCatalogFilled, IsStorePlan}
use Rattle.pm_copies.specs.Writing.{MayBeWritten}
use Rattle.pm_law_copies.proofs.LayoutLemmas.Planned.{kept_of, parts_of, places_of}
use Rattle.pm_law_copies.proofs.LayoutLemmas.Cutting.{one_cut}
use Rattle.pm_law_copies.proofs.LayoutLemmas.Sizes.{planned_cut}
use Rattle.pm_law_copies.proofs.LayoutLemmas.InOrder.{IsFound, Named, entries_for, plan_roots}

-- ---- cars

cars_alone : (cars : List CarInTrain) → AllByRecursion (HasCarPage (one_car FIELDS) set.empty) (images (map in_list cars)) → AllByRecursion (λ (kept : KeptPage). HasCarPage (one_car FIELDS) set.empty kept.image) (kept_of cars)
cars_alone [] all = tt
cars_alone (car ∷ cars) all = (all.0, cars_alone cars all.1)

pub plan_cars : (next most : ℕ) (plan : CarPlan) → IsStorePlan next most plan → AllByRecursion (λ (kept : KeptPage). HasCarPage (one_car FIELDS) set.empty kept.image) (planned_cars plan)
plan_cars next most plan is = cars_alone (cars_in plan) (are_written (planned_list plan) (planned_roots plan) next is.accepted)

-- ---- entries, one after the other

-- these cars were not met
abbrev AreOthers : Numbers → List CarImage → Type 0
AreOthers met cars = AllByRecursion (λ (car : CarImage). set.contains met car.number ≡ false) cars

others_more : (met : Numbers) (number : ℕ) (cars : List CarImage) → AreOthers met cars → AllByRecursion (λ (other : CarImage). (other.number == number) ≡ false) cars → AreOthers (set.insert met number) cars
others_more met number [] others differ = tt
others_more met number (car ∷ cars) others differ =
    (set.contains-insert nat_cmp_total met number car.number ∙ ap (λ (b : Bool). b || set.contains met car.number) (tied_nat car.number number ∙ differ.0) ∙ others.0, others_more met number cars others.1 differ.1)

none_met : (cars : List CarImage) → AreOthers set.empty cars
none_met [] = tt
none_met (car ∷ cars) = (set.contains-empty nat_cmp car.number, none_met cars)

next_roots : (met : Met) (roots : List Named) → AllByRecursion (λ (root : Named). IsFound root.1) roots → AllByRecursion (λ (root : Named). IsName root.0) roots → NamesAscend met.name (map root_entry roots) → AreNext None met (map root_entry roots)
next_roots met [] found names ascend = tt
next_roots met (root ∷ roots) found names ascend =
    (record { named = names.0; in_order = ascend.0; left = refl; has_car = found.0.from_one }, next_roots (meeting met (root_entry root)) roots found.1 names.1 ascend.1)

next_cars : (met : Met) (cars : List CarInTrain) (roots : List Named) → ((met : Met) → met.name ≡ None → AreNext None met (map root_entry roots)) → met.name ≡ None
    → AllByRecursion IsAcceptedCar (images (map in_list cars)) → AreOthers met.cars (images (map in_list cars)) → Differ (images (map in_list cars)) → NeverFall met.train (map in_list cars) → AreNext None met (entries_for cars roots)
next_cars met [] roots rest none accepted others differ fall = rest met none
next_cars met (car ∷ cars) roots rest none accepted others differ fall = (
  record { before_roots = ap is_none none; numbered = accepted.0.from_one; other = others.0; in_order = fall.0; free = refl },
  next_cars (meeting met (car_entry car)) cars roots rest none accepted.1 (others_more met.cars car.1.image.number (images (map in_list cars)) others.1 differ.0) differ.1 fall.1,
)

plan_next : (next most : ℕ) (plan : CarPlan) → IsStorePlan next most plan → AreNext None nothing_met (planned_entries plan)
plan_next next most plan is =
    let accepted = is.accepted in
    let cars = cars_in plan in
    next_cars nothing_met cars plan.roots
    (λ (met : Met) none. next_roots met plan.roots (plan_roots next most plan is) is.in_range.names (subst (λ (name : Option (List ℕ)). NamesAscend name (planned_roots plan)) (sym none) accepted.names))
    refl accepted.cars (none_met (images (map in_list cars))) accepted.differ accepted.trains

-- ---- each page by itself

next_first : (met : Met) (entries others : List CatEntry) → AreNext None met (entries ++ others) → AreNext None met entries
next_first met [] others next = tt
next_first met (entry ∷ entries) others next = (next.0, next_first (meeting met entry) entries others next.1)

next_others : (met : Met) (entries others : List CatEntry) → AreNext None met (entries ++ others) → AreNext None (meeting_all met entries) others
next_others met [] others next = next
next_others met (entry ∷ entries) others next = next_others (meeting met entry) entries others next.1

-- no more was met in the first case than in the second one
record NoMore (small big : Met) : Type 0 where
  cars : (car : ℕ) → set.contains big.cars car ≡ false → set.contains small.cars car ≡ false
  train : small.train ≤ big.train
  none : is_none big.name ≡ true → is_none small.name ≡ true
  name : (name : List ℕ) → is_next_name big.name name ≡ true → is_next_name small.name name ≡ true

or_false : (a b : Bool) → (a || b) ≡ false → (a ≡ false) × (b ≡ false)
or_false false b is = (refl, is)
or_false true b is = absurd cc

cars_more : (small big : Met) (number car : ℕ) → NoMore small big → set.contains (set.insert big.cars number) car ≡ false → set.contains (set.insert small.cars number) car ≡ false
cars_more small big number car less is =
    let parts = or_false (eq_by_cmp nat_cmp car number) (set.contains big.cars car) (sym (set.contains-insert nat_cmp_total big.cars number car) ∙ is) in
    set.contains-insert nat_cmp_total small.cars number car ∙ ap (λ (b : Bool). b || set.contains small.cars car) parts.0 ∙ less.cars car parts.1

less_after : (small big : Met) (entry : CatEntry) → NoMore small big → NoMore (meeting small entry) (meeting big entry)
less_after small big (Car number train page digest) less = record { cars = λ car is. cars_more small big number car less is; train = omega arith; none = less.none; name = less.name }
less_after small big (Root name at) less = record { cars = less.cars; train = less.train; none = λ is. is; name = λ next is. is }

one_less : (small big : Met) (entry : CatEntry) → NoMore small big → IsNextEntry None big entry → IsNextEntry None small entry
one_less small big (Car number train page digest) less is =
    record { before_roots = less.none is.before_roots; numbered = is.numbered; other = less.cars number is.other; in_order = (let one = less.train in let two = is.in_order in omega arith); free = refl }
one_less small big (Root name at) less is = record { named = is.named; in_order = less.name name is.in_order; left = refl; has_car = is.has_car }

all_less : (small big : Met) (entries : List CatEntry) → NoMore small big → AreNext None big entries → AreNext None small entries
all_less small big [] less are = tt
all_less small big (entry ∷ entries) less are = (one_less small big entry less are.0, all_less (meeting small entry) (meeting big entry) entries (less_after small big entry less) are.1)

no_less : (next : ℕ) (met : Met) → NoMore (meeting_next nothing_met next) met
no_less zero met = record { cars = λ car is. set.contains-empty nat_cmp car; train = omega arith; none = λ is. refl; name = λ name is. refl }
no_less (suc next) met = record { cars = λ car is. set.contains-empty nat_cmp car; train = omega arith; none = λ is. refl; name = λ name is. refl }

or_true : (b : Bool) → (b || true) ≡ true
or_true true = refl
or_true false = refl

parts_written : (met : Met) (parts : List OnePage) → AllByRecursion Fit parts → AreNext None met (joined parts) → AllByRecursion MayBeWritten parts
parts_written met [] fit are = tt
parts_written met (part ∷ parts) fit are = (
  λ next digest link. record {
    fits = fit.0;
    next = or_true (next == 0);
    next_digest = link;
    entries = all_less (meeting_next nothing_met next) met part (no_less next met) (next_first met part (joined parts) are);
  },
  parts_written (meeting_all met part) parts fit.1 (next_others met part (joined parts) are),
)

pub plan_parts : (next most : ℕ) (plan : CarPlan) → IsStorePlan next most plan → AllByRecursion MayBeWritten (cut (planned_entries plan))
plan_parts next most plan is =
    let made = planned_cut next most plan is in
    parts_written nothing_met (cut (planned_entries plan)) made.fit (subst (AreNext None nothing_met) (sym made.whole) (plan_next next most plan is))

-- ---- the chain

link_found : (catalog : List PlannedPage) → AllByRecursion (λ (page : ℕ). 0 < page) (places_of catalog) → has_next_digest (first_of (chain_of catalog)) (digest_of (chain_of catalog)) ≡ true
link_found [] some = refl
link_found (first ∷ catalog) some = ap (λ (b : Bool). not b || list_all (λ byte. byte == 0) (digest_of (chain_of (first ∷ catalog)))) (not_none first.page some.0)
  where
    not_none : (page : ℕ) → 0 < page → (page == 0) ≡ false
    not_none page some = grind (arith, nat_tests, some)

chain_written : (catalog : List PlannedPage) → AllByRecursion MayBeWritten (parts_of catalog) → AllByRecursion (λ (page : ℕ). 0 < page) (places_of catalog) → AllByRecursion (λ (page : ℕ × CatalogPage). HasCatalogPage None nothing_met page.1) (chain_of catalog)
chain_written [] may some = tt
chain_written (first ∷ catalog) may some = (may.0 (first_of (chain_of catalog)) (digest_of (chain_of catalog)) (link_found catalog some.1), chain_written catalog may.1 some.1)

pub plan_catalog : (next most : ℕ) (plan : CarPlan) → IsStorePlan next most plan → IsCatalogFilled plan → AllByRecursion (λ (page : ℕ). 0 < page) (places_of plan.catalog)
    → AllByRecursion (λ (page : ℕ × CatalogPage). HasCatalogPage None nothing_met page.1) (chain_of plan.catalog)
plan_catalog next most plan is listed some =
    chain_written plan.catalog (subst (AllByRecursion MayBeWritten) (sym (one_cut (planned_entries plan) (parts_of plan.catalog) listed)) (plan_parts next most plan is)) some

-- ---- the header

pub plan_header : (most : ℕ) (header : Header) (plan : CarPlan) → IsStorePlan header.next most plan → IsPlanHeader plan header → HasHeaderSpelling header
plan_header most header plan is heads =
    let next = is.accepted.next in
    let some = next.0 in
    record { version = heads.version; some = omega (arith, some); last = next.1 }
