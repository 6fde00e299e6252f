-- The entries of a catalog come one after the other exactly where they are in order and their pages apart.
use Rattle.std.proofs.Common.{◌≡◌, ℕ, zero, suc, ◌+◌, ◌<◌, ◌≤◌, Bool, true, false, not, ◌&&◌, nat_lt, nat_le, List, [], ◌∷◌, ◌++◌, length, Option, Some, None, refl, arith}
use Rattle.std.specs.List.{AllByRecursion}
use Rattle.std.specs.Option.{is_none}
use Rattle.std.specs.FinSet as set
use Rattle.std.proofs.lemmas.Bool.{ltb-true, leb-true}
use Rattle.std.proofs.lemmas.Bool.Decides.{nat_tests}
use Rattle.pm_types.specs.declared.address.Addr.{Addr}
use Rattle.pm_types.specs.declared.limits.TheConstants.{ROOTS}
use Rattle.pm_types.specs.Names.{IsName}
use Rattle.pm_image.specs.declared.catalog.CatEntry.{CatEntry}
use Rattle.pm_image.specs.declared.catalog.CatEntry.TheVariants.{Car, Root}
use Rattle.pm_image.specs.CarPages.{Numbers}
use Rattle.pm_image.specs.CatalogPages.{AreNext, Met, is_free_page, is_next_name, meeting, meeting_all, meeting_next}
use Rattle.pm_image.proofs.Results.{both_true}
use Rattle.pm_copies.specs.Apart.{Follow, Neighbours}
use Rattle.pm_copies.specs.Entries.{AreInOrder, CarsComeFirst, ComesBefore, IsNoYounger, listed_addresses, listed_cars, listed_names, listed_numbers, listed_pages, listed_trains}
use Rattle.pm_law_copies.proofs.GraphsLemmas.Sets.{AreNew, apart_new, new_apart, new_first, new_more, new_others, nothing_new}

-- ---- what was met, but for the pages

pub record Order : Type 0 where
  pub cars : Numbers
  pub train : ℕ
  pub name : Option (List ℕ)
  pub roots : ℕ

abbrev pub order_of : Met → Order
order_of met = record { cars = met.cars; train = met.train; name = met.name; roots = met.roots }

abbrev pub after : Order → CatEntry → Order
after order (Car car train page digest) = record order { cars = set.insert order.cars car; train = train }
after order (Root name at) = record order { name = Some name; roots = order.roots + 1 }

abbrev pub after_all : Order → List CatEntry → Order
after_all order [] = order
after_all order (entry ∷ entries) = after_all (after order entry) entries

pub record IsCarNext (order : Order) (car train : ℕ) : Type 0 where
  before_roots : is_none order.name ≡ true
  numbered : 0 < car
  other : set.contains order.cars car ≡ false
  in_order : order.train ≤ train

pub record IsRootNext (order : Order) (name : List ℕ) (at : Addr) : Type 0 where
  named : IsName name
  in_order : is_next_name order.name name ≡ true
  left : order.roots < ROOTS
  has_car : 0 < at.car

abbrev pub IsNext : Order → CatEntry → Type 0
IsNext order (Car car train page digest) = IsCarNext order car train
IsNext order (Root name at) = IsRootNext order name at

abbrev pub AreOrdered : Order → List CatEntry → Type 0
AreOrdered order [] = Unit {0}
AreOrdered order (entry ∷ entries) = IsNext order entry × AreOrdered (after order entry) entries

-- entries, one list after the other
pub ordered_both : (order : Order) (xs ys : List CatEntry) → AreOrdered order xs → AreOrdered (after_all order xs) ys → AreOrdered order (xs ++ ys)
ordered_both order [] ys one two = two
ordered_both order (x ∷ xs) ys one two = (one.0, ordered_both (after order x) xs ys one.1 two)

pub ordered_front : (order : Order) (xs ys : List CatEntry) → AreOrdered order (xs ++ ys) → AreOrdered order xs
ordered_front order [] ys all = tt
ordered_front order (x ∷ xs) ys all = (all.0, ordered_front (after order x) xs ys all.1)

pub ordered_back : (order : Order) (xs ys : List CatEntry) → AreOrdered order (xs ++ ys) → AreOrdered (after_all order xs) ys
ordered_back order [] ys all = all
ordered_back order (x ∷ xs) ys all = ordered_back (after order x) xs ys all.1

-- the order after what was met
pub order_met : (met : Met) (entries : List CatEntry) → order_of (meeting_all met entries) ≡ after_all (order_of met) entries
order_met met [] = refl
order_met met (Car car train page digest ∷ entries) = order_met (meeting met (Car car train page digest)) entries
order_met met (Root name at ∷ entries) = order_met (meeting met (Root name at)) entries

pub order_next : (met : Met) (next : ℕ) → order_of (meeting_next met next) ≡ order_of met
order_next met zero = refl
order_next met (suc next) = refl

-- ---- entries in order

-- no car comes after a root, of which some were met or none
abbrev CarsFirst : Option (List ℕ) → List CatEntry → Type 0
CarsFirst None entries = CarsComeFirst entries
CarsFirst (Some name) entries = listed_cars entries ≡ []

-- names ascend from the last that was met, if one was
abbrev NamesFollow : Option (List ℕ) → List (List ℕ) → Type 0
NamesFollow None names = Neighbours ComesBefore names
NamesFollow (Some name) names = Follow ComesBefore name names

record IsOrder (order : Order) (entries : List CatEntry) : Type 0 where
  cars_first : CarsFirst order.name entries
  numbered : AllByRecursion (λ (number : ℕ). 0 < number) (listed_numbers entries)
  numbers : AreNew order.cars (listed_numbers entries)
  trains : Follow IsNoYounger order.train (listed_trains entries)
  names : AllByRecursion IsName (listed_names entries)
  ascending : NamesFollow order.name (listed_names entries)
  few : order.roots + length (listed_names entries) ≤ ROOTS
  have_cars : AllByRecursion (λ (at : Addr). 0 < at.car) (listed_addresses entries)

no_names : (name : Option (List ℕ)) → NamesFollow name []
no_names None = tt
no_names (Some name) = tt

no_cars : (name : Option (List ℕ)) → CarsFirst name []
no_cars None = tt
no_cars (Some name) = refl

car_first : (name : Option (List ℕ)) (car train page : ℕ) (digest : List ℕ) (entries : List CatEntry) → is_none name ≡ true → CarsFirst name entries → CarsFirst name (Car car train page digest ∷ entries)
car_first None car train page digest entries none first = first
car_first (Some name) car train page digest entries none first = absurd cc

root_first : (before : Option (List ℕ)) (name : List ℕ) (at : Addr) (entries : List CatEntry) → listed_cars entries ≡ [] → CarsFirst before (Root name at ∷ entries)
root_first None name at entries none = none
root_first (Some before) name at entries none = none

name_first : (before : Option (List ℕ)) (name : List ℕ) (names : List (List ℕ)) → is_next_name before name ≡ true → Follow ComesBefore name names → NamesFollow before (name ∷ names)
name_first None name names is others = others
name_first (Some before) name names is others = (is, others)

-- entries that come one after the other are in order
order_found : (order : Order) (entries : List CatEntry) → order.roots ≤ ROOTS → AreOrdered order entries → IsOrder order entries
order_found order [] few ordered = record {
  cars_first = no_cars order.name;
  numbered = tt;
  numbers = nothing_new order.cars;
  trains = tt;
  names = tt;
  ascending = no_names order.name;
  few = omega arith;
  have_cars = tt;
}
order_found order (Car car train page digest ∷ entries) few ordered =
    let here = ordered.0 in
    let rest = order_found (after order (Car car train page digest)) entries few ordered.1 in
    record {
      cars_first = car_first order.name car train page digest entries here.before_roots rest.cars_first;
      numbered = (here.numbered, rest.numbered);
      numbers = new_more order.cars car (listed_numbers entries) here.other rest.numbers;
      trains = (here.in_order, rest.trains);
      names = rest.names;
      ascending = rest.ascending;
      few = rest.few;
      have_cars = rest.have_cars;
    }
order_found order (Root name at ∷ entries) few ordered =
    let here = ordered.0 in
    let left = here.left in
    let rest = order_found (after order (Root name at)) entries (omega arith) ordered.1 in
    let fewer = rest.few in
    record {
      cars_first = root_first order.name name at entries rest.cars_first;
      numbered = rest.numbered;
      numbers = rest.numbers;
      trains = rest.trains;
      names = (here.named, rest.names);
      ascending = name_first order.name name (listed_names entries) here.in_order rest.ascending;
      few = omega arith;
      have_cars = (here.has_car, rest.have_cars);
    }

car_parts : (name : Option (List ℕ)) (car train page : ℕ) (digest : List ℕ) (entries : List CatEntry) → CarsFirst name (Car car train page digest ∷ entries) → (is_none name ≡ true) × CarsFirst name entries
car_parts None car train page digest entries first = (refl, first)
car_parts (Some name) car train page digest entries first = absurd cc

root_parts : (before : Option (List ℕ)) (name : List ℕ) (at : Addr) (entries : List CatEntry) → CarsFirst before (Root name at ∷ entries) → listed_cars entries ≡ []
root_parts None name at entries first = first
root_parts (Some before) name at entries first = first

name_parts : (before : Option (List ℕ)) (name : List ℕ) (names : List (List ℕ)) → NamesFollow before (name ∷ names) → (is_next_name before name ≡ true) × Follow ComesBefore name names
name_parts None name names follow = (refl, follow)
name_parts (Some before) name names follow = follow

-- entries that are in order come one after the other
order_again : (order : Order) (entries : List CatEntry) → IsOrder order entries → AreOrdered order entries
order_again order [] is = tt
order_again order (Car car train page digest ∷ entries) is =
    let parts = car_parts order.name car train page digest entries is.cars_first in (
      record { before_roots = parts.0; numbered = is.numbered.0; other = new_first order.cars car (listed_numbers entries) is.numbers; in_order = is.trains.0 },
      order_again (after order (Car car train page digest)) entries (record {
        cars_first = parts.1;
        numbered = is.numbered.1;
        numbers = new_others order.cars car (listed_numbers entries) is.numbers;
        trains = is.trains.1;
        names = is.names;
        ascending = is.ascending;
        few = is.few;
        have_cars = is.have_cars;
      }),
    )
order_again order (Root name at ∷ entries) is =
    let few = is.few in
    let parts = name_parts order.name name (listed_names entries) is.ascending in (
      record { named = is.names.0; in_order = parts.0; left = omega arith; has_car = is.have_cars.0 },
      order_again (after order (Root name at)) entries (record {
        cars_first = root_parts order.name name at entries is.cars_first;
        numbered = is.numbered;
        numbers = is.numbers;
        trains = is.trains;
        names = is.names.1;
        ascending = parts.1;
        few = omega arith;
        have_cars = is.have_cars.1;
      }),
    )

-- nothing was met
abbrev pub beginning : Order
beginning = record { cars = set.empty; train = 0; name = None; roots = 0 }

trains_begin : (trains : List ℕ) → Follow IsNoYounger 0 trains → Neighbours IsNoYounger trains
trains_begin [] follow = tt
trains_begin (train ∷ trains) follow = follow.1

trains_again : (trains : List ℕ) → Neighbours IsNoYounger trains → Follow IsNoYounger 0 trains
trains_again [] follow = tt
trains_again (train ∷ trains) follow = (omega arith, follow)

-- the entries of a whole catalog
pub entries_in_order : (entries : List CatEntry) → AreOrdered beginning entries → AreInOrder entries
entries_in_order entries ordered =
    let is = order_found beginning entries (omega arith) ordered in
    let few = is.few in
    record {
      cars_first = is.cars_first;
      numbered = is.numbered;
      numbers_apart = new_apart (listed_numbers entries) is.numbers;
      trains = trains_begin (listed_trains entries) is.trains;
      names = is.names;
      ascending = is.ascending;
      few = omega arith;
      have_cars = is.have_cars;
    }

pub ordered_again : (entries : List CatEntry) → AreInOrder entries → AreOrdered beginning entries
ordered_again entries is =
    let few = is.few in
    order_again beginning entries (record {
      cars_first = is.cars_first;
      numbered = is.numbered;
      numbers = apart_new (listed_numbers entries) is.numbers_apart;
      trains = trains_again (listed_trains entries) is.trains;
      names = is.names;
      ascending = is.ascending;
      few = omega arith;
      have_cars = is.have_cars;
    })

-- ---- pages

abbrev pub IsPlaced : ℕ → ℕ → Type 0
IsPlaced count page = (2 ≤ page) × (page < count)

pub record IsPageFree (count : ℕ) (met : Numbers) (page : ℕ) : Type 0 where
  pub placed : IsPlaced count page
  pub other : set.contains met page ≡ false

pub page_free : (count : ℕ) (met : Numbers) (page : ℕ) → is_free_page (Some count) met page ≡ true → IsPageFree count met page
page_free count met page is =
    let one = both_true (nat_le 2 page) (nat_lt page count && not (set.contains met page)) is in
    let two = both_true (nat_lt page count) (not (set.contains met page)) one.1 in
    record { placed = (leb-true 2 page one.0, ltb-true page count two.0); other = untrue (set.contains met page) two.1 }
  where
    untrue : (b : Bool) → not b ≡ true → b ≡ false
    untrue true is = absurd cc
    untrue false is = refl

pub is_free : (count : ℕ) (met : Numbers) (page : ℕ) → IsPlaced count page → set.contains met page ≡ false → is_free_page (Some count) met page ≡ true
is_free count met page placed other = grind (arith, nat_tests, placed.0, placed.1, other)

-- entries that may come one after the other
pub next_ordered : (count : ℕ) (met : Met) (entries : List CatEntry) → AreNext (Some count) met entries → AreOrdered (order_of met) entries
next_ordered count met [] next = tt
next_ordered count met (Car car train page digest ∷ entries) next =
    let here = next.0 in
    (record { before_roots = here.before_roots; numbered = here.numbered; other = here.other; in_order = here.in_order }, next_ordered count (meeting met (Car car train page digest)) entries next.1)
next_ordered count met (Root name at ∷ entries) next =
    let here = next.0 in
    (record { named = here.named; in_order = here.in_order; left = ltb-true met.roots ROOTS here.left; has_car = here.has_car }, next_ordered count (meeting met (Root name at)) entries next.1)

pub next_placed : (count : ℕ) (met : Met) (entries : List CatEntry) → AreNext (Some count) met entries → AllByRecursion (IsPlaced count) (listed_pages entries)
next_placed count met [] next = tt
next_placed count met (Car car train page digest ∷ entries) next =
    ((page_free count met.pages page next.0.free).placed, next_placed count (meeting met (Car car train page digest)) entries next.1)
next_placed count met (Root name at ∷ entries) next = next_placed count (meeting met (Root name at)) entries next.1

pub next_new : (count : ℕ) (met : Met) (entries : List CatEntry) (rest : List ℕ) → AreNext (Some count) met entries → AreNew (meeting_all met entries).pages rest → AreNew met.pages (listed_pages entries ++ rest)
next_new count met [] rest next new = new
next_new count met (Car car train page digest ∷ entries) rest next new =
    new_more met.pages page (listed_pages entries ++ rest) (page_free count met.pages page next.0.free).other (next_new count (meeting met (Car car train page digest)) entries rest next.1 new)
next_new count met (Root name at ∷ entries) rest next new = next_new count (meeting met (Root name at)) entries rest next.1 new

-- and back
pub record AreNextStill (count : ℕ) (met : Met) (entries : List CatEntry) (rest : List ℕ) : Type 0 where
  pub next : AreNext (Some count) met entries
  pub new : AreNew (meeting_all met entries).pages rest

root_left : (roots : ℕ) → roots < ROOTS → nat_lt roots ROOTS ≡ true
root_left roots lt = grind (arith, nat_tests)

pub entries_next : (count : ℕ) (met : Met) (entries : List CatEntry) (rest : List ℕ) → AreOrdered (order_of met) entries → AllByRecursion (IsPlaced count) (listed_pages entries) → AreNew met.pages (listed_pages entries ++ rest) → AreNextStill count met entries rest
entries_next count met [] rest ordered placed new = record { next = tt; new = new }
entries_next count met (Car car train page digest ∷ entries) rest ordered placed new =
    let here = ordered.0 in
    let others = entries_next count (meeting met (Car car train page digest)) entries rest ordered.1 placed.1 (new_others met.pages page (listed_pages entries ++ rest) new) in
    let free = is_free count met.pages page placed.0 (new_first met.pages page (listed_pages entries ++ rest) new) in
    record {
      next = (record { before_roots = here.before_roots; numbered = here.numbered; other = here.other; in_order = here.in_order; free = free }, others.next);
      new = others.new;
    }
entries_next count met (Root name at ∷ entries) rest ordered placed new =
    let here = ordered.0 in
    let others = entries_next count (meeting met (Root name at)) entries rest ordered.1 placed new in
    record {
      next = (record { named = here.named; in_order = here.in_order; left = root_left met.roots here.left; has_car = here.has_car }, others.next);
      new = others.new;
    }
