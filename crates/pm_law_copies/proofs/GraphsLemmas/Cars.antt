-- The cars that a catalog lists are read exactly where their pages spell them.
use Rattle.std.proofs.Common.{◌≡◌, ℕ, ◌<◌, ◌≤◌, Bool, true, false, ◌==◌, ◌||◌, eqb, leb, List, [], ◌∷◌, ◌++◌, map, Some, Result, Ok, Err, refl, sym, ap, subst, ◌∙◌, arith, if◌then◌else◌}
use Rattle.std.specs.List.{AllByRecursion}
use Rattle.std.specs.Str.{bytes_eq}
use Rattle.std.specs.FinSet as set
use Rattle.std.proofs.lemmas.Bool.{eqb-true, leb-false}
use Rattle.std.proofs.lemmas.Bool.Decides.{nat_tests}
use Rattle.std.proofs.lemmas.Slice.Eq.{bytes_eq-Decides}
use Rattle.sha2.specs.Sha256.{sha256}
use Rattle.pm_types.specs.declared.fault.OpenFault.TheVariants.{Damaged}
use Rattle.pm_types.specs.declared.object.Slot.{Slot}
use Rattle.pm_types.specs.declared.object.Slot.TheVariants.{Live, Moved}
use Rattle.pm_layout.proofs.Steps.{neither, not_zero}
use Rattle.pm_types.proofs.Results.{bind_ok, bound, ok_same, wanted_ok}
use Rattle.pm_image.specs.declared.car.CarImage.{CarImage}
use Rattle.pm_image.specs.declared.catalog.CatEntry.{CatEntry}
use Rattle.pm_image.specs.declared.catalog.CatEntry.TheVariants.{Car, Root}
use Rattle.pm_image.specs.declared.settled.KeptPage.{KeptPage}
use Rattle.pm_image.specs.CarPages.{AreFree, CarScope, HasCarPage, Numbers, car_at, car_spelling, is_taken, padded}
use Rattle.pm_image.specs.CarAnswers.{IsCarInRange, a_car}
use Rattle.pm_image.specs.Graphs.{Pages, cars_from, on_page, undamaged, with_identities}
use Rattle.pm_image.proofs.CarTakes.{car_takes}
use Rattle.pm_image.proofs.CarAgain.{car_again}
use Rattle.pm_copies.specs.Entries.{ListedCar, listed_cars, listed_pages}
use Rattle.pm_copies.specs.Spelled.{AreWhole, IsCarSpelled, identities_in, identities_of, listed_as}
use Rattle.pm_law_copies.proofs.GraphsLemmas.Lists.{all_both, all_front, all_back}
use Rattle.pm_law_copies.proofs.GraphsLemmas.Ranges.{car_range}
use Rattle.pm_law_copies.proofs.GraphsLemmas.Sets.{AreNew, new_more, new_first, new_others, nothing_new}

-- ---- identities

abbrev pub IsBelow : ℕ → ℕ → Type 0
IsBelow next id = (1 ≤ id) × (id < next)

record IsUntaken (next : ℕ) (met : Numbers) (id : ℕ) : Type 0 where
  below : IsBelow next id
  other : set.contains met id ≡ false

untaken : (next : ℕ) (met : Numbers) (id : ℕ) → is_taken next met id ≡ false → IsUntaken next met id
untaken next met id is =
    let one = neither (eqb id 0) (leb next id || set.contains met id) is in
    let two = neither (leb next id) (set.contains met id) one.1 in
    record { below = (not_zero id one.0, leb-false next id two.0); other = two.1 }

taken_not : (next : ℕ) (met : Numbers) (id : ℕ) → IsBelow next id → set.contains met id ≡ false → is_taken next met id ≡ false
taken_not next met id below other = grind (arith, nat_tests, below.0, below.1, other)

-- the identities of slots that are free differ from those met before, and from each other
free_new : (next : ℕ) (met : Numbers) (slots : List (ℕ × Slot)) (rest : List ℕ) → AreFree next met slots → AreNew (with_identities met slots) rest → AreNew met (identities_in slots ++ rest)
free_new next met [] rest free new = new
free_new next met ((number, Live object) ∷ slots) rest free new =
    new_more met object.id (identities_in slots ++ rest) (untaken next met object.id free.0).other (free_new next (set.insert met object.id) slots rest free.1 new)
free_new next met ((number, Moved to) ∷ slots) rest free new = free_new next met slots rest free new

free_below : (next : ℕ) (met : Numbers) (slots : List (ℕ × Slot)) → AreFree next met slots → AllByRecursion (IsBelow next) (identities_in slots)
free_below next met [] free = tt
free_below next met ((number, Live object) ∷ slots) free = ((untaken next met object.id free.0).below, free_below next (set.insert met object.id) slots free.1)
free_below next met ((number, Moved to) ∷ slots) free = free_below next met slots free

record AreFreeStill (next : ℕ) (met : Numbers) (slots : List (ℕ × Slot)) (rest : List ℕ) : Type 0 where
  free : AreFree next met slots
  new : AreNew (with_identities met slots) rest

free_again : (next : ℕ) (met : Numbers) (slots : List (ℕ × Slot)) (rest : List ℕ) → AllByRecursion (IsBelow next) (identities_in slots) → AreNew met (identities_in slots ++ rest) → AreFreeStill next met slots rest
free_again next met [] rest below new = record { free = tt; new = new }
free_again next met ((number, Live object) ∷ slots) rest below new =
    let others = free_again next (set.insert met object.id) slots rest below.1 (new_others met object.id (identities_in slots ++ rest) new) in
    record { free = (taken_not next met object.id below.0 (new_first met object.id (identities_in slots ++ rest) new), others.free); new = others.new }
free_again next met ((number, Moved to) ∷ slots) rest below new =
    let others = free_again next met slots rest below new in
    record { free = others.free; new = others.new }

-- ---- cars that were read one after the other

-- the page of a car was read, these identities being met before
pub record IsCarRead (most next : ℕ) (pages : Pages) (met : Numbers) (kept : KeptPage) : Type 0 where
  pub digest : sha256 (pages.page kept.page) ≡ kept.digest
  pub spelled : pages.page kept.page ≡ padded (car_spelling kept.image)
  pub has : HasCarPage (a_car most next (Some kept.image.number)) met kept.image
  pub range : IsCarInRange kept.image

abbrev pub AreCarsRead : ℕ → ℕ → Pages → Numbers → List KeptPage → Type 0
AreCarsRead most next pages met [] = Unit {0}
AreCarsRead most next pages met (kept ∷ cars) = IsCarRead most next pages met kept × AreCarsRead most next pages (with_identities met kept.image.slots) cars

-- the page has the digest that is kept
pub kept_digest : (pages : Pages) (page : ℕ) (kept : List ℕ) (u : Unit {0}) → undamaged pages page kept ≡ Ok u → sha256 (pages.page page) ≡ kept
kept_digest pages page kept u is =
    let found = sha256 (pages.page page) in
    sym ((bytes_eq-Decides kept found).0 (wanted_ok (bytes_eq kept found) (Damaged page kept found) (Ok tt) u is).0)

pub undamaged_again : (pages : Pages) (page : ℕ) (kept : List ℕ) → sha256 (pages.page page) ≡ kept → undamaged pages page kept ≡ Ok tt
undamaged_again pages page kept is =
    let found = sha256 (pages.page page) in
    ap (λ (b : Bool). if b then Ok tt else Err (Damaged page kept found)) ((bytes_eq-Decides kept found).1 (sym is))

pub page_read : {A : Type 0} (page : ℕ) (read : Result A ℕ) (x : A) → on_page page read ≡ Ok x → read ≡ Ok x
page_read page (Ok y) x is = ap Ok (ok_same y x is)
page_read page (Err at) x is = absurd cc

record AreListed (most next : ℕ) (pages : Pages) (met : Numbers) (entries : List CatEntry) (cars : List KeptPage) : Type 0 where
  listed : map listed_as cars ≡ listed_cars entries
  read : AreCarsRead most next pages met cars

one_read : (most next : ℕ) (pages : Pages) (met : Numbers) (car page : ℕ) (digest : List ℕ) (image : CarImage) → AreWhole pages → page < pages.count → sha256 (pages.page page) ≡ digest → car_at (record { most = most; next = next; number = Some car }) met (pages.page page) ≡ Ok image
    → IsCarRead most next pages met (record { image = image; page = page; digest = digest })
one_read most next pages met car page digest image whole there kept read =
    let bytes = whole page there in
    let taken = car_takes (a_car most next (Some car)) met (pages.page page) image bytes.0 bytes.1 read in
    let has = taken.has in
    record {
      digest = kept;
      spelled = taken.spelled;
      has = record { fits = has.fits; ascend = has.ascend; free = has.free; slots = has.slots };
      range = car_range (a_car most next (Some car)) met (pages.page page) image bytes.1 read;
    }

one_named : (most next : ℕ) (pages : Pages) (met : Numbers) (car page : ℕ) (image : CarImage) → AreWhole pages → page < pages.count → car_at (record { most = most; next = next; number = Some car }) met (pages.page page) ≡ Ok image → image.number ≡ car
one_named most next pages met car page image whole there read =
    let bytes = whole page there in
    eqb-true image.number car (car_takes (a_car most next (Some car)) met (pages.page page) image bytes.0 bytes.1 read).named

cars_listed : (most next : ℕ) (pages : Pages) (met : Numbers) (entries : List CatEntry) (cars : List KeptPage) → AreWhole pages → AllByRecursion (λ (page : ℕ). page < pages.count) (listed_pages entries)
    → cars_from most next pages met entries ≡ Ok cars → AreListed most next pages met entries cars
unfolding cars_from
cars_listed most next pages met [] cars whole there is =
    subst (AreListed most next pages met []) (ok_same [] cars is) (record { listed = refl; read = tt })
cars_listed most next pages met (Root name at ∷ entries) cars whole there is =
    let rest = cars_listed most next pages met entries cars whole there is in
    record { listed = rest.listed; read = rest.read }
cars_listed most next pages met (Car car train page digest ∷ entries) cars whole there is =
    let scope : CarScope = record { most = most; next = next; number = Some car } in
    let one = bind_ok (undamaged pages page digest) _ cars is in
    let two = bind_ok (on_page page (car_at scope met (pages.page page))) _ cars one.2 in
    let image = two.0 in
    let three = bind_ok (cars_from most next pages (with_identities met image.slots) entries) _ cars two.2 in
    let read = page_read page (car_at scope met (pages.page page)) image two.1 in
    let first : KeptPage = record { image = image; page = page; digest = digest } in
    let rest = cars_listed most next pages (with_identities met image.slots) entries three.0 whole there.1 three.1 in
    let made : AreListed most next pages met (Car car train page digest ∷ entries) (first ∷ three.0) = record {
      listed = ap (λ (number : ℕ). record { number = number; page = page; digest = digest } ∷ map listed_as three.0) (one_named most next pages met car page image whole there.0 read)
          ∙ ap (λ (others : List ListedCar). record { number = car; page = page; digest = digest } ∷ others) rest.listed;
      read = (one_read most next pages met car page digest image whole there.0 (kept_digest pages page digest one.0 one.1) read, rest.read);
    } in
    subst (AreListed most next pages met (Car car train page digest ∷ entries)) (ok_same {A = List KeptPage} (first ∷ three.0) cars three.2) made

-- the cars that were read are those that are listed
pub cars_found : (most next : ℕ) (pages : Pages) (met : Numbers) (entries : List CatEntry) (cars : List KeptPage) → AreWhole pages → AllByRecursion (λ (page : ℕ). page < pages.count) (listed_pages entries)
    → cars_from most next pages met entries ≡ Ok cars → (map listed_as cars ≡ listed_cars entries) × AreCarsRead most next pages met cars
cars_found most next pages met entries cars whole there is = let found = cars_listed most next pages met entries cars whole there is in (found.listed, found.read)

first_same : (a b : ListedCar) (xs ys : List ListedCar) → ◌≡◌ {A = List ListedCar} (a ∷ xs) (b ∷ ys) → (a ≡ b) × (xs ≡ ys)
first_same a b xs ys is = (cc, cc)

none_same : {A : Type 0} (a : ListedCar) (xs : List ListedCar) → ◌≡◌ {A = List ListedCar} (a ∷ xs) [] → A
none_same a xs is = absurd cc

one_again : (most next : ℕ) (pages : Pages) (met : Numbers) (kept : KeptPage) → most < 65536 → IsCarRead most next pages met kept
    → on_page kept.page (car_at (record { most = most; next = next; number = Some kept.image.number }) met (pages.page kept.page)) ≡ Ok kept.image
one_again most next pages met kept small read =
    ap (on_page kept.page) (car_again (a_car most next (Some kept.image.number)) met (pages.page kept.page) kept.image small read.has read.range itself read.spelled)
  where
    itself : (kept.image.number == kept.image.number) ≡ true
    itself = grind (arith, nat_tests)

-- cars that are listed, and whose pages may be read, are read
pub cars_again : (most next : ℕ) (pages : Pages) (met : Numbers) (entries : List CatEntry) (cars : List KeptPage) → most < 65536 → map listed_as cars ≡ listed_cars entries → AreCarsRead most next pages met cars
    → cars_from most next pages met entries ≡ Ok cars
unfolding cars_from
cars_again most next pages met [] [] small listed read = refl
cars_again most next pages met [] (kept ∷ cars) small listed read = none_same (listed_as kept) (map listed_as cars) listed
cars_again most next pages met (Root name at ∷ entries) cars small listed read = cars_again most next pages met entries cars small listed read
cars_again most next pages met (Car car train page digest ∷ entries) [] small listed read = none_same (record { number = car; page = page; digest = digest }) (listed_cars entries) (sym listed)
cars_again most next pages met (Car car train page digest ∷ entries) (kept ∷ cars) small listed read =
    let here : ListedCar = record { number = car; page = page; digest = digest } in
    let same = first_same (listed_as kept) here (map listed_as cars) (listed_cars entries) listed in
    let rest = cars_again most next pages (with_identities met kept.image.slots) entries cars small same.1 read.1 in
    let made : cars_from most next pages met (Car kept.image.number train kept.page kept.digest ∷ entries) ≡ Ok (kept ∷ cars) =
    bound _ _ tt _ (undamaged_again pages kept.page kept.digest read.0.digest)
    (bound _ _ kept.image _ (one_again most next pages met kept small read.0)
    (bound _ _ cars _ rest refl)) in
    subst (λ (l : ListedCar). cars_from most next pages met (Car l.number train l.page l.digest ∷ entries) ≡ Ok (kept ∷ cars)) same.0 made

-- ---- cars that were read, and cars that are spelled

pub are_spelled : (most next : ℕ) (pages : Pages) (met : Numbers) (cars : List KeptPage) → AreCarsRead most next pages met cars → AllByRecursion (IsCarSpelled pages most) cars
are_spelled most next pages met [] read = tt
are_spelled most next pages met (kept ∷ cars) read =
    let has = read.0.has in (
      record { digest = read.0.digest; fits = has.fits; spelled = read.0.spelled; ascend = has.ascend; slots = has.slots },
      are_spelled most next pages (with_identities met kept.image.slots) cars read.1,
    )

pub are_in_range : (most next : ℕ) (pages : Pages) (met : Numbers) (cars : List KeptPage) → AreCarsRead most next pages met cars → AllByRecursion (λ (kept : KeptPage). IsCarInRange kept.image) cars
are_in_range most next pages met [] read = tt
are_in_range most next pages met (kept ∷ cars) read = (read.0.range, are_in_range most next pages (with_identities met kept.image.slots) cars read.1)

pub are_below : (most next : ℕ) (pages : Pages) (met : Numbers) (cars : List KeptPage) → AreCarsRead most next pages met cars → AllByRecursion (IsBelow next) (identities_of cars)
are_below most next pages met [] read = tt
are_below most next pages met (kept ∷ cars) read =
    all_both (IsBelow next) (identities_in kept.image.slots) (identities_of cars) (free_below next met kept.image.slots read.0.has.free) (are_below most next pages (with_identities met kept.image.slots) cars read.1)

pub are_new : (most next : ℕ) (pages : Pages) (met : Numbers) (cars : List KeptPage) → AreCarsRead most next pages met cars → AreNew met (identities_of cars)
are_new most next pages met [] read = nothing_new met
are_new most next pages met (kept ∷ cars) read =
    free_new next met kept.image.slots (identities_of cars) read.0.has.free (are_new most next pages (with_identities met kept.image.slots) cars read.1)

-- cars that are spelled, and whose identities are new, may be read one after the other
pub spelled_read : (most next : ℕ) (pages : Pages) (met : Numbers) (cars : List KeptPage) → AllByRecursion (IsCarSpelled pages most) cars → AllByRecursion (λ (kept : KeptPage). IsCarInRange kept.image) cars
    → AllByRecursion (IsBelow next) (identities_of cars) → AreNew met (identities_of cars) → AreCarsRead most next pages met cars
spelled_read most next pages met [] spelled range below new = tt
spelled_read most next pages met (kept ∷ cars) spelled range below new =
    let here = spelled.0 in
    let still = free_again next met kept.image.slots (identities_of cars) (all_front (IsBelow next) (identities_in kept.image.slots) (identities_of cars) below) new in (
      record { digest = here.digest; spelled = here.spelled; has = record { fits = here.fits; ascend = here.ascend; free = still.free; slots = here.slots }; range = range.0 },
      spelled_read most next pages (with_identities met kept.image.slots) cars spelled.1 range.1 (all_back (IsBelow next) (identities_in kept.image.slots) (identities_of cars) below) still.new,
    )
