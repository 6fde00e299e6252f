-- An identity that was searched in all cars of all trains.
use Rattle.std.proofs.Common.{◌≡◌, ℕ, ◌<◌, ◌≤◌, ◌==◌, ◌||◌, nat_lt, if◌then◌else◌, Bool, true, false, refl, sym, ap, subst, ◌∙◌, List, [], ◌∷◌, length, map, get_or, slice_index, suc, Option, Some, None, is_some, arith, ⊎_elim}
use Rattle.std.specs.Option.{option_map, option_and_then}
use Rattle.std.specs.List.{list_any}
use Rattle.std.specs.FinMap.{get}
use Rattle.std.proofs.lemmas.Bool.{eqb-true, true≢false, cases_Bool, ltb-true, ltb-false}
use Rattle.pm_types.specs.declared.object.Object.{Object}
use Rattle.pm_types.specs.declared.object.Slot.{Slot}
use Rattle.pm_cars.specs.Cars.{Car, Slots, object_of}
use Rattle.pm_trains.specs.Trains.{Train, train_of, is_among}
use Rattle.pm_view.specs.View.{SpaceView}
use Rattle.pm_view.specs.Reading.{slot_at}
use Rattle.pm_view.specs.Law.{HeapLaw}
use Rattle.pm_space_cases.specs.Lacking.{Lacks, LacksBelow, LacksIn, LackAll, LacksInTrain}

none_some : (id : ℕ) → ◌≡◌ {A = Option ℕ} None (Some id) → ⊥
none_some id is = cc

-- the identity of the object in a slot
abbrev id_in : Option Slot → Option ℕ
id_in slot = option_map (λ (o : Object). o.id) (object_of slot)

-- each of these cars was searched
pub all_among : (v : SpaceView) (id : ℕ) (cars : List ℕ) → ((k : ℕ) → k < length cars → LacksIn v id (get_or cars k 0)) → LackAll v id cars
all_among v id [] none car is = absurd (true≢false (sym is))
all_among v id (c ∷ cs) none car is = by_case (all_among v id cs (λ k lt. none (suc k) (omega (arith, lt))) car) (c == car) refl is
  where
    by_case : (list_any (λ c. c == car) cs ≡ true → LacksIn v id car) → (b : Bool) → (c == car) ≡ b → (b || list_any (λ c. c == car) cs) ≡ true → LacksIn v id car
    by_case later true same is = subst (LacksIn v id) (eqb-true c car same) (none 0 (omega arith))
    by_case later false other is = later is

-- this is the number of the train at some place
abbrev IsPlaced : List Train → ℕ → Type 0
IsPlaced ts n = (q : ℕ) × (q < length ts) × (slice_index (map (λ (t : Train). t.number) ts) q ≡ n)

some_same : (m n : ℕ) → Some m ≡ Some n → m ≡ n
some_same m n is = cc

-- the train of a car stands at some place
placed : (ts : List Train) (car n : ℕ) → train_of ts car ≡ Some n → IsPlaced ts n
placed [] car n is = absurd (none_some n is)
placed (t ∷ ts) car n is = by_case (placed ts car n) (is_among car t.cars) is
  where
    by_case : (train_of ts car ≡ Some n → IsPlaced ts n) → (b : Bool) → (if b then Some t.number else train_of ts car) ≡ Some n → IsPlaced (t ∷ ts) n
    by_case later true is = (0, omega arith, some_same t.number n is)
    by_case later false is = let found = later is in let inside = found.1 in (suc found.0, omega (arith, inside), found.2)

-- what has an object is a car that stands
car_there : (o : Option Car) (slot id : ℕ) → option_map (λ (o : Object). o.id) (object_of (option_and_then (λ (car : Car). get car.slots slot) o)) ≡ Some id → is_some o ≡ true
car_there None slot id is = absurd (none_some id is)
car_there (Some car) slot id is = refl

some_is : (o : Option ℕ) → is_some o ≡ true → (n : ℕ) × (o ≡ Some n)
some_is None some = absurd (true≢false (sym some))
some_is (Some n) some = (n, refl)

-- each train was searched
pub lacks : (v : SpaceView) (id : ℕ) → HeapLaw v → ((q : ℕ) → q < length v.trains.trains → LacksInTrain v id (slice_index (map (λ (t : Train). t.number) v.trains.trains) q)) → Lacks v id
lacks v id law none a is =
    let home = some_is (train_of v.trains.trains a.car) (law.built.linked a.car ∙ car_there (get v.cars a.car) a.slot id is) in
    let there = placed v.trains.trains a.car home.0 home.1 in
    none there.0 there.1 a.car (home.1 ∙ ap Some (sym there.2)) a.slot is

-- ---- a car

-- all slots below the next one were searched, and there are no others
pub all_slots : (v : SpaceView) (id car next : ℕ) (slots : Slots) → ((slot : ℕ) → slot_at v.cars (record { car = car; slot = slot }) ≡ get slots slot) → ((slot : ℕ) → next ≤ slot → get slots slot ≡ None) → LacksBelow v id car next → LacksIn v id car
all_slots v id car next slots there none lacks slot is =
    ⊎_elim
    (λ (less : nat_lt slot next ≡ true). lacks slot (ltb-true slot next less) is)
    (λ (more : nat_lt slot next ≡ false). none_some id (sym (ap id_in (there slot ∙ none slot (ltb-false slot next more))) ∙ is))
    (cases_Bool (nat_lt slot next))

-- a car that is not there has no slot
pub no_slots : (v : SpaceView) (id car : ℕ) → ((slot : ℕ) → slot_at v.cars (record { car = car; slot = slot }) ≡ None) → LacksIn v id car
no_slots v id car none slot is = none_some id (sym (ap id_in (none slot)) ∙ is)
