-- Cars that are accepted have pages.
use Rattle.std.proofs.Common.{◌≡◌, ◌⊎◌, inl, inr, ⊎_elim, ℕ, ◌+◌, ◌<◌, ◌==◌, ◌||◌, Bool, true, false, cond, nat_le, refl, ap, sym, subst, ◌∙◌, List, [], ◌∷◌, Option, Some, arith}
use Rattle.std.specs.List.{AllByRecursion}
use Rattle.std.specs.Ordering.{nat_cmp, eq_by_cmp}
use Rattle.std.specs.FinMap.{nat_cmp-IsAntisymmetric}
use Rattle.std.specs.FinSet as set
use Rattle.std.proofs.lemmas.Cmp.{nat_cmp_total}
use Rattle.std.proofs.lemmas.Bool.{eq-eqb, true≢false}
use Rattle.std.proofs.lemmas.Bool.Decides.{nat_tests}
use Rattle.std.proofs.lemmas.Map.Views.{tells_apart}
use Rattle.std.proofs.lemmas.Option.{none-some}
use Rattle.pm_types.specs.declared.limits.TheConstants.{FIELDS}
use Rattle.pm_types.specs.declared.address.Addr.{Addr}
use Rattle.pm_types.specs.declared.object.Object.{Object}
use Rattle.pm_types.specs.declared.object.Slot.{Slot}
use Rattle.pm_types.specs.declared.object.Slot.TheVariants.{Live, Moved}
use Rattle.pm_layout.specs.Spelling.{HasSpelling}
use Rattle.pm_image.specs.declared.car.CarImage.{CarImage}
use Rattle.pm_image.specs.declared.catalog.CatEntry.{CatEntry}
use Rattle.pm_image.specs.CarPages.{Numbers, CarScope, one_car, is_taken, Ascend, AreFree, HasCarPage}
use Rattle.pm_image.specs.Graphs.{slot_in, slot_named, with_identities}
use Rattle.pm_copies.specs.Listed.{Listed, images}
use Rattle.pm_copies.specs.Accepted.{Differ, IsAccepted, HavePages}
use Rattle.pm_copies.specs.Accepted as accepted
use Rattle.pm_law_copies.proofs.Naming.{car_named, slot_lies, all_named}
use Rattle.pm_law_copies.proofs.Lists.{all_weaker}
use Rattle.pm_law_copies.proofs.Objects.{slot_from, slot_behind, no_such_car, named_behind}

-- ---- the slots of a car

not_taken : (next : ℕ) (met : Numbers) (id : ℕ) → 0 < id → id < next → set.contains met id ≡ false → is_taken next met id ≡ false
not_taken next met id over below none =
    let some : (id == 0) ≡ false = grind (arith, nat_tests) in
    let low : nat_le next id ≡ false = grind (arith, nat_tests) in
    λ i. some i || (low i || none i)

here : (n : ℕ) (slot : Slot) (es : List (ℕ × Slot)) → slot_in ((n, slot) ∷ es) n ≡ Some slot
here n slot es = ap (λ b. cond b (Some slot) (slot_in es n)) (eq-eqb n n refl)

-- an identity that may be given: it is over 0, below the next one, and was not met
abbrev IsNew : ℕ → Numbers → ℕ → Type 0
IsNew next met id = (0 < id) × (id < next) × (set.contains met id ≡ false)

not_added : (met : Numbers) (k id : ℕ) → set.contains met id ≡ false → (eq_by_cmp nat_cmp id k ≡ true → ⊥) → set.contains (set.insert met k) id ≡ false
not_added met k id none apart = set.contains-insert nat_cmp_total met k id ∙ neither (eq_by_cmp nat_cmp id k) (set.contains met id) apart none
  where
    neither : (a b : Bool) → (a ≡ true → ⊥) → b ≡ false → (a || b) ≡ false
    neither true b apart none = absurd (apart refl)
    neither false b apart none = none

slots_free : (next : ℕ) (met : Numbers) (least : ℕ) (es : List (ℕ × Slot)) → Ascend least es → ((n : ℕ) (o : Object) → slot_in es n ≡ Some (Live o) → IsNew next met o.id)
    → ((m n : ℕ) (o p : Object) → slot_in es m ≡ Some (Live o) → slot_in es n ≡ Some (Live p) → o.id ≡ p.id → m ≡ n) → AreFree next met es
slots_free next met least [] ascend each apart = tt
slots_free next met least ((m, Live object) ∷ es) ascend each apart =
    let first = each m object (here m (Live object) es) in (
      not_taken next met object.id first.0 first.1 first.2,
      slots_free next (set.insert met object.id) (m + 1) es ascend.2
          (λ n o is.
          let there = slot_behind least (m, Live object) es n (Live o) ascend is in
          let known = each n o there in (
            known.0,
            known.1,
            not_added met object.id o.id known.2 (λ tied.
                let same : n ≡ m = apart n m o object there (here m (Live object) es) (tells_apart nat_cmp-IsAntisymmetric o.id object.id tied) in
                let later = slot_from (m + 1) es n (Live o) ascend.2 is in
                omega (arith, same, later)),
          ))
          (λ n k o p is is_too same. apart n k o p (slot_behind least (m, Live object) es n (Live o) ascend is) (slot_behind least (m, Live object) es k (Live p) ascend is_too) same),
    )
slots_free next met least ((m, Moved to) ∷ es) ascend each apart =
    slots_free next met (m + 1) es ascend.2
    (λ n o is. each n o (slot_behind least (m, Moved to) es n (Live o) ascend is))
    (λ n k o p is is_too same. apart n k o p (slot_behind least (m, Moved to) es n (Live o) ascend is) (slot_behind least (m, Moved to) es k (Live p) ascend is_too) same)

-- what was met after a car was met before, or is in it
abbrev HasId : List (ℕ × Slot) → ℕ → Type 0
HasId es id = (n : ℕ) × (o : Object) × (slot_in es n ≡ Some (Live o)) × (o.id ≡ id)

met_in : (met : Numbers) (least : ℕ) (es : List (ℕ × Slot)) (id : ℕ) → Ascend least es → set.contains (with_identities met es) id ≡ true → (set.contains met id ≡ true) ⊎ HasId es id
met_in met least [] id ascend is = inl is
met_in met least ((m, Live q) ∷ es) id ascend is =
    ⊎_elim
    (λ before. either (eq_by_cmp nat_cmp id q.id) refl (sym (set.contains-insert nat_cmp_total met q.id id) ∙ before))
    (λ (later : HasId es id). inr (later.0, later.1, slot_behind least (m, Live q) es later.0 (Live later.1) ascend later.2, later.3))
    (met_in (set.insert met q.id) (m + 1) es id ascend.2 is)
  where
    either : (b : Bool) → eq_by_cmp nat_cmp id q.id ≡ b → (b || set.contains met id) ≡ true → (set.contains met id ≡ true) ⊎ HasId ((m, Live q) ∷ es) id
    either true tied is = inr (m, q, here m (Live q) es, sym (tells_apart nat_cmp-IsAntisymmetric id q.id tied))
    either false apart is = inl is
met_in met least ((m, Moved to) ∷ es) id ascend is =
    ⊎_elim
    (λ before. inl before)
    (λ (later : HasId es id). inr (later.0, later.1, slot_behind least (m, Moved to) es later.0 (Live later.1) ascend later.2, later.3))
    (met_in met (m + 1) es id ascend.2 is)

-- ---- cars

-- each object of these cars has an identity that may be given
abbrev AreNew : ℕ → Numbers → List CarImage → Type 0
AreNew next met cars = (a : Addr) (o : Object) → slot_named cars a ≡ Some (Live o) → IsNew next met o.id

-- no two objects of these cars have one identity
abbrev AreApart : List CarImage → Type 0
AreApart cars = (a b : Addr) (o p : Object) → slot_named cars a ≡ Some (Live o) → slot_named cars b ≡ Some (Live p) → o.id ≡ p.id → a ≡ b

first_named : (car : CarImage) (cars : List CarImage) (n : ℕ) (slot : Slot) → slot_in car.slots n ≡ Some slot → slot_named (car ∷ cars) (record { car = car.number; slot = n }) ≡ Some slot
first_named car cars n slot is = ap (λ b. cond b (slot_in car.slots n) (slot_named cars (record { car = car.number; slot = n }))) (eq-eqb car.number car.number refl) ∙ is

first_page : (scope : CarScope) (met : Numbers) (car : CarImage) (cars : List CarImage) → scope.most ≡ FIELDS → accepted.IsAcceptedCar car → AreNew scope.next met (car ∷ cars) → AreApart (car ∷ cars) → HasCarPage scope met car
first_page scope met car cars most is each apart = record {
  fits = is.fits;
  ascend = is.ascend;
  free = slots_free scope.next met 0 car.slots is.ascend
      (λ n o there. each (record { car = car.number; slot = n }) o (first_named car cars n (Live o) there))
      (λ m n o p at_m at_n same. ap (λ (a : Addr). a.slot) (apart (record { car = car.number; slot = m }) (record { car = car.number; slot = n }) o p (first_named car cars m (Live o) at_m) (first_named car cars n (Live p) at_n) same));
  slots = subst (λ n. AllByRecursion (λ (e : ℕ × Slot). HasSpelling n e.1) car.slots) (sym most) is.slots;
}

-- a slot of a later car has the number of another car
elsewhere : (car : CarImage) (cars : List CarImage) (a : Addr) (slot : Slot) → Differ (car ∷ cars) → slot_named cars a ≡ Some slot → car.number ≡ a.car → ⊥
elsewhere car cars a slot differ is same =
    let lies = slot_lies cars a slot is in
    none-some lies.0 (sym (no_such_car car.number cars differ.0) ∙ ap (λ n. car_slots n) same ∙ lies.1)
  where
    car_slots : ℕ → Option (List (ℕ × Slot))
    car_slots n = car_named cars n

apart_behind : (car : CarImage) (cars : List CarImage) → Differ (car ∷ cars) → AreApart (car ∷ cars) → AreApart cars
apart_behind car cars differ apart a b o p at_a at_b same = apart a b o p (named_behind car cars a (Live o) differ at_a) (named_behind car cars b (Live p) differ at_b) same

new_behind : (next : ℕ) (met : Numbers) (car : CarImage) (cars : List CarImage) → Differ (car ∷ cars) → accepted.IsAcceptedCar car → AreNew next met (car ∷ cars) → AreApart (car ∷ cars) → AreNew next (with_identities met car.slots) cars
new_behind next met car cars differ is each apart a o there =
    let behind = named_behind car cars a (Live o) differ there in
    let known = each a o behind in
    (known.0, known.1, by (set.contains (with_identities met car.slots) o.id) refl known.2 behind)
  where
    held : HasId car.slots o.id → slot_named (car ∷ cars) a ≡ Some (Live o) → ⊥
    held has behind = elsewhere car cars a (Live o) differ there (ap (λ (a : Addr). a.car) (apart (record { car = car.number; slot = has.0 }) a has.1 o (first_named car cars has.0 (Live has.1) has.2) behind has.3))

    by : (b : Bool) → set.contains (with_identities met car.slots) o.id ≡ b → set.contains met o.id ≡ false → slot_named (car ∷ cars) a ≡ Some (Live o) → b ≡ false
    by true now none behind = absurd (⊎_elim (λ before. true≢false (sym before ∙ none)) (λ (has : HasId car.slots o.id). held has behind) (met_in met 0 car.slots o.id is.ascend now))
    by false now none behind = refl

pages_read : (next : ℕ) (met : Numbers) (cars : List CarImage) → AllByRecursion accepted.IsAcceptedCar cars → Differ cars → AreNew next met cars → AreApart cars → HavePages FIELDS next met cars
pages_read next met [] are differ each apart = tt
pages_read next met (car ∷ cars) are differ each apart = (
  first_page (record { most = FIELDS; next = next; number = Some car.number }) met car cars refl are.0 each apart,
  pages_read next (with_identities met car.slots) cars are.1 differ.1 (new_behind next met car cars differ are.0 each apart) (apart_behind car cars differ apart),
)

pages_written : (cars : List CarImage) → AllByRecursion accepted.IsAcceptedCar cars → Differ cars → AreNew 4294967296 set.empty cars → AreApart cars → AllByRecursion (HasCarPage (one_car FIELDS) set.empty) cars
pages_written [] are differ each apart = tt
pages_written (car ∷ cars) are differ each apart = (
  first_page (one_car FIELDS) set.empty car cars refl are.0 each apart,
  pages_written cars are.1 differ.1 (λ a o there. each a o (named_behind car cars a (Live o) differ there)) (apart_behind car cars differ apart),
)

-- ---- what is accepted

module _ (listed : List Listed) (catalog : List CatEntry) (next_id : ℕ) (ok : IsAccepted listed catalog next_id) where
  over : (a : Addr) (o : Object) → slot_named (images listed) a ≡ Some (Live o) → 0 < o.id
  over a o there = (all_named (λ (e : ℕ × Slot). HasSpelling FIELDS e.1) (images listed) a (Live o) (all_weaker accepted.IsAcceptedCar (λ (car : CarImage). AllByRecursion (λ (e : ℕ × Slot). HasSpelling FIELDS e.1) car.slots) (images listed) (λ car is. is.slots) ok.cars) there).numbered.0

  pub have_pages : HavePages FIELDS next_id set.empty (images listed)
  have_pages = pages_read next_id set.empty (images listed) ok.cars ok.differ (λ a o there. (over a o there, ok.given a o there, set.contains-empty nat_cmp o.id)) ok.apart

  pub are_written : AllByRecursion (HasCarPage (one_car FIELDS) set.empty) (images listed)
  are_written = pages_written (images listed) ok.cars ok.differ (λ a o there. let given = ok.given a o there in let last = ok.next.1 in (over a o there, omega (arith, given, last), set.contains-empty nat_cmp o.id)) ok.apart
