-- Identities that were not met before, car by car, differ.
use Rattle.std.proofs.Common.{◌≡◌, ℕ, ◌<◌, ◌==◌, ◌||◌, Bool, true, false, cond, nat_le, refl, ap, sym, subst, ◌∙◌, List, [], ◌∷◌, Some, arith}
use Rattle.std.specs.Ordering.{nat_cmp, eq_by_cmp}
use Rattle.std.specs.Cmp.{eq_by_cmp_equiv}
use Rattle.std.specs.FinSet as set
use Rattle.std.proofs.lemmas.Cmp.{nat_cmp_total}
use Rattle.std.proofs.lemmas.Bool.{eqb-true, true≢false}
use Rattle.std.proofs.lemmas.Bool.Decides.{nat_tests}
use Rattle.pm_types.specs.declared.address.Addr.{Addr}
use Rattle.pm_types.specs.declared.object.Object.{Object}
use Rattle.pm_types.specs.declared.object.Slot.{Slot}
use Rattle.pm_types.specs.declared.object.Slot.TheVariants.{Live, Moved}
use Rattle.pm_image.specs.declared.car.CarImage.{CarImage}
use Rattle.pm_image.specs.CarPages.{Numbers, is_taken, AreFree}
use Rattle.pm_image.specs.Graphs.{slot_in, slot_named, with_identities}

-- ---- sets of numbers

-- a number was put into a set
pub has_new : (met : Numbers) (id : ℕ) → set.contains (set.insert met id) id ≡ true
has_new met id = set.contains-insert nat_cmp_total met id id ∙ ap (λ b. b || set.contains met id) ((eq_by_cmp_equiv nat_cmp_total).refl id)

has_old : (met : Numbers) (k id : ℕ) → set.contains met id ≡ true → set.contains (set.insert met k) id ≡ true
has_old met k id is = set.contains-insert nat_cmp_total met k id ∙ second (eq_by_cmp nat_cmp id k) (set.contains met id) is
  where
    second : (a b : Bool) → b ≡ true → (a || b) ≡ true
    second true b is = refl
    second false b is = is

pub not_old : (met : Numbers) (k id : ℕ) → set.contains (set.insert met k) id ≡ false → (set.contains met id ≡ false) × (eq_by_cmp nat_cmp id k ≡ false)
not_old met k id none = neither (eq_by_cmp nat_cmp id k) (set.contains met id) (sym (set.contains-insert nat_cmp_total met k id) ∙ none)
  where
    neither : (a b : Bool) → (a || b) ≡ false → (b ≡ false) × (a ≡ false)
    neither true b none = cc
    neither false b none = (none, refl)

-- ---- slots

free_id : (next : ℕ) (met : Numbers) (id : ℕ) → is_taken next met id ≡ false → (id < next) × (set.contains met id ≡ false)
free_id next met id free =
    let one = neither (id == 0) (nat_le next id || set.contains met id) free in
    let two = neither (nat_le next id) (set.contains met id) one.1 in
    let low = two.0 in
    (grind (arith, nat_tests), two.1)
  where
    neither : (a b : Bool) → (a || b) ≡ false → (a ≡ false) × (b ≡ false)
    neither true b none = cc
    neither false b none = (refl, none)

-- an object is below the next identity, and was not met before its car
free_slot : (next : ℕ) (met : Numbers) (es : List (ℕ × Slot)) (n : ℕ) (object : Object) → AreFree next met es → slot_in es n ≡ Some (Live object) → (object.id < next) × (set.contains met object.id ≡ false)
free_slot next met [] n object free is = cc
free_slot next met ((m, Live other) ∷ es) n object free is = elim (m == n) as (λ b. cond b (Some (Live other)) (slot_in es n) ≡ Some (Live object) → (object.id < next) × (set.contains met object.id ≡ false)) [
  | true ↦ λ is. let same : other ≡ object = cc in subst (λ (o : Object). (o.id < next) × (set.contains met o.id ≡ false)) same (free_id next met other.id free.0)
  | false ↦ λ is. let later = free_slot next (set.insert met other.id) es n object free.1 is in (later.0, (not_old met other.id object.id later.1).0)
] is
free_slot next met ((m, Moved to) ∷ es) n object free is = elim (m == n) as (λ b. cond b (Some (Moved to)) (slot_in es n) ≡ Some (Live object) → (object.id < next) × (set.contains met object.id ≡ false)) [
  | true ↦ λ is. cc
  | false ↦ λ is. free_slot next met es n object free is
] is

-- what was met before an object's identity is not it
met_later : (next : ℕ) (met : Numbers) (id : ℕ) (es : List (ℕ × Slot)) (n : ℕ) (object : Object) → AreFree next (set.insert met id) es → slot_in es n ≡ Some (Live object) → id ≡ object.id → ⊥
met_later next met id es n object free is same =
    let none = (free_slot next (set.insert met id) es n object free is).1 in
    true≢false (sym (has_new met id) ∙ ap (set.contains (set.insert met id)) same ∙ none)

-- two objects of a car with one identity are one
apart_slots : (next : ℕ) (met : Numbers) (es : List (ℕ × Slot)) (m n : ℕ) (o p : Object) → AreFree next met es → slot_in es m ≡ Some (Live o) → slot_in es n ≡ Some (Live p) → o.id ≡ p.id → m ≡ n
apart_slots next met [] m n o p free is is_too same = cc
apart_slots next met ((k, Live q) ∷ es) m n o p free is is_too same =
    elim (k == m) as (λ b. (k == m) ≡ b → cond b (Some (Live q)) (slot_in es m) ≡ Some (Live o) → m ≡ n) [
      | true ↦ λ here is. elim (k == n) as (λ b. (k == n) ≡ b → cond b (Some (Live q)) (slot_in es n) ≡ Some (Live p) → m ≡ n) [
        | true ↦ λ here_too is_too. sym (eqb-true k m here) ∙ eqb-true k n here_too
        | false ↦ λ there is_too. let one : q ≡ o = cc in absurd (met_later next met q.id es n p free.1 is_too (ap (λ (o : Object). o.id) one ∙ same))
      ] refl is_too
      | false ↦ λ there is. elim (k == n) as (λ b. (k == n) ≡ b → cond b (Some (Live q)) (slot_in es n) ≡ Some (Live p) → m ≡ n) [
        | true ↦ λ here_too is_too. let one : q ≡ p = cc in absurd (met_later next met q.id es m o free.1 is (ap (λ (o : Object). o.id) one ∙ sym same))
        | false ↦ λ there_too is_too. apart_slots next (set.insert met q.id) es m n o p free.1 is is_too same
      ] refl is_too
    ] refl is
apart_slots next met ((k, Moved to) ∷ es) m n o p free is is_too same =
    elim (k == m) as (λ b. cond b (Some (Moved to)) (slot_in es m) ≡ Some (Live o) → m ≡ n) [
      | true ↦ λ is. cc
      | false ↦ λ is. elim (k == n) as (λ b. cond b (Some (Moved to)) (slot_in es n) ≡ Some (Live p) → m ≡ n) [
        | true ↦ λ is_too. cc
        | false ↦ λ is_too. apart_slots next met es m n o p free is is_too same
      ] is_too
    ] is

-- ---- what was met after a car

still_met : (met : Numbers) (es : List (ℕ × Slot)) (id : ℕ) → set.contains met id ≡ true → set.contains (with_identities met es) id ≡ true
still_met met [] id is = is
still_met met ((n, Live object) ∷ es) id is = still_met (set.insert met object.id) es id (has_old met object.id id is)
still_met met ((n, Moved to) ∷ es) id is = still_met met es id is

not_met : (met : Numbers) (es : List (ℕ × Slot)) (id : ℕ) → set.contains (with_identities met es) id ≡ false → set.contains met id ≡ false
not_met met es id none = by (set.contains met id) refl
  where
    by : (b : Bool) → set.contains met id ≡ b → b ≡ false
    by true is = absurd (true≢false (sym (still_met met es id is) ∙ none))
    by false is = refl

slot_met : (met : Numbers) (es : List (ℕ × Slot)) (n : ℕ) (object : Object) → slot_in es n ≡ Some (Live object) → set.contains (with_identities met es) object.id ≡ true
slot_met met [] n object is = cc
slot_met met ((m, Live other) ∷ es) n object is = elim (m == n) as (λ b. cond b (Some (Live other)) (slot_in es n) ≡ Some (Live object) → set.contains (with_identities (set.insert met other.id) es) object.id ≡ true) [
  | true ↦ λ is. let same : other ≡ object = cc in subst (λ (o : Object). set.contains (with_identities (set.insert met other.id) es) o.id ≡ true) same (still_met (set.insert met other.id) es other.id (has_new met other.id))
  | false ↦ λ is. slot_met (set.insert met other.id) es n object is
] is
slot_met met ((m, Moved to) ∷ es) n object is = elim (m == n) as (λ b. cond b (Some (Moved to)) (slot_in es n) ≡ Some (Live object) → set.contains (with_identities met es) object.id ≡ true) [
  | true ↦ λ is. cc
  | false ↦ λ is. slot_met met es n object is
] is

-- ---- all cars

-- the identities of cars are not taken, and differ
abbrev pub AllFree : ℕ → Numbers → List CarImage → Type 0
AllFree next met [] = Unit {0}
AllFree next met (car ∷ cars) = AreFree next met car.slots × AllFree next (with_identities met car.slots) cars

pub free_named : (next : ℕ) (met : Numbers) (cars : List CarImage) (a : Addr) (object : Object) → AllFree next met cars → slot_named cars a ≡ Some (Live object) → (object.id < next) × (set.contains met object.id ≡ false)
free_named next met [] a object free is = cc
free_named next met (car ∷ cars) a object free is = elim (car.number == a.car) as (λ b. cond b (slot_in car.slots a.slot) (slot_named cars a) ≡ Some (Live object) → (object.id < next) × (set.contains met object.id ≡ false)) [
  | true ↦ λ is. free_slot next met car.slots a.slot object free.0 is
  | false ↦ λ is. let later = free_named next (with_identities met car.slots) cars a object free.1 is in (later.0, not_met met car.slots object.id later.1)
] is

-- an object of a later car has another identity
met_in_car : (next : ℕ) (met : Numbers) (car : CarImage) (cars : List CarImage) (n : ℕ) (a : Addr) (o p : Object) → AllFree next (with_identities met car.slots) cars → slot_in car.slots n ≡ Some (Live o) → slot_named cars a ≡ Some (Live p) → o.id ≡ p.id → ⊥
met_in_car next met car cars n a o p free is is_too same =
    true≢false (sym (slot_met met car.slots n o is) ∙ ap (set.contains (with_identities met car.slots)) same ∙ (free_named next (with_identities met car.slots) cars a p free is_too).1)

pub apart_named : (next : ℕ) (met : Numbers) (cars : List CarImage) (a b : Addr) (o p : Object) → AllFree next met cars → slot_named cars a ≡ Some (Live o) → slot_named cars b ≡ Some (Live p) → o.id ≡ p.id → a ≡ b
apart_named next met [] a b o p free is is_too same = cc
apart_named next met (car ∷ cars) a b o p free is is_too same =
    elim (car.number == a.car) as (λ c. (car.number == a.car) ≡ c → cond c (slot_in car.slots a.slot) (slot_named cars a) ≡ Some (Live o) → a ≡ b) [
      | true ↦ λ here is. elim (car.number == b.car) as (λ c. (car.number == b.car) ≡ c → cond c (slot_in car.slots b.slot) (slot_named cars b) ≡ Some (Live p) → a ≡ b) [
        | true ↦ λ here_too is_too.
            let slots = apart_slots next met car.slots a.slot b.slot o p free.0 is is_too same in
            let numbers : a.car ≡ b.car = sym (eqb-true car.number a.car here) ∙ eqb-true car.number b.car here_too in
            λ i. record { car = numbers i; slot = slots i }
        | false ↦ λ there is_too. absurd (met_in_car next met car cars a.slot b o p free.1 is is_too same)
      ] refl is_too
      | false ↦ λ there is. elim (car.number == b.car) as (λ c. (car.number == b.car) ≡ c → cond c (slot_in car.slots b.slot) (slot_named cars b) ≡ Some (Live p) → a ≡ b) [
        | true ↦ λ here_too is_too. absurd (met_in_car next met car cars b.slot a p o free.1 is_too is (sym same))
        | false ↦ λ there_too is_too. apart_named next (with_identities met car.slots) cars a b o p free.1 is is_too same
      ] refl is_too
    ] refl is
