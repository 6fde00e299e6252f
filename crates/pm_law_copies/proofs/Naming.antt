-- Slots and cars in lists of cars.
use Rattle.std.proofs.Common.{◌≡◌, ℕ, ◌==◌, true, false, cond, refl, sym, subst, ◌∙◌, List, [], ◌∷◌, ◌++◌, Option, Some, None}
use Rattle.std.specs.Option.{option_and_then}
use Rattle.std.specs.List.{AllByRecursion}
use Rattle.std.specs.Ordering.{nat_cmp}
use Rattle.std.specs.FinMap.{get, entries, get-entries}
use Rattle.std.specs.FinMap.Entries.{find}
use Rattle.std.proofs.lemmas.Bool.{eqb-true}
use Rattle.std.proofs.lemmas.Option.{same_Some}
use Rattle.pm_types.specs.declared.address.Addr.{Addr}
use Rattle.pm_types.specs.declared.object.Slot.{Slot}
use Rattle.pm_cars.specs.Cars.{Slots}
use Rattle.pm_image.specs.declared.car.CarImage.{CarImage}
use Rattle.pm_image.specs.Graphs.{slot_in, slot_named}
use Rattle.pm_law_copies.proofs.Lists.{or_else, nat_turned}

-- a slot in a list is found by its number as by the order
pub slot_found : (es : List (ℕ × Slot)) (n : ℕ) → slot_in es n ≡ find nat_cmp n es
slot_found [] n = refl
slot_found (e ∷ es) n = λ i. cond (nat_turned e.0 n i) (Some e.1) (slot_found es n i)

pub slot_of_entries : (slots : Slots) (n : ℕ) → slot_in (entries slots) n ≡ get slots n
slot_of_entries slots n = slot_found (entries slots) n ∙ sym (get-entries slots n)

-- the slots of the first car of this number
abbrev pub car_named : List CarImage → ℕ → Option (List (ℕ × Slot))
car_named [] n = None
car_named (car ∷ cars) n = cond (car.number == n) (Some car.slots) (car_named cars n)

pub named_in : (cars : List CarImage) (a : Addr) → slot_named cars a ≡ option_and_then (λ slots. slot_in slots a.slot) (car_named cars a.car)
named_in [] a = refl
named_in (car ∷ cars) a = elim (car.number == a.car) as (λ b. cond b (slot_in car.slots a.slot) (slot_named cars a) ≡ option_and_then (λ slots. slot_in slots a.slot) (cond b (Some car.slots) (car_named cars a.car))) [
  | true ↦ refl
  | false ↦ named_in cars a
]

pub car_in_two : (xs ys : List CarImage) (n : ℕ) → car_named (xs ++ ys) n ≡ or_else (car_named xs n) (car_named ys n)
car_in_two [] ys n = refl
car_in_two (car ∷ xs) ys n = elim (car.number == n) as (λ b. cond b (Some car.slots) (car_named (xs ++ ys) n) ≡ or_else (cond b (Some car.slots) (car_named xs n)) (car_named ys n)) [
  | true ↦ refl
  | false ↦ car_in_two xs ys n
]

-- what holds of each slot of each car holds of a slot that is named
pub all_in_slots : (P : ℕ × Slot → Type 0) (slots : List (ℕ × Slot)) (n : ℕ) (slot : Slot) → AllByRecursion P slots → slot_in slots n ≡ Some slot → P (n, slot)
all_in_slots P [] n slot all is = cc
all_in_slots P (e ∷ es) n slot all is = elim (e.0 == n) as (λ b. (e.0 == n) ≡ b → cond b (Some e.1) (slot_in es n) ≡ Some slot → P (n, slot)) [
  | true ↦ λ here is. subst P (λ i. (eqb-true e.0 n here i, same_Some e.1 slot is i)) all.0
  | false ↦ λ there is. all_in_slots P es n slot all.1 is
] refl is

pub all_in_cars : (P : CarImage → Type 0) (cars : List CarImage) (n : ℕ) (slots : List (ℕ × Slot)) → AllByRecursion P cars → car_named cars n ≡ Some slots → P (record { number = n; slots = slots })
all_in_cars P [] n slots all is = cc
all_in_cars P (car ∷ cars) n slots all is = elim (car.number == n) as (λ b. (car.number == n) ≡ b → cond b (Some car.slots) (car_named cars n) ≡ Some slots → P (record { number = n; slots = slots })) [
  | true ↦ λ here is. subst P (λ i. record { number = eqb-true car.number n here i; slots = same_Some car.slots slots is i }) all.0
  | false ↦ λ there is. all_in_cars P cars n slots all.1 is
] refl is

-- a slot that is named lies in a car that is listed
pub slot_lies : (cars : List CarImage) (a : Addr) (slot : Slot) → slot_named cars a ≡ Some slot → (slots : List (ℕ × Slot)) × (car_named cars a.car ≡ Some slots) × (slot_in slots a.slot ≡ Some slot)
slot_lies cars a slot is = lies (car_named cars a.car) refl (sym (named_in cars a) ∙ is)
  where
    lies : (o : Option (List (ℕ × Slot))) → car_named cars a.car ≡ o → option_and_then (λ slots. slot_in slots a.slot) o ≡ Some slot → (slots : List (ℕ × Slot)) × (car_named cars a.car ≡ Some slots) × (slot_in slots a.slot ≡ Some slot)
    lies None here is = cc
    lies (Some slots) here is = (slots, here, is)

-- what holds of each slot of each car
pub all_named : (P : ℕ × Slot → Type 0) (cars : List CarImage) (a : Addr) (slot : Slot) → AllByRecursion (λ (car : CarImage). AllByRecursion P car.slots) cars → slot_named cars a ≡ Some slot → P (a.slot, slot)
all_named P cars a slot all is = let at = slot_lies cars a slot is in all_in_slots P at.0 a.slot slot (all_in_cars (λ (car : CarImage). AllByRecursion P car.slots) cars a.car at.0 all at.1) at.2
