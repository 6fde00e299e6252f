-- The objects of listed cars, by their identities.
use Rattle.std.proofs.Common.{◌≡◌, ◌⊎◌, inl, inr, ℕ, ◌+◌, ◌≤◌, ◌==◌, Bool, true, false, cond, refl, ap, sym, ◌∙◌, List, [], ◌∷◌, ◌++◌, map, Option, Some, None, arith, is_some}
use Rattle.std.specs.List.{flat_map, AllByRecursion}
use Rattle.std.specs.declared.cmp.Ordering.{Ordering}
use Rattle.std.specs.Ordering.{nat_cmp, eq_by_cmp}
use Rattle.std.specs.Cmp.{eq_by_cmp_equiv}
use Rattle.std.specs.FinMap.{get, get-from_entries, nat_cmp-IsAntisymmetric}
use Rattle.std.specs.FinMap.Entries.{find}
use Rattle.std.proofs.lemmas.Cmp.{nat_cmp_total}
use Rattle.std.proofs.lemmas.Bool.{eqb-true, eq-eqb}
use Rattle.std.proofs.lemmas.Option.{same_Some}
use Rattle.std.proofs.lemmas.Map.Views.{tells_apart}
use Rattle.pm_types.specs.declared.address.Addr.{Addr}
use Rattle.pm_types.specs.declared.object.Object as kept
use Rattle.pm_types.specs.declared.object.Slot.{Slot}
use Rattle.pm_types.specs.declared.object.Slot.TheVariants.{Live, Moved}
use Rattle.pm_model.specs.Heap.{Object}
use Rattle.pm_image.specs.declared.car.CarImage.{CarImage}
use Rattle.pm_image.specs.CarPages.{Ascend}
use Rattle.pm_image.specs.Graphs.{slot_in, slot_named, resolved_field, objects_in, heap_of}
use Rattle.pm_copies.specs.Accepted.{Differ}
use Rattle.pm_law_copies.proofs.Lists.{or_else}
use Rattle.pm_law_copies.proofs.Naming.{car_named, named_in}

-- what an object says, where its fields are followed among these cars
abbrev pub told : List CarImage → kept.Object → Object
told cars object = record { fields = map (resolved_field cars) object.fields; bytes = object.bytes }

-- ---- searches

pub find_in_two : {K X : Type 0} (R : K → K → Ordering) (q : K) (xs ys : List (K × X)) → find R q (xs ++ ys) ≡ or_else (find R q xs) (find R q ys)
find_in_two R q [] ys = refl
find_in_two R q (e ∷ xs) ys = elim (eq_by_cmp R q e.0) as (λ b. cond b (Some e.1) (find R q (xs ++ ys)) ≡ or_else (cond b (Some e.1) (find R q xs)) (find R q ys)) [
  | true ↦ refl
  | false ↦ find_in_two R q xs ys
]

-- ---- slots and cars that are told apart

-- a slot that is listed is not below the least one
pub slot_from : (least : ℕ) (es : List (ℕ × Slot)) (n : ℕ) (slot : Slot) → Ascend least es → slot_in es n ≡ Some slot → least ≤ n
slot_from least [] n slot ascend is = cc
slot_from least (e ∷ es) n slot ascend is = elim (e.0 == n) as (λ b. (e.0 == n) ≡ b → cond b (Some e.1) (slot_in es n) ≡ Some slot → least ≤ n) [
  | true ↦ λ here is. let same = eqb-true e.0 n here in let low = ascend.0 in omega (arith, same, low)
  | false ↦ λ there is. let later = slot_from (e.0 + 1) es n slot ascend.2 is in let low = ascend.0 in omega (arith, later, low)
] refl is

-- a slot that is listed behind another is found behind it
pub slot_behind : (least : ℕ) (e : ℕ × Slot) (es : List (ℕ × Slot)) (n : ℕ) (slot : Slot) → Ascend least (e ∷ es) → slot_in es n ≡ Some slot → slot_in (e ∷ es) n ≡ Some slot
slot_behind least e es n slot ascend is = elim (e.0 == n) as (λ b. (e.0 == n) ≡ b → cond b (Some e.1) (slot_in es n) ≡ Some slot) [
  | true ↦ λ here. let same = eqb-true e.0 n here in let later = slot_from (e.0 + 1) es n slot ascend.2 is in absurd (omega (arith, same, later))
  | false ↦ λ there. is
] refl

-- no car has a number that all cars do not have
pub no_such_car : (n : ℕ) (cars : List CarImage) → AllByRecursion (λ (other : CarImage). (other.number == n) ≡ false) cars → car_named cars n ≡ None
no_such_car n [] all = refl
no_such_car n (car ∷ cars) all = ap (λ b. cond b (Some car.slots) (car_named cars n)) all.0 ∙ no_such_car n cars all.1

pub named_behind : (car : CarImage) (cars : List CarImage) (a : Addr) (slot : Slot) → Differ (car ∷ cars) → slot_named cars a ≡ Some slot → slot_named (car ∷ cars) a ≡ Some slot
named_behind car cars a slot differ is = elim (car.number == a.car) as (λ b. (car.number == a.car) ≡ b → cond b (slot_in car.slots a.slot) (slot_named cars a) ≡ Some slot) [
  | true ↦ λ here.
      let none : car_named cars a.car ≡ None = ap (car_named cars) (sym (eqb-true car.number a.car here)) ∙ no_such_car car.number cars differ.0 in
      let clash : None ≡ Some slot = sym (named_in cars a ∙ ap (λ (o : Option (List (ℕ × Slot))). elim o as (λ _. Option Slot) [ None ↦ None | Some slots ↦ slot_in slots a.slot ]) none) ∙ is in
      cc
  | false ↦ λ there. is
] refl

-- ---- objects

module _ (all : List CarImage) where
  -- an object of these slots has this identity and says this
  abbrev IsIn : List (ℕ × Slot) → ℕ → Object → Type 0
  IsIn es id x = (n : ℕ) × (object : kept.Object) × (slot_in es n ≡ Some (Live object)) × (object.id ≡ id) × (told all object ≡ x)

  in_behind : (least : ℕ) (e : ℕ × Slot) (es : List (ℕ × Slot)) (id : ℕ) (x : Object) → Ascend least (e ∷ es) → IsIn es id x → IsIn (e ∷ es) id x
  in_behind least e es id x ascend at = (at.0, at.1, slot_behind least e es at.0 (Live at.1) ascend at.2, at.3, at.4)

  here : (n : ℕ) (slot : Slot) (es : List (ℕ × Slot)) → slot_in ((n, slot) ∷ es) n ≡ Some slot
  here n slot es = ap (λ b. cond b (Some slot) (slot_in es n)) (eq-eqb n n refl)

  -- what is found among the objects of a car is one of them
  pub in_slots : (least : ℕ) (es : List (ℕ × Slot)) (id : ℕ) (x : Object) → Ascend least es → find nat_cmp id (objects_in all es) ≡ Some x → IsIn es id x
  in_slots least [] id x ascend is = cc
  in_slots least ((n, Live object) ∷ es) id x ascend is = elim (eq_by_cmp nat_cmp id object.id) as (λ b. eq_by_cmp nat_cmp id object.id ≡ b → cond b (Some (told all object)) (find nat_cmp id (objects_in all es)) ≡ Some x → IsIn ((n, Live object) ∷ es) id x) [
    | true ↦ λ tied is. (n, object, here n (Live object) es, sym (tells_apart nat_cmp-IsAntisymmetric id object.id tied), same_Some (told all object) x is)
    | false ↦ λ apart is. in_behind least (n, Live object) es id x ascend (in_slots (n + 1) es id x ascend.2 is)
  ] refl is
  in_slots least ((n, Moved to) ∷ es) id x ascend is = in_behind least (n, Moved to) es id x ascend (in_slots (n + 1) es id x ascend.2 is)

  -- an object of these cars has this identity and says this
  abbrev pub IsAmong : List CarImage → ℕ → Object → Type 0
  IsAmong cars id x = (a : Addr) × (object : kept.Object) × (slot_named cars a ≡ Some (Live object)) × (object.id ≡ id) × (told all object ≡ x)

  among_behind : (car : CarImage) (cars : List CarImage) (id : ℕ) (x : Object) → Differ (car ∷ cars) → IsAmong cars id x → IsAmong (car ∷ cars) id x
  among_behind car cars id x differ at = (at.0, at.1, named_behind car cars at.0 (Live at.1) differ at.2, at.3, at.4)

  among_first : (car : CarImage) (cars : List CarImage) (id : ℕ) (x : Object) → IsIn car.slots id x → IsAmong (car ∷ cars) id x
  among_first car cars id x at = (record { car = car.number; slot = at.0 }, at.1, ap (λ b. cond b (slot_in car.slots at.0) (slot_named cars (record { car = car.number; slot = at.0 }))) (eq-eqb car.number car.number refl) ∙ at.2, at.3, at.4)

  either_side : (xs ys : List (ℕ × Object)) (id : ℕ) (x : Object) (o : Option Object) → find nat_cmp id xs ≡ o → or_else o (find nat_cmp id ys) ≡ Some x → (find nat_cmp id xs ≡ Some x) ⊎ (find nat_cmp id ys ≡ Some x)
  either_side xs ys id x None none is = inr is
  either_side xs ys id x (Some y) some is = inl (some ∙ is)

  objects_of : CarImage → List (ℕ × Object)
  objects_of car = objects_in all car.slots

  pub among_cars : (cars : List CarImage) (id : ℕ) (x : Object) → Differ cars → AllByRecursion (λ (car : CarImage). Ascend 0 car.slots) cars → find nat_cmp id (flat_map (λ (car : CarImage). objects_in all car.slots) cars) ≡ Some x → IsAmong cars id x
  among_cars [] id x differ ascend is = cc
  among_cars (car ∷ cars) id x differ ascend is =
      let rest : List (ℕ × Object) = flat_map (λ (car : CarImage). objects_in all car.slots) cars in
      elim (either_side (objects_in all car.slots) rest id x (find nat_cmp id (objects_in all car.slots)) refl (sym (find_in_two nat_cmp id (objects_in all car.slots) rest) ∙ is)) [
        | inl first ↦ among_first car cars id x (in_slots 0 car.slots id x ascend.0 first)
        | inr later ↦ among_behind car cars id x differ (among_cars cars id x differ.1 ascend.1 later)
      ]

  -- ---- an object that is listed is found

  some_if : (b : Bool) (x : Object) (o : Option Object) → (b ≡ true) ⊎ (is_some o ≡ true) → is_some (cond b (Some x) o) ≡ true
  some_if true x o either = refl
  some_if false x o (inl is) = cc
  some_if false x o (inr is) = is

  found_in_slots : (es : List (ℕ × Slot)) (n : ℕ) (object : kept.Object) → slot_in es n ≡ Some (Live object) → is_some (find nat_cmp object.id (objects_in all es)) ≡ true
  found_in_slots [] n object is = cc
  found_in_slots ((m, Live other) ∷ es) n object is =
      some_if (eq_by_cmp nat_cmp object.id other.id) (told all other) (find nat_cmp object.id (objects_in all es)) (elim (m == n) as (λ b. cond b (Some (Live other)) (slot_in es n) ≡ Some (Live object) → (eq_by_cmp nat_cmp object.id other.id ≡ true) ⊎ (is_some (find nat_cmp object.id (objects_in all es)) ≡ true)) [
        | true ↦ λ is. let same : other ≡ object = cc in inl (ap (λ (o : kept.Object). eq_by_cmp nat_cmp object.id o.id) same ∙ (eq_by_cmp_equiv nat_cmp_total).refl object.id)
        | false ↦ λ is. inr (found_in_slots es n object is)
      ] is)
  found_in_slots ((m, Moved to) ∷ es) n object is = elim (m == n) as (λ b. cond b (Some (Moved to)) (slot_in es n) ≡ Some (Live object) → is_some (find nat_cmp object.id (objects_in all es)) ≡ true) [
    | true ↦ λ is. cc
    | false ↦ λ is. found_in_slots es n object is
  ] is

  some_of_two : (o p : Option Object) → (is_some o ≡ true) ⊎ (is_some p ≡ true) → is_some (or_else o p) ≡ true
  some_of_two None p (inl is) = cc
  some_of_two None p (inr is) = is
  some_of_two (Some x) p either = refl

  pub found_in_cars : (cars : List CarImage) (a : Addr) (object : kept.Object) → slot_named cars a ≡ Some (Live object) → is_some (find nat_cmp object.id (flat_map (λ (car : CarImage). objects_in all car.slots) cars)) ≡ true
  found_in_cars [] a object is = cc
  found_in_cars (car ∷ cars) a object is =
      let rest : List (ℕ × Object) = flat_map (λ (car : CarImage). objects_in all car.slots) cars in
      ap is_some (find_in_two nat_cmp object.id (objects_in all car.slots) rest)
      ∙ some_of_two (find nat_cmp object.id (objects_in all car.slots)) (find nat_cmp object.id rest) (elim (car.number == a.car) as (λ b. cond b (slot_in car.slots a.slot) (slot_named cars a) ≡ Some (Live object) → (is_some (find nat_cmp object.id (objects_in all car.slots)) ≡ true) ⊎ (is_some (find nat_cmp object.id rest) ≡ true)) [
        | true ↦ λ is. inl (found_in_slots car.slots a.slot object is)
        | false ↦ λ is. inr (found_in_cars cars a object is)
      ] is)

some_one : (o : Option Object) → is_some o ≡ true → (x : Object) × (o ≡ Some x)
some_one None some = cc
some_one (Some x) some = (x, refl)

-- ---- the heap of listed cars

module _ (cars : List CarImage) (differ : Differ cars) (ascend : AllByRecursion (λ (car : CarImage). Ascend 0 car.slots) cars) where
  -- what it has is an object that is listed
  pub object_from : (id : ℕ) (x : Object) → get (heap_of cars) id ≡ Some x → IsAmong cars cars id x
  object_from id x is = among_cars cars cars id x differ ascend (sym (get-from_entries nat_cmp_total (flat_map (λ (car : CarImage). objects_in cars car.slots) cars) id) ∙ is)

  module _ (apart : (a b : Addr) (o p : kept.Object) → slot_named cars a ≡ Some (Live o) → slot_named cars b ≡ Some (Live p) → o.id ≡ p.id → a ≡ b) where
    -- and it has each object that is listed
    pub object_at : (a : Addr) (object : kept.Object) → slot_named cars a ≡ Some (Live object) → get (heap_of cars) object.id ≡ Some (told cars object)
    object_at a object is =
        let there = found_in_cars cars cars a object is in
        let known = some_one (get (heap_of cars) object.id) (ap is_some (get-from_entries nat_cmp_total (flat_map (λ (car : CarImage). objects_in cars car.slots) cars) object.id) ∙ there) in
        let at = object_from object.id known.0 known.1 in
        let same : at.0 ≡ a = apart at.0 a at.1 object at.2 is at.3 in
        let both : Some (Live at.1) ≡ Some (Live object) = sym at.2 ∙ ap (slot_named cars) same ∙ is in
        known.1 ∙ ap Some (sym at.4 ∙ ap (told cars) (one_object at.1 object both))
      where
        one_object : (o p : kept.Object) → Some (Live o) ≡ Some (Live p) → o ≡ p
        one_object o p is = cc
