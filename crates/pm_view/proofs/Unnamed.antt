-- What the objects of the examples are, and that no source of the space without a register names one.
use Rattle.std.proofs.Common.{◌≡◌, ◌≤◌, ℕ, Bool, true, false, cond, refl, ap, ◌∙◌, sym, subst, List, [], ◌∷◌, length, Option, Some, None, arith}
use Rattle.std.specs.Option.{IsSomeAnd, option_and_then, option_map}
use Rattle.std.specs.FinMap.{get, insert, empty, entries, get-insert, get-empty, len-entries, len-empty, nat_cmp-IsAntisymmetric}
use Rattle.std.specs.Cmp.{nat_cmp_total}
use Rattle.std.specs.Ordering.{nat_cmp, eq_by_cmp}
use Rattle.std.proofs.lemmas.Map.Views.{tells_apart}
use Rattle.pm_types.specs.Orders.{name_cmp, place_cmp}
use Rattle.pm_types.specs.declared.address.Addr.{Addr}
use Rattle.pm_types.specs.declared.source.RefSource.{RefSource}
use Rattle.pm_types.specs.declared.source.RefSource.TheVariants.{Root, Handle, Field}
use Rattle.pm_types.specs.declared.object.Object.{Object}
use Rattle.pm_types.specs.declared.object.Slot.{Slot}
use Rattle.pm_types.specs.declared.object.Slot.TheVariants.{Live}
use Rattle.pm_cars.specs.Cars.{Car, Slots, object_of}
use Rattle.pm_trains.specs.Trains.{train_of}
use Rattle.pm_view.specs.declared.phase.Phase.{Phase}
use Rattle.pm_view.specs.View.{SpaceView}
use Rattle.pm_view.specs.Reading.{stored, slot_at, field_of}
use Rattle.pm_view.specs.Sinking.{IsOf}
use Rattle.pm_view.specs.Examples.{bare, three_slots, two_slots, two_cars}

-- a space without a name has no entry of one
pub no_name : entries (empty {X = ℕ × Addr} {R = name_cmp}) ≡ []
no_name = no_length (entries (empty {X = ℕ × Addr} {R = name_cmp})) (sym (len-entries (empty {X = ℕ × Addr} {R = name_cmp})) ∙ len-empty name_cmp (ℕ × Addr))
  where
    no_length : {A : Type 0} (xs : List A) → length xs ≡ 0 → xs ≡ []
    no_length [] is = refl
    no_length (x ∷ xs) is = absurd (omega (arith, is))

-- ---- where the first object of each car is

module _ (phase : Phase) (anchor : Option (Addr × ℕ)) where
  abbrev space : SpaceView
  space = two_cars phase anchor

  abbrev one_car : Car
  one_car = record { number = 1; slots = three_slots; next = 3 }

  abbrev other_car : Car
  other_car = record { number = 2; slots = two_slots; next = 2 }

  car_at : (c : ℕ) → get space.cars c ≡ cond (eq_by_cmp nat_cmp c 2) (Some other_car) (cond (eq_by_cmp nat_cmp c 1) (Some one_car) None)
  car_at c =
      get-insert nat_cmp_total (insert empty 1 one_car) 2 other_car c
      ∙ ap (cond (eq_by_cmp nat_cmp c 2) (Some other_car)) (get-insert nat_cmp_total empty 1 one_car c ∙ ap (cond (eq_by_cmp nat_cmp c 1) (Some one_car)) (get-empty nat_cmp c))

  pub first_there : slot_at space.cars (record { car = 1; slot = 0 }) ≡ Some (Live (bare 1))
  first_there =
      ap (option_and_then (λ (car : Car). get car.slots 0)) (car_at 1)
      ∙ get-insert nat_cmp_total (insert (insert empty 0 (Live (bare 1))) 1 (Live (bare 2))) 2 (Live (bare 3)) 0
      ∙ get-insert nat_cmp_total (insert empty 0 (Live (bare 1))) 1 (Live (bare 2)) 0
      ∙ get-insert nat_cmp_total empty 0 (Live (bare 1)) 0

  pub fourth_there : slot_at space.cars (record { car = 2; slot = 0 }) ≡ Some (Live (bare 4))
  fourth_there =
      ap (option_and_then (λ (car : Car). get car.slots 0)) (car_at 2)
      ∙ get-insert nat_cmp_total (insert empty 0 (Live (bare 4))) 1 (Live (bare 5)) 0
      ∙ get-insert nat_cmp_total empty 0 (Live (bare 4)) 0

  -- ---- no object has a field

  -- what is in a slot has no field
  abbrev IsBare : Option Slot → Type 0
  IsBare o = (index : ℕ) → field_of (object_of o) index ≡ None

  bare_more : (slots : Slots) (k id : ℕ) → ((slot : ℕ) → IsBare (get slots slot)) → (slot : ℕ) → IsBare (get (insert slots k (Live (bare id))) slot)
  bare_more slots k id each slot = subst IsBare (sym (get-insert nat_cmp_total slots k (Live (bare id)) slot)) (by_case (eq_by_cmp nat_cmp slot k))
    where
      by_case : (b : Bool) → IsBare (cond b (Some (Live (bare id))) (get slots slot))
      by_case true = λ index. refl
      by_case false = each slot

  bare_none : (slot : ℕ) → IsBare (get (empty {X = Slot} {R = nat_cmp}) slot)
  bare_none slot = subst IsBare (sym (get-empty nat_cmp slot)) (λ index. refl)

  no_field : (a : Addr) (index : ℕ) → stored space (Field a index) ≡ None
  no_field a index = ap (λ o. field_of (object_of (option_and_then (λ (car : Car). get car.slots a.slot) o)) index) (car_at a.car) ∙ by_car (eq_by_cmp nat_cmp a.car 2) (eq_by_cmp nat_cmp a.car 1)
    where
      by_car : (b c : Bool) → field_of (object_of (option_and_then (λ (car : Car). get car.slots a.slot) (cond b (Some other_car) (cond c (Some one_car) None)))) index ≡ None
      by_car true c = bare_more (insert empty 0 (Live (bare 4))) 1 5 (bare_more empty 0 4 bare_none) a.slot index
      by_car false true = bare_more (insert (insert empty 0 (Live (bare 1))) 1 (Live (bare 2))) 2 3 (bare_more (insert empty 0 (Live (bare 1))) 1 2 (bare_more empty 0 1 bare_none)) a.slot index
      by_car false false = refl

  -- nothing is stored anywhere
  pub nothing_stored : (x : RefSource) → stored space x ≡ None
  nothing_stored (Root number) = rw no_name refl
  nothing_stored (Handle client register) = get-empty place_cmp (client, register)
  nothing_stored (Field a index) = no_field a index

  -- the identity at a slot of a car
  abbrev id_in : ℕ → Option Car → Option ℕ
  id_in slot o = option_map (λ (o : Object). o.id) (object_of (option_and_then (λ (car : Car). get car.slots slot) o))

  -- each object is in train 1
  pub in_train : (Of : ℕ → Type 0) (a : Addr) → IsOf space Of a → IsSomeAnd (train_of space.trains.trains a.car) (λ train. train ≤ 1)
  in_train Of a of = by_car (eq_by_cmp nat_cmp a.car 2) refl (eq_by_cmp nat_cmp a.car 1) refl (subst (λ o. IsSomeAnd (id_in a.slot o) Of) (car_at a.car) of)
    where
      by_car : (b : Bool) → eq_by_cmp nat_cmp a.car 2 ≡ b → (c : Bool) → eq_by_cmp nat_cmp a.car 1 ≡ c → IsSomeAnd (id_in a.slot (cond b (Some other_car) (cond c (Some one_car) None))) Of → IsSomeAnd (train_of space.trains.trains a.car) (λ train. train ≤ 1)
      by_car true two c one of = subst (λ car. IsSomeAnd (train_of space.trains.trains car) (λ train. train ≤ 1)) (sym (tells_apart nat_cmp-IsAntisymmetric a.car 2 two)) (omega arith)
      by_car false two true one of = subst (λ car. IsSomeAnd (train_of space.trains.trains car) (λ train. train ≤ 1)) (sym (tells_apart nat_cmp-IsAntisymmetric a.car 1 one)) (omega arith)
      by_car false two false one of = absurd of
