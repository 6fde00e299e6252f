-- Where the cars in the list of a copy are found.
use Rattle.std.proofs.Common.{◌≡◌, ℕ, ◌==◌, ◌||◌, Bool, true, false, cond, refl, ap, sym, ◌∙◌, List, [], ◌∷◌, ◌++◌, Option, Some, None, is_some}
use Rattle.std.specs.Option.{option_and_then, option_map}
use Rattle.std.specs.List.{flat_map}
use Rattle.std.specs.FinMap.{get, entries}
use Rattle.std.proofs.lemmas.List.{map-append}
use Rattle.std.proofs.lemmas.Bool.{eqb-true}
use Rattle.pm_types.specs.declared.address.Addr.{Addr}
use Rattle.pm_types.specs.declared.object.Slot.{Slot}
use Rattle.pm_cars.specs.Cars.{Car}
use Rattle.pm_trains.specs.Trains.{Train, is_among, train_of}
use Rattle.pm_image.specs.Graphs.{slot_in, slot_named}
use Rattle.pm_view.specs.View.{SpaceView}
use Rattle.pm_view.specs.Reading.{slot_at, is_aside}
use Rattle.pm_copies.specs.Listed.{Listed, images, image_in, listed_car, listed_of, listed_cars}
use Rattle.pm_law_copies.proofs.Lists.{or_else}
use Rattle.pm_law_copies.proofs.Naming.{car_named, car_in_two, named_in, slot_of_entries}

pub images_append : (xs ys : List Listed) → images (xs ++ ys) ≡ images xs ++ images ys
images_append xs ys = map-append (λ (one : Listed). one.1) xs ys

-- the slots of a car, where it stands
abbrev slots_of : Option Car → Option (List (ℕ × Slot))
slots_of car = option_map (λ (car : Car). entries car.slots) car

module _ (view : SpaceView) where
  -- the slots of a car that is listed
  abbrev here : ℕ → Option (List (ℕ × Slot))
  here n = cond (is_aside view n) None (slots_of (get view.cars n))

  one_image : (train m n : ℕ) (o : Option Car) (same : Bool) → (m == n) ≡ same → car_named (images (image_in train m o)) n ≡ cond same (slots_of o) None
  one_image train m n None true is = refl
  one_image train m n None false is = refl
  one_image train m n (Some car) same is = ap (λ b. cond b (Some (entries car.slots)) None) is

  one_listed : (train m n : ℕ) (aside same : Bool) → (m == n) ≡ same → car_named (images (cond aside [] (image_in train m (get view.cars m)))) n ≡ cond same (cond aside None (slots_of (get view.cars m))) None
  one_listed train m n true true is = refl
  one_listed train m n true false is = refl
  one_listed train m n false same is = one_image train m n (get view.cars m) same is

  -- a car that is listed is found at its number alone
  one_found : (train m n : ℕ) → car_named (images (listed_car view train m)) n ≡ cond (m == n) (here n) None
  one_found train m n = one_listed train m n (is_aside view m) (m == n) refl ∙ moved (m == n) refl
    where
      moved : (same : Bool) → (m == n) ≡ same → cond same (here m) None ≡ cond same (here n) None
      moved true is = ap here (eqb-true m n is)
      moved false is = refl

  either : (a b : Bool) (h : Option (List (ℕ × Slot))) → or_else (cond a h None) (cond b h None) ≡ cond (a || b) h None
  either true true None = refl
  either true true (Some s) = refl
  either true false None = refl
  either true false (Some s) = refl
  either false b h = refl

  in_train : (train n : ℕ) (cars : List ℕ) → car_named (images (flat_map (listed_car view train) cars)) n ≡ cond (is_among n cars) (here n) None
  in_train train n [] = refl
  in_train train n (m ∷ cars) =
      ap (λ xs. car_named xs n) (images_append (listed_car view train m) (flat_map (listed_car view train) cars))
      ∙ car_in_two (images (listed_car view train m)) (images (flat_map (listed_car view train) cars)) n
      ∙ (λ i. or_else (one_found train m n i) (in_train train n cars i))
      ∙ either (m == n) (is_among n cars) (here n)

  train_step : (a : Bool) (number : ℕ) (o : Option ℕ) → (a || is_some o) ≡ is_some (cond a (Some number) o)
  train_step true number o = refl
  train_step false number o = refl

  in_trains : (n : ℕ) (trains : List Train) → car_named (images (flat_map (listed_of view) trains)) n ≡ cond (is_some (train_of trains n)) (here n) None
  in_trains n [] = refl
  in_trains n (t ∷ trains) =
      ap (λ xs. car_named xs n) (images_append (listed_of view t) (flat_map (listed_of view) trains))
      ∙ car_in_two (images (listed_of view t)) (images (flat_map (listed_of view) trains)) n
      ∙ (λ i. or_else (in_train t.number n t.cars i) (in_trains n trains i))
      ∙ either (is_among n t.cars) (is_some (train_of trains n)) (here n)
      ∙ ap (λ b. cond b (here n) None) (train_step (is_among n t.cars) t.number (train_of trains n))

  module _ (linked : (car : ℕ) → is_some (train_of view.trains.trains car) ≡ is_some (get view.cars car)) where
    there_or_not : (aside : Bool) (o : Option Car) → cond (is_some o) (cond aside None (slots_of o)) None ≡ cond aside None (slots_of o)
    there_or_not true None = refl
    there_or_not true (Some car) = refl
    there_or_not false None = refl
    there_or_not false (Some car) = refl

    -- the slots of a car are listed where it stands and is not set aside
    pub car_listed : (n : ℕ) → car_named (listed_cars view) n ≡ here n
    car_listed n = in_trains n view.trains.trains ∙ ap (λ b. cond b (here n) None) (linked n) ∙ there_or_not (is_aside view n) (get view.cars n)

    slot_there : (s : ℕ) (aside : Bool) (o : Option Car) → option_and_then (λ slots. slot_in slots s) (cond aside None (slots_of o)) ≡ cond aside None (option_and_then (λ (car : Car). get car.slots s) o)
    slot_there s true o = refl
    slot_there s false None = refl
    slot_there s false (Some car) = slot_of_entries car.slots s

    -- and so is a slot
    pub slot_listed : (a : Addr) → slot_named (listed_cars view) a ≡ cond (is_aside view a.car) None (slot_at view.cars a)
    slot_listed a = named_in (listed_cars view) a ∙ ap (option_and_then (λ slots. slot_in slots a.slot)) (car_listed a.car) ∙ slot_there a.slot (is_aside view a.car) (get view.cars a.car)

    pub slot_kept : (a : Addr) → is_aside view a.car ≡ false → slot_named (listed_cars view) a ≡ slot_at view.cars a
    slot_kept a free = slot_listed a ∙ ap (λ b. cond b None (slot_at view.cars a)) free

    -- a slot that is listed stands in a car that is not set aside
    pub slot_stands : (a : Addr) (slot : Slot) → slot_named (listed_cars view) a ≡ Some slot → (is_aside view a.car ≡ false) × (slot_at view.cars a ≡ Some slot)
    slot_stands a slot is = stands (is_aside view a.car) refl (sym (slot_listed a) ∙ is)
      where
        stands : (aside : Bool) → is_aside view a.car ≡ aside → cond aside None (slot_at view.cars a) ≡ Some slot → (is_aside view a.car ≡ false) × (slot_at view.cars a ≡ Some slot)
        stands true there is = cc
        stands false there is = (there, is)
