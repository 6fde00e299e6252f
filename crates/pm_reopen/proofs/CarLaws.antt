-- What a car is once all its slots were opened.
use Rattle.std.proofs.Common.{◌≡◌, ℕ, ◌+◌, ◌*◌, ◌≤◌, true, false, cond, List, [], ◌∷◌, length, Option, Some, None, refl, sym, ap, ◌∙◌, arith}
use Rattle.std.specs.Option.{option_map}
use Rattle.std.specs.Cmp.{nat_cmp_total}
use Rattle.std.specs.Ordering.{nat_cmp, eq_by_cmp}
use Rattle.std.specs.FinMap.{get, get-insert, get-empty, get-from_entries, from_entries, same_map, nat_cmp-IsAntisymmetric}
use Rattle.std.specs.FinMap.Entries.{find}
use Rattle.std.proofs.lemmas.Bool.{eqb-true}
use Rattle.std.proofs.lemmas.List.{length-map}
use Rattle.pm_types.specs.declared.limits.TheConstants.{CAR_HEAD_BYTES}
use Rattle.pm_types.specs.declared.object.Object.{Object}
use Rattle.pm_types.specs.declared.object.Slot.{Slot}
use Rattle.pm_types.specs.declared.object.Slot.TheVariants.{Live, Moved}
use Rattle.pm_cars.specs.Cars.{Car, object_room, slot_room, used, new_car}
use Rattle.pm_cars.proofs.Kept.{kept_new}
use Rattle.pm_image.specs.declared.car.CarImage.{CarImage}
use Rattle.pm_image.specs.declared.settled.KeptPage.{KeptPage}
use Rattle.pm_image.specs.CarPages.{Ascend, car_used}
use Rattle.pm_image.specs.Graphs.{images_of, slot_in}
use Rattle.pm_layout.specs.Spelling.{slot_size}
use Rattle.pm_copies.specs.Opened.{opened_object, next_after, opened_car}
use Rattle.pm_law_copies.proofs.Lists.{or_else, nat_turned}
use Rattle.pm_law_copies.proofs.Objects.{slot_from}
use Rattle.pm_law_copies.proofs.OpenedCars.{live_of, opened_slots, slot_opened}
use Rattle.pm_graphs.specs.Linking.{Leads, resolved_by, lead_cars}
use Rattle.pm_graphs.proofs.LinkingLaws.{AreAscending}
use Rattle.pm_reopen.specs.Making.{followed_object, with_slot, with_slots}
use Rattle.pm_reopen.proofs.LeadingLaws.{object_same}

-- ---- room

-- a slot takes the room that its record takes
pub room_of_slot : (slot : Slot) → slot_room slot ≡ 4 + slot_size slot
room_of_slot (Live object) = omega arith
room_of_slot (Moved to) = refl

-- an object takes the same room once its fields were followed
pub same_room : (leads : Leads) (object : Object) → object_room (followed_object leads object) ≡ object_room object
same_room leads object = ap (λ n. 17 + 12 * n + length object.bytes) (length-map object.fields (option_map (resolved_by leads)))

-- the head of a car's page is counted in what is used
pub head_used : (es : List (ℕ × Slot)) → CAR_HEAD_BYTES ≤ car_used es
head_used [] = omega arith
head_used ((number, slot) ∷ es) = let rest = head_used es in omega (arith, rest)

-- a car with no slot uses the room of its head
pub new_used : (number : ℕ) → used (new_car number) ≡ CAR_HEAD_BYTES
new_used number = sym (kept_new 0).counted

-- ---- the next slot

pub slots_next : (leads : Leads) (car : Car) (es : List (ℕ × Slot)) → (with_slots leads car es).next ≡ next_after car.next es
slots_next leads car [] = refl
slots_next leads car ((m, Live object) ∷ es) = slots_next leads (with_slot leads car (m, Live object)) es
slots_next leads car ((m, Moved to) ∷ es) = slots_next leads (with_slot leads car (m, Moved to)) es

pub slots_number : (leads : Leads) (car : Car) (es : List (ℕ × Slot)) → (with_slots leads car es).number ≡ car.number
slots_number leads car [] = refl
slots_number leads car ((m, Live object) ∷ es) = slots_number leads (with_slot leads car (m, Live object)) es
slots_number leads car ((m, Moved to) ∷ es) = slots_number leads (with_slot leads car (m, Moved to)) es

-- ---- the slots

module _ (kept : List KeptPage) (ascending : AreAscending kept) where
  leads : Leads
  leads = lead_cars kept

  all : List CarImage
  all = images_of kept

  none_behind : (m n : ℕ) (es : List (ℕ × Slot)) (o : Option Slot) → m ≡ n → Ascend (m + 1) es → slot_in es n ≡ o → o ≡ None
  none_behind m n es None same ascend is = refl
  none_behind m n es (Some slot) same ascend is = let later = slot_from (m + 1) es n slot ascend is in absurd (omega (arith, later, same))

  -- a slot of the car holds what was opened there, or what it held
  slot_held : (car : Car) (es : List (ℕ × Slot)) (n least : ℕ) → Ascend least es → get (with_slots leads car es).slots n ≡ or_else (find nat_cmp n (opened_slots all es)) (get car.slots n)
  unfolding leads all
  slot_held car [] n least ascend = refl
  slot_held car ((m, Moved to) ∷ es) n least ascend = slot_held (with_slot leads car (m, Moved to)) es n (m + 1) ascend.2
  slot_held car ((m, Live object) ∷ es) n least ascend =
      slot_held (with_slot leads car (m, Live object)) es n (m + 1) ascend.2
      ∙ ap (or_else (find nat_cmp n (opened_slots all es))) (get-insert nat_cmp_total car.slots m (Live (followed_object leads object)) n ∙ ap (λ o. cond (eq_by_cmp nat_cmp n m) (Some (Live o)) (get car.slots n)) (object_same kept ascending object))
      ∙ elim (eq_by_cmp nat_cmp n m) as (λ b. eq_by_cmp nat_cmp n m ≡ b → or_else (find nat_cmp n (opened_slots all es)) (cond b (Some (Live (opened_object all object))) (get car.slots n)) ≡ or_else (cond b (Some (Live (opened_object all object))) (find nat_cmp n (opened_slots all es))) (get car.slots n)) [
        | true ↦ λ here. ap (λ o. or_else o (Some (Live (opened_object all object)))) (slot_opened all (m + 1) es n ascend.2 ∙ ap (live_of all) (none_behind m n es (slot_in es n) (eqb-true m n (nat_turned m n ∙ here)) ascend.2 refl))
        | false ↦ λ there. refl
      ] refl

  or_none : (o : Option Slot) → or_else o None ≡ o
  or_none None = refl
  or_none (Some slot) = refl

  slots_all : (number : ℕ) (es : List (ℕ × Slot)) → Ascend 0 es → (with_slots leads (new_car number) es).slots ≡ from_entries (opened_slots all es)
  unfolding leads all
  slots_all number es ascend =
      same_map nat_cmp_total nat_cmp-IsAntisymmetric (with_slots leads (new_car number) es).slots (from_entries {R = nat_cmp} (opened_slots all es)) (λ q.
      slot_held (new_car number) es q 0 ascend
      ∙ ap (or_else (find nat_cmp q (opened_slots all es))) (get-empty nat_cmp q)
      ∙ or_none (find nat_cmp q (opened_slots all es))
      ∙ sym (get-from_entries nat_cmp_total (opened_slots all es) q))

  -- a car whose slots were all opened is the one that opening makes
  pub car_opened : (image : CarImage) → Ascend 0 image.slots → with_slots (lead_cars kept) (new_car image.number) image.slots ≡ opened_car (images_of kept) image
  unfolding leads all
  car_opened image ascend = λ i. record {
    number = slots_number leads (new_car image.number) image.slots i;
    slots = slots_all image.number image.slots ascend i;
    next = slots_next leads (new_car image.number) image.slots i;
  }
