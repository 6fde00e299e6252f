-- The cars that opening makes.
use Rattle.std.proofs.Common.{◌≡◌, ℕ, ◌+◌, ◌*◌, ◌<◌, ◌≤◌, ◌==◌, ◌&&◌, Bool, true, false, cond, T, refl, ap, sym, subst, ◌∙◌, List, [], ◌∷◌, map, length, Option, Some, None, arith}
use Rattle.std.specs.Option.{option_and_then, option_map}
use Rattle.std.specs.List.{flat_map, AllByRecursion, sum_by}
use Rattle.std.specs.Ordering.{is_lt, nat_cmp, eq_by_cmp}
use Rattle.std.specs.declared.cmp.Ordering.TheVariants.{Less}
use Rattle.std.specs.Cmp.{nat_cmp_is}
use Rattle.std.specs.FinMap.{get, entries, values, from_entries, get-from_entries, nat_cmp-IsAntisymmetric}
use Rattle.std.specs.FinMap.Entries.{find, below_all, is_sorted}
use Rattle.std.proofs.lemmas.Cmp.{nat_cmp_total}
use Rattle.std.proofs.lemmas.Bool.{eqb-true}
use Rattle.std.proofs.lemmas.List.{length-map}
use Rattle.std.proofs.lemmas.List.Sums.{sum_by-cons}
use Rattle.std.proofs.lemmas.Option.{same_Some}
use Rattle.pm_types.specs.declared.limits.TheConstants.{CAR_BYTES, LAST_SLOT}
use Rattle.pm_types.specs.declared.address.Addr.{Addr}
use Rattle.pm_types.specs.declared.object.Object.{Object}
use Rattle.pm_types.specs.declared.object.Slot.{Slot}
use Rattle.pm_types.specs.declared.object.Slot.TheVariants.{Live, Moved}
use Rattle.pm_cars.specs.Cars.{Car, slot_room, one_live, one_moved, object_room, live_count, moved_count}
use Rattle.pm_cars.specs.Cars as cars_of
use Rattle.pm_image.specs.declared.car.CarImage.{CarImage}
use Rattle.pm_image.specs.CarPages.{Ascend, car_used}
use Rattle.pm_image.specs.Graphs.{slot_in, slot_named}
use Rattle.pm_view.specs.Reading.{slot_at}
use Rattle.pm_copies.specs.Accepted.{Differ}
use Rattle.pm_copies.specs.Opened.{resolved_at, opened_object, opened_slot, next_after, opened_car, has_object, opened_entry, opened_cars}
use Rattle.pm_law_copies.proofs.Lists.{or_else, nat_turned, entries_made}
use Rattle.pm_law_copies.proofs.Naming.{car_named, named_in, all_in_cars}
use Rattle.pm_law_copies.proofs.Accepting.{room_used}
use Rattle.pm_law_copies.proofs.Objects.{find_in_two, slot_from, no_such_car}

-- what opening makes of what a slot holds: an object, or nothing where it was Moved
abbrev pub live_of : List CarImage → Option Slot → Option Slot
live_of all None = None
live_of all (Some (Live object)) = Some (Live (opened_object all object))
live_of all (Some (Moved to)) = None

-- the slots of a car that is opened
abbrev pub opened_slots : List CarImage → List (ℕ × Slot) → List (ℕ × Slot)
opened_slots all es = flat_map (opened_slot all) es

pub both : (a b : Bool) → T a → T b → T (a && b)
both true b one two = two
both false b one two = one

less_is : (m n : ℕ) → m < n → T (is_lt (nat_cmp m n))
less_is m n less = subst (λ r. T (is_lt r)) (nat_cmp_is m n Less less) tt

module _ (all : List CarImage) where
  -- ---- what is found

  none_behind : (m n : ℕ) (es : List (ℕ × Slot)) (o : Option Slot) → m ≡ n → Ascend (m + 1) es → slot_in es n ≡ o → o ≡ None
  none_behind m n es None same ascend is = refl
  none_behind m n es (Some slot) same ascend is = let later = slot_from (m + 1) es n slot ascend is in absurd (omega (arith, later, same))

  pub slot_opened : (least : ℕ) (es : List (ℕ × Slot)) (n : ℕ) → Ascend least es → find nat_cmp n (opened_slots all es) ≡ live_of all (slot_in es n)
  slot_opened least [] n ascend = refl
  slot_opened least ((m, Live object) ∷ es) n ascend =
      ap (cond (eq_by_cmp nat_cmp n m) (Some (Live (opened_object all object)))) (slot_opened (m + 1) es n ascend.2)
      ∙ ap (λ b. cond b (Some (Live (opened_object all object))) (live_of all (slot_in es n))) (sym (nat_turned m n))
      ∙ elim (m == n) as (λ b. cond b (Some (Live (opened_object all object))) (live_of all (slot_in es n)) ≡ live_of all (cond b (Some (Live object)) (slot_in es n))) [ true ↦ refl | false ↦ refl ]
  slot_opened least ((m, Moved to) ∷ es) n ascend =
      slot_opened (m + 1) es n ascend.2
      ∙ elim (m == n) as (λ b. (m == n) ≡ b → live_of all (slot_in es n) ≡ live_of all (cond b (Some (Moved to)) (slot_in es n))) [
        | true ↦ λ here. ap (live_of all) (none_behind m n es (slot_in es n) (eqb-true m n here) ascend.2 refl)
        | false ↦ λ there. refl
      ] refl

  -- a car without an object has none in a slot
  no_object : (es : List (ℕ × Slot)) (n : ℕ) → has_object es ≡ false → live_of all (slot_in es n) ≡ None
  no_object [] n none = refl
  no_object ((m, Live object) ∷ es) n none = cc
  no_object ((m, Moved to) ∷ es) n none = elim (m == n) as (λ b. live_of all (cond b (Some (Moved to)) (slot_in es n)) ≡ None) [ true ↦ refl | false ↦ no_object es n none ]

  -- what opening makes of the slots of a car
  abbrev pub car_opened : ℕ → Option (List (ℕ × Slot)) → Option Car
  car_opened n None = None
  car_opened n (Some slots) = cond (has_object slots) (Some (opened_car all (record { number = n; slots = slots }))) None

  first_opened : (car : CarImage) (n : ℕ) (same has : Bool) → (car.number == n) ≡ same → has_object car.slots ≡ has → (later : Option Car) → (same ≡ true → later ≡ None)
      → or_else (find nat_cmp n (cond has ((car.number, opened_car all car) ∷ []) [])) later ≡ cond same (cond has (Some (opened_car all (record { number = n; slots = car.slots }))) None) later
  first_opened car n true true is has later none =
      ap (λ b. or_else (cond b (Some (opened_car all car)) None) later) (sym (nat_turned car.number n) ∙ is)
      ∙ ap (λ m. Some (opened_car all (record { number = m; slots = car.slots }))) (eqb-true car.number n is)
  first_opened car n false true is has later none = ap (λ b. or_else (cond b (Some (opened_car all car)) None) later) (sym (nat_turned car.number n) ∙ is)
  first_opened car n true false is has later none = none refl
  first_opened car n false false is has later none = refl

  pub cars_opened : (cars : List CarImage) (n : ℕ) → Differ cars → find nat_cmp n (flat_map (opened_entry all) cars) ≡ car_opened n (car_named cars n)
  cars_opened [] n differ = refl
  cars_opened (car ∷ cars) n differ =
      find_in_two nat_cmp n (opened_entry all car) (flat_map (opened_entry all) cars)
      ∙ ap (or_else (find nat_cmp n (opened_entry all car))) (cars_opened cars n differ.1)
      ∙ first_opened car n (car.number == n) (has_object car.slots) refl refl (car_opened n (car_named cars n)) (λ here. ap (car_opened n) (ap (car_named cars) (sym (eqb-true car.number n here)) ∙ no_such_car car.number cars differ.0))
      ∙ elim (car.number == n) as (λ b. cond b (car_opened n (Some car.slots)) (car_opened n (car_named cars n)) ≡ car_opened n (cond b (Some car.slots) (car_named cars n))) [ true ↦ refl | false ↦ refl ]

  -- ---- the slots of a car that is opened

  below_opened : (n least : ℕ) (es : List (ℕ × Slot)) → n < least → Ascend least es → T (below_all nat_cmp n (opened_slots all es))
  below_opened n least [] less ascend = tt
  below_opened n least ((m, Live object) ∷ es) less ascend = (both (is_lt (nat_cmp n m)) _ (less_is n m (let low = ascend.0 in omega (arith, less, low))) (below_opened n (m + 1) es (let low = ascend.0 in omega (arith, less, low)) ascend.2))
  below_opened n least ((m, Moved to) ∷ es) less ascend = below_opened n (m + 1) es (let low = ascend.0 in omega (arith, less, low)) ascend.2

  sorted_opened : (least : ℕ) (es : List (ℕ × Slot)) → Ascend least es → T (is_sorted nat_cmp (opened_slots all es))
  sorted_opened least [] ascend = tt
  sorted_opened least ((m, Live object) ∷ es) ascend = both _ _ (below_opened m (m + 1) es (omega arith) ascend.2) (sorted_opened (m + 1) es ascend.2)
  sorted_opened least ((m, Moved to) ∷ es) ascend = sorted_opened (m + 1) es ascend.2

  pub entries_opened : (least : ℕ) (es : List (ℕ × Slot)) → Ascend least es → entries (from_entries {R = nat_cmp} (opened_slots all es)) ≡ opened_slots all es
  entries_opened least es ascend = entries_made nat_cmp_total nat_cmp-IsAntisymmetric (opened_slots all es) (sorted_opened least es ascend)

  same_room : (object : Object) → object_room (opened_object all object) ≡ object_room object
  same_room object = ap (λ n. 17 + 12 * n + length object.bytes) (length-map object.fields (option_map (resolved_at all)))

  room_kept : (es : List (ℕ × Slot)) → sum_by slot_room (map (λ (e : ℕ × Slot). e.1) (opened_slots all es)) ≤ sum_by slot_room (map (λ (e : ℕ × Slot). e.1) es)
  room_kept [] = omega arith
  room_kept ((m, Live object) ∷ es) =
      let rest = room_kept es in
      let same = same_room object in
      let here = sum_by-cons slot_room (Live (opened_object all object)) (map (λ (e : ℕ × Slot). e.1) (opened_slots all es)) in
      let there = sum_by-cons slot_room (Live object) (map (λ (e : ℕ × Slot). e.1) es) in
      omega (arith, rest, same, here, there)
  room_kept ((m, Moved to) ∷ es) =
      let rest = room_kept es in
      let there = sum_by-cons slot_room (Moved to) (map (λ (e : ℕ × Slot). e.1) es) in
      omega (arith, rest, there)

  no_moved : (es : List (ℕ × Slot)) → sum_by one_moved (map (λ (e : ℕ × Slot). e.1) (opened_slots all es)) ≡ 0
  no_moved [] = refl
  no_moved ((m, Live object) ∷ es) =
      let rest = no_moved es in
      let here = sum_by-cons one_moved (Live (opened_object all object)) (map (λ (e : ℕ × Slot). e.1) (opened_slots all es)) in
      omega (arith, rest, here)
  no_moved ((m, Moved to) ∷ es) = no_moved es

  some_live : (es : List (ℕ × Slot)) → has_object es ≡ true → 0 < sum_by one_live (map (λ (e : ℕ × Slot). e.1) (opened_slots all es))
  some_live [] has = cc
  some_live ((m, Live object) ∷ es) has =
      let here = sum_by-cons one_live (Live (opened_object all object)) (map (λ (e : ℕ × Slot). e.1) (opened_slots all es)) in
      omega (arith, here)
  some_live ((m, Moved to) ∷ es) has = some_live es has

  -- ---- the next slot

  next_grows : (least : ℕ) (es : List (ℕ × Slot)) → Ascend least es → least ≤ next_after least es
  next_grows least [] ascend = omega arith
  next_grows least (e ∷ es) ascend = let later = next_grows (e.0 + 1) es ascend.2 in let low = ascend.0 in omega (arith, later, low)

  pub next_past : (least : ℕ) (es : List (ℕ × Slot)) (n : ℕ) (slot : Slot) → Ascend least es → slot_in es n ≡ Some slot → n < next_after least es
  next_past least [] n slot ascend is = cc
  next_past least (e ∷ es) n slot ascend is = elim (e.0 == n) as (λ b. (e.0 == n) ≡ b → cond b (Some e.1) (slot_in es n) ≡ Some slot → n < next_after (e.0 + 1) es) [
    | true ↦ λ here is. let same = eqb-true e.0 n here in let later = next_grows (e.0 + 1) es ascend.2 in omega (arith, same, later)
    | false ↦ λ there is. next_past (e.0 + 1) es n slot ascend.2 is
  ] refl is

  next_small : (next least : ℕ) (es : List (ℕ × Slot)) → next ≤ LAST_SLOT + 1 → Ascend least es → next_after next es ≤ LAST_SLOT + 1
  next_small next least [] small ascend = small
  next_small next least (e ∷ es) small ascend = next_small (e.0 + 1) (e.0 + 1) es (let low = ascend.1 in omega (arith, low)) ascend.2

  gone_past : (es : List (ℕ × Slot)) (n : ℕ) (o : Option Slot) → Ascend 0 es → next_after 0 es ≤ n → slot_in es n ≡ o → live_of all o ≡ None
  gone_past es n None ascend past is = refl
  gone_past es n (Some slot) ascend past is = let within = next_past 0 es n slot ascend is in absurd (omega (arith, within, past))

  -- ---- a car that is opened

  module _ (car : CarImage) (ascend : Ascend 0 car.slots) where
    pub get_opened : (n : ℕ) → get (opened_car all car).slots n ≡ live_of all (slot_in car.slots n)
    get_opened n = get-from_entries nat_cmp_total (opened_slots all car.slots) n ∙ slot_opened 0 car.slots n ascend

    values_opened : values (opened_car all car).slots ≡ map (λ (e : ℕ × Slot). e.1) (opened_slots all car.slots)
    values_opened = ap (map (λ (e : ℕ × Slot). e.1)) (entries_opened 0 car.slots ascend)

    pub car_sound : car_used car.slots ≤ CAR_BYTES → cars_of.IsSoundCar (opened_car all car)
    car_sound fits = record {
      room =
          let kept = room_kept car.slots in
          let spelled = room_used car.slots in
          let same = ap (sum_by slot_room) values_opened in
          omega (arith, kept, spelled, same, fits);
      next = next_small 0 0 car.slots (omega arith) ascend;
      below = λ slot past. get_opened slot ∙ gone_past car.slots slot (slot_in car.slots slot) ascend past refl;
    }

    pub car_has : has_object car.slots ≡ true → 0 < live_count (opened_car all car)
    car_has has = subst (λ n. 0 < n) (sym (ap (sum_by one_live) values_opened)) (some_live car.slots has)

    pub car_still : moved_count (opened_car all car) ≡ 0
    car_still = ap (sum_by one_moved) values_opened ∙ no_moved car.slots

-- ---- the slots of all cars that are opened

module _ (cars : List CarImage) (differ : Differ cars) (ascend : AllByRecursion (λ (car : CarImage). Ascend 0 car.slots) cars) where
  pub car_found : (n : ℕ) → get (opened_cars cars) n ≡ car_opened cars n (car_named cars n)
  car_found n = get-from_entries nat_cmp_total (flat_map (opened_entry cars) cars) n ∙ cars_opened cars cars n differ

  slot_of : (a : Addr) (o : Option (List (ℕ × Slot))) → car_named cars a.car ≡ o → option_and_then (λ (car : Car). get car.slots a.slot) (car_opened cars a.car o) ≡ live_of cars (option_and_then (λ slots. slot_in slots a.slot) o)
  slot_of a None is = refl
  slot_of a (Some slots) is = elim (has_object slots) as (λ b. has_object slots ≡ b → option_and_then (λ (car : Car). get car.slots a.slot) (cond b (Some (opened_car cars (record { number = a.car; slots = slots }))) None) ≡ live_of cars (slot_in slots a.slot)) [
    | true ↦ λ has. get_opened cars (record { number = a.car; slots = slots }) (all_in_cars (λ (car : CarImage). Ascend 0 car.slots) cars a.car slots ascend is) a.slot
    | false ↦ λ none. sym (no_object cars slots a.slot none)
  ] refl

  -- a place holds the object that it held, with its fields followed, or nothing
  pub slot_at_opened : (a : Addr) → slot_at (opened_cars cars) a ≡ live_of cars (slot_named cars a)
  slot_at_opened a =
      ap (option_and_then (λ (car : Car). get car.slots a.slot)) (car_found a.car)
      ∙ slot_of a (car_named cars a.car) refl
      ∙ ap (live_of cars) (sym (named_in cars a))

  -- a car that stands was listed, and had an object
  pub from_listed : (n : ℕ) (car : Car) → get (opened_cars cars) n ≡ Some car → (slots : List (ℕ × Slot)) × (car_named cars n ≡ Some slots) × (has_object slots ≡ true) × (car ≡ opened_car cars (record { number = n; slots = slots }))
  from_listed n car is = from (car_named cars n) refl (sym (car_found n) ∙ is)
    where
      from : (o : Option (List (ℕ × Slot))) → car_named cars n ≡ o → car_opened cars n o ≡ Some car → (slots : List (ℕ × Slot)) × (car_named cars n ≡ Some slots) × (has_object slots ≡ true) × (car ≡ opened_car cars (record { number = n; slots = slots }))
      from None here is = cc
      from (Some slots) here is = elim (has_object slots) as (λ b. has_object slots ≡ b → cond b (Some (opened_car cars (record { number = n; slots = slots }))) None ≡ Some car → (slots : List (ℕ × Slot)) × (car_named cars n ≡ Some slots) × (has_object slots ≡ true) × (car ≡ opened_car cars (record { number = n; slots = slots }))) [
        | true ↦ λ has is. (slots, here, has, sym (same_Some _ car is))
        | false ↦ λ none is. cc
      ] refl is
