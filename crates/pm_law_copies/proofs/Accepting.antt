-- What a copy of a space lists is accepted again.
use Rattle.std.proofs.Common.{◌≡◌, ℕ, suc, ◌+◌, ◌<◌, ◌≤◌, ◌==◌, Bool, true, false, cond, T, refl, ap, sym, subst, ◌∙◌, List, [], ◌∷◌, ◌++◌, map, length, Option, Some, None, arith, is_some, nat_lt}
use Rattle.std.specs.Option.{option_and_then}
use Rattle.std.specs.List.{flat_map, AllByRecursion, count_by, slice_get, sum_by}
use Rattle.std.specs.declared.cmp.Ordering.{Ordering}
use Rattle.std.specs.declared.cmp.Ordering.TheVariants.{Less, Equal, Greater}
use Rattle.std.specs.Ordering.{is_lt, nat_cmp, MatchOrdering}
use Rattle.std.specs.Cmp.{ranks}
use Rattle.std.specs.FinMap.{get, entries, entries_sorted, get-entries, len-entries}
use Rattle.std.specs.FinMap.Entries.{find, below_all, is_sorted}
use Rattle.std.proofs.lemmas.Cmp.{nat_cmp_total}
use Rattle.std.proofs.lemmas.Bool.{eq-eqb, ltb-true, ltb-false}
use Rattle.std.proofs.lemmas.List.Sums.{sum_by-cons}
use Rattle.pm_types.specs.Orders.{name_cmp}
use Rattle.pm_types.proofs.Orders.{names_total}
use Rattle.pm_types.specs.declared.limits.TheConstants.{FIELDS, ROOTS, CAR_HEAD_BYTES, CAR_BYTES, LAST_SLOT}
use Rattle.pm_types.specs.declared.address.Addr.{Addr}
use Rattle.pm_types.specs.declared.object.Object.{Object}
use Rattle.pm_types.specs.declared.object.Slot.{Slot}
use Rattle.pm_types.specs.declared.object.Slot.TheVariants.{Live, Moved}
use Rattle.pm_cars.specs.Cars.{Car, slot_room, look_of, object_of}
use Rattle.pm_trains.specs.Trains.{Train}
use Rattle.pm_trains.specs.Sound.{Rise, all_cars, places}
use Rattle.pm_layout.specs.Spelling.{HasSpelling, HasCar, slot_size}
use Rattle.pm_image.specs.declared.car.CarImage.{CarImage}
use Rattle.pm_image.specs.CarPages.{Ascend, car_used}
use Rattle.pm_image.specs.Graphs.{identity_in}
use Rattle.pm_image.specs.Leading.{FieldLeads, SlotLeads, CarLeads, RootLeads}
use Rattle.pm_view.specs.View.{SpaceView}
use Rattle.pm_view.specs.Reading.{slot_at, object_at, is_aside}
use Rattle.pm_view.specs.Law.{HeapLaw}
use Rattle.pm_copies.specs.Listed.{Listed, images, image_in, listed_car, listed_of, listed, listed_cars, root_entry, root_entries}
use Rattle.pm_copies.specs.Accepted.{IsAcceptedCar, Differ, NeverFall, NamesAscend, roots_in, IsAccepted}
use Rattle.pm_law_copies.proofs.Lists.{all_append, all_fields, all_mapped, all_entries, count_append, none_counted}
use Rattle.pm_roots.proofs.Sorted.{first, second}
use Rattle.pm_law_copies.proofs.Listing.{images_append}
use Rattle.pm_law_copies.proofs.Resolving.{live_look, car_from_one, resolved_some, field_leads, root_leads, leads_from_one, object_stands, object_listed}

-- ---- numbers in order

less_holds : (r : Ordering) (P Q S : Type 0) → T (is_lt r) → MatchOrdering r P Q S → P
less_holds Less P Q S less holds = holds
less_holds Equal P Q S less holds = absurd less
less_holds Greater P Q S less holds = absurd less

pub below : (m n : ℕ) → T (is_lt (nat_cmp m n)) → m < n
below m n less = less_holds (nat_cmp m n) (m < n) (m ≡ n) (n < m) less (ranks m n)

-- a slot from a least one on, and none over the last
abbrev IsFrom : ℕ → ℕ × Slot → Type 0
IsFrom least e = (least ≤ e.0) × (e.0 ≤ LAST_SLOT)

above : (n : ℕ) (es : List (ℕ × Slot)) → T (below_all nat_cmp n es) → (least : ℕ) → AllByRecursion (IsFrom least) es → AllByRecursion (IsFrom (n + 1)) es
above n [] less least all = tt
above n (e ∷ es) less least all = let first = below n e.0 (first _ _ less) in ((omega (arith, first), all.0.1), above n es (second _ _ less) least all.1)

ascending : (least : ℕ) (es : List (ℕ × Slot)) → T (is_sorted nat_cmp es) → AllByRecursion (IsFrom least) es → Ascend least es
ascending least [] sorted all = tt
ascending least (e ∷ es) sorted all = (all.0.0, all.0.1, ascending (e.0 + 1) es (second _ _ sorted) (above e.0 es (first _ _ sorted) least all.1))

-- ---- room

room_spelled : (slot : Slot) → 4 + slot_size slot ≡ slot_room slot
room_spelled (Live object) = omega arith
room_spelled (Moved to) = refl

pub room_used : (es : List (ℕ × Slot)) → car_used es ≡ CAR_HEAD_BYTES + sum_by slot_room (map (λ (e : ℕ × Slot). e.1) es)
room_used [] = refl
room_used (e ∷ es) =
    let first = room_spelled e.1 in
    let rest = room_used es in
    let sum = sum_by-cons slot_room e.1 (map (λ (e : ℕ × Slot). e.1) es) in
    omega (arith, first, rest, sum)

-- ---- cars that are listed

module _ (view : SpaceView) where
  module _ (P : CarImage → Type 0) (each : (n : ℕ) (car : Car) → is_aside view n ≡ false → get view.cars n ≡ Some car → P (record { number = n; slots = entries car.slots })) where
    of_image : (train n : ℕ) (o : Option Car) → is_aside view n ≡ false → get view.cars n ≡ o → AllByRecursion P (images (image_in train n o))
    of_image train n None free is = tt
    of_image train n (Some car) free is = (each n car free is, tt)

    of_car : (train n : ℕ) (aside : Bool) → is_aside view n ≡ aside → AllByRecursion P (images (cond aside [] (image_in train n (get view.cars n))))
    of_car train n true is = tt
    of_car train n false is = of_image train n (get view.cars n) is refl

    of_cars : (train : ℕ) (cars : List ℕ) → AllByRecursion P (images (flat_map (listed_car view train) cars))
    of_cars train [] = tt
    of_cars train (n ∷ cars) =
        subst (AllByRecursion P) (sym (images_append (listed_car view train n) (flat_map (listed_car view train) cars)))
        (all_append P (images (listed_car view train n)) (images (flat_map (listed_car view train) cars)) (of_car train n (is_aside view n) refl) (of_cars train cars))

    of_trains : (trains : List Train) → AllByRecursion P (images (flat_map (listed_of view) trains))
    of_trains [] = tt
    of_trains (t ∷ trains) =
        subst (AllByRecursion P) (sym (images_append (listed_of view t) (flat_map (listed_of view) trains)))
        (all_append P (images (listed_of view t)) (images (flat_map (listed_of view) trains)) (of_cars t.number t.cars) (of_trains trains))

    -- what holds of each car that stands and is not set aside holds of each that is listed
    pub all_listed : AllByRecursion P (listed_cars view)
    all_listed = of_trains view.trains.trains

  -- ---- no car is listed twice

  abbrev listed_times : ℕ → List Listed → ℕ
  listed_times n xs = count_by (λ (car : CarImage). car.number == n) (images xs)

  times_append : (n : ℕ) (xs ys : List Listed) → listed_times n (xs ++ ys) ≡ listed_times n xs + listed_times n ys
  times_append n xs ys = ap (count_by (λ (car : CarImage). car.number == n)) (images_append xs ys) ∙ count_append (λ (car : CarImage). car.number == n) (images xs) (images ys)

  image_once : (n train m : ℕ) (o : Option Car) → listed_times n (image_in train m o) ≤ cond (m == n) 1 0
  image_once n train m None = elim (m == n) as (λ b. 0 ≤ cond b 1 0) [ true ↦ omega arith | false ↦ omega arith ]
  image_once n train m (Some car) = omega arith

  car_once : (n train m : ℕ) (aside : Bool) → listed_times n (cond aside [] (image_in train m (get view.cars m))) ≤ cond (m == n) 1 0
  car_once n train m true = elim (m == n) as (λ b. 0 ≤ cond b 1 0) [ true ↦ omega arith | false ↦ omega arith ]
  car_once n train m false = image_once n train m (get view.cars m)

  cars_once : (n train : ℕ) (cars : List ℕ) → listed_times n (flat_map (listed_car view train) cars) ≤ count_by (λ c. c == n) cars
  cars_once n train [] = omega arith
  cars_once n train (m ∷ cars) =
      let first = car_once n train m (is_aside view m) in
      let rest = cars_once n train cars in
      let here = times_append n (listed_car view train m) (flat_map (listed_car view train) cars) in
      let there = sum_by-cons (λ c. cond (c == n) 1 0) m cars in
      omega (arith, first, rest, here, there)

  trains_once : (n : ℕ) (trains : List Train) → listed_times n (flat_map (listed_of view) trains) ≤ places n trains
  trains_once n [] = omega arith
  trains_once n (t ∷ trains) =
      let first = cars_once n t.number t.cars in
      let rest = trains_once n trains in
      let here = times_append n (listed_of view t) (flat_map (listed_of view) trains) in
      let there = count_append (λ c. c == n) t.cars (all_cars trains) in
      omega (arith, first, rest, here, there)

  -- ---- trains never fall

  abbrev IsOf : ℕ → Listed → Type 0
  IsOf train one = one.0 ≡ train

  image_of_train : (train n : ℕ) (o : Option Car) → AllByRecursion (IsOf train) (image_in train n o)
  image_of_train train n None = tt
  image_of_train train n (Some car) = (refl, tt)

  car_of_train : (train n : ℕ) (aside : Bool) → AllByRecursion (IsOf train) (cond aside [] (image_in train n (get view.cars n)))
  car_of_train train n true = tt
  car_of_train train n false = image_of_train train n (get view.cars n)

  cars_of_train : (train : ℕ) (cars : List ℕ) → AllByRecursion (IsOf train) (flat_map (listed_car view train) cars)
  cars_of_train train [] = tt
  cars_of_train train (n ∷ cars) = all_append (IsOf train) (listed_car view train n) (flat_map (listed_car view train) cars) (car_of_train train n (is_aside view n)) (cars_of_train train cars)

fall_append : (train : ℕ) (xs ys : List Listed) → AllByRecursion (λ (one : Listed). one.0 ≡ train) xs → ((least : ℕ) → least ≤ train → NeverFall least ys) → (least : ℕ) → least ≤ train → NeverFall least (xs ++ ys)
fall_append train [] ys all rest least low = rest least low
fall_append train (one ∷ xs) ys all rest least low = let same = all.0 in (omega (arith, same, low), fall_append train xs ys all.1 rest one.0 (omega (arith, same)))

trains_fall : (view : SpaceView) (low : ℕ) (trains : List Train) → Rise low trains → (least : ℕ) → least ≤ low → NeverFall least (flat_map (listed_of view) trains)
trains_fall view low [] rise least small = tt
trains_fall view low (t ∷ trains) rise least small =
    let first = rise.0 in
    fall_append t.number (listed_of view t) (flat_map (listed_of view) trains) (cars_of_train view t.number t.cars) (trains_fall view t.number trains rise.1) least (omega (arith, first, small))

-- cars that are each there once at most differ
itself : (n : ℕ) → ◌≡◌ {A = ℕ} (cond (n == n) 1 0) 1
itself n = ap (λ (b : Bool). cond {A = ℕ} b 1 0) (eq-eqb n n refl)

differ_once : (cars : List CarImage) → ((n : ℕ) → count_by (λ (car : CarImage). car.number == n) cars ≤ 1) → Differ cars
differ_once [] once = tt
differ_once (car ∷ cars) once = (
  none_counted (λ (other : CarImage). other.number == car.number) cars
      (let here = once car.number in
      let one = itself car.number in
      let parts = sum_by-cons (λ (other : CarImage). cond (other.number == car.number) 1 0) car cars in
      omega (arith, here, one, parts)),
  differ_once cars (λ n. let whole = once n in let parts = sum_by-cons (λ (other : CarImage). cond (other.number == n) 1 0) car cars in omega (arith, whole, parts)),
)

-- ---- names

names_ascend : (e : List ℕ × (ℕ × Addr)) (es : List (List ℕ × (ℕ × Addr))) → T (is_sorted name_cmp (e ∷ es)) → NamesAscend (Some e.0) (map root_entry es)
names_ascend e [] sorted = tt
names_ascend e (f ∷ es) sorted = (is_true (is_lt (name_cmp e.0 f.0)) (first _ _ (first _ _ sorted)), names_ascend f es (second _ _ sorted))
  where
    is_true : (b : Bool) → T b → b ≡ true
    is_true true holds = refl
    is_true false holds = absurd holds

all_names_ascend : (es : List (List ℕ × (ℕ × Addr))) → T (is_sorted name_cmp es) → NamesAscend None (map root_entry es)
all_names_ascend [] sorted = tt
all_names_ascend (e ∷ es) sorted = (refl, names_ascend e es sorted)

as_many : (es : List (List ℕ × (ℕ × Addr))) → length (roots_in (map root_entry es)) ≡ length es
as_many [] = refl
as_many (e ∷ es) = ap suc (as_many es)

-- ---- what is listed is accepted

module _ (view : SpaceView) (law : HeapLaw view) where
  -- what stands in a slot of a car is read at its address
  at_address : (n : ℕ) (car : Car) (s : ℕ) (slot : Slot) → get view.cars n ≡ Some car → find nat_cmp s (entries car.slots) ≡ Some slot → slot_at view.cars (record { car = n; slot = s }) ≡ Some slot
  at_address n car s slot is found = ap (option_and_then (λ (car : Car). get car.slots s)) is ∙ get-entries car.slots s ∙ found

  -- what holds of each slot
  in_slots : (P : ℕ × Slot → Type 0) (n : ℕ) (car : Car) → get view.cars n ≡ Some car → ((s : ℕ) (slot : Slot) → slot_at view.cars (record { car = n; slot = s }) ≡ Some slot → P (s, slot)) → AllByRecursion P (entries car.slots)
  in_slots P n car is each = all_entries nat_cmp_total P (entries car.slots) (entries_sorted car.slots) (λ s slot found. each s slot (at_address n car s slot is found))

  slot_below : (n : ℕ) (car : Car) (s : ℕ) (slot : Slot) → get view.cars n ≡ Some car → slot_at view.cars (record { car = n; slot = s }) ≡ Some slot → IsFrom 0 (s, slot)
  slot_below n car s slot is here =
      (omega arith, within (nat_lt s car.next) refl)
    where
      within : (b : Bool) → nat_lt s car.next ≡ b → s ≤ LAST_SLOT
      within true is_below = let next = (law.built.cars n car is).sound.next in let less = ltb-true s car.next is_below in omega (arith, next, less)
      within false is_past =
          let gone : slot_at view.cars (record { car = n; slot = s }) ≡ None = ap (option_and_then (λ (car : Car). get car.slots s)) is ∙ (law.built.cars n car is).sound.below s (ltb-false s car.next is_past) in
          let clash : None ≡ Some slot = sym gone ∙ here in
          cc

  field_spelled : (a : Addr) (object : Object) → is_aside view a.car ≡ false → object_at view.cars a ≡ Some object → (i : ℕ) (field : Option Addr) → slice_get object.fields i ≡ Some field → HasCar field
  field_spelled a object free is i None here = tt
  field_spelled a object free is i (Some to) here = leads_from_one view law to (field_leads view law a object i to free is here).1

  slot_spelled : (a : Addr) (slot : Slot) → is_aside view a.car ≡ false → slot_at view.cars a ≡ Some slot → HasSpelling FIELDS slot
  slot_spelled a (Live object) free is =
      let known = law.built.objects a object (ap object_of is) in
      record { within = (known.fields, known.bytes); numbered = (known.first, all_fields HasCar object.fields (field_spelled a object free (ap object_of is))) }
  slot_spelled a (Moved to) free is =
      let live = live_look (slot_at view.cars to) (law.tied.moved a to free (ap look_of is)).1.0 in
      record { within = tt; numbered = car_from_one view law to (Live live.0) live.1 }

  car_accepted : (n : ℕ) (car : Car) → is_aside view n ≡ false → get view.cars n ≡ Some car → IsAcceptedCar (record { number = n; slots = entries car.slots })
  car_accepted n car free is =
      let known = law.built.cars n car is in
      record {
        from_one = known.from_one;
        ascend = ascending 0 (entries car.slots) (entries_sorted car.slots) (in_slots (IsFrom 0) n car is (λ s slot here. slot_below n car s slot is here));
        fits = subst (λ m. m ≤ CAR_BYTES) (sym (room_used (entries car.slots))) known.sound.room;
        slots = in_slots (λ (e : ℕ × Slot). HasSpelling FIELDS e.1) n car is (λ s slot here. slot_spelled (record { car = n; slot = s }) slot free here);
      }

  field_led : (a : Addr) (object : Object) → is_aside view a.car ≡ false → object_at view.cars a ≡ Some object → (i : ℕ) (field : Option Addr) → slice_get object.fields i ≡ Some field → FieldLeads (listed_cars view) field
  field_led a object free is i None here = tt
  field_led a object free is i (Some to) here = let leads = field_leads view law a object i to free is here in resolved_some view law to leads.0 leads.1

  slot_led : (a : Addr) (slot : Slot) → is_aside view a.car ≡ false → slot_at view.cars a ≡ Some slot → SlotLeads (listed_cars view) slot
  slot_led a (Live object) free is = all_fields (FieldLeads (listed_cars view)) object.fields (field_led a object free (ap object_of is))
  slot_led a (Moved to) free is =
      let leads = law.tied.moved a to free (ap look_of is) in
      let live = live_look (slot_at view.cars to) leads.1.0 in
      ap (λ o. is_some (identity_in o)) (object_listed view law to live.0 leads.1.1 (ap object_of live.1))

  car_led : (n : ℕ) (car : Car) → is_aside view n ≡ false → get view.cars n ≡ Some car → CarLeads (listed_cars view) (record { number = n; slots = entries car.slots })
  car_led n car free is = in_slots (λ (e : ℕ × Slot). SlotLeads (listed_cars view) e.1) n car is (λ s slot here. slot_led (record { car = n; slot = s }) slot free here)

  root_led : (name : List ℕ) (bound : ℕ × Addr) → find name_cmp name (entries view.roots) ≡ Some bound → RootLeads (listed_cars view) (root_entry (name, bound))
  root_led name bound is = let leads = root_leads view law name bound (get-entries view.roots name ∙ is) in resolved_some view law bound.1 leads.0 leads.1

  -- what a copy of the space lists is accepted again
  pub accepted : IsAccepted (listed view) (root_entries view) view.next
  accepted = record {
    next = law.built.next;
    trains = trains_fall view 0 view.trains.trains law.built.trains.rising 0 (omega arith);
    cars = all_listed view IsAcceptedCar car_accepted;
    differ = differ_once (listed_cars view) (λ n. let few = trains_once view n view.trains.trains in let once = law.built.trains.single n in omega (arith, few, once));
    given = λ a object is. (law.built.objects a object (object_stands view law a object is).1).given;
    apart = λ a b o p at_a at_b same. law.built.apart a b o p (object_stands view law a o at_a).1 (object_stands view law b p at_b).1 same;
    lead = all_listed view (CarLeads (listed_cars view)) car_led;
    roots = all_mapped (RootLeads (listed_cars view)) root_entry (entries view.roots) (all_entries names_total (λ e. RootLeads (listed_cars view) (root_entry e)) (entries view.roots) (entries_sorted view.roots) root_led);
    names = all_names_ascend (entries view.roots) (entries_sorted view.roots);
    few = subst (λ n. n ≤ ROOTS) (len-entries view.roots ∙ sym (as_many (entries view.roots))) law.named.few;
  }
