-- An object that was put at another place, and whose slot says so: the space stays built as the heap law says.
use Rattle.std.proofs.Common.{◌≡◌, ◌≢◌, ◌⊎◌, inl, inr, ⊎_elim, ℕ, ◌+◌, ◌<◌, ◌≤◌, ◌==◌, ◌&&◌, Bool, true, false, cond, refl, ap, sym, subst, ◌∙◌, Option, Some, None, arith, is_some}
use Rattle.std.specs.Option.{IsSome}
use Rattle.std.specs.List.{sum_by}
use Rattle.std.specs.FinMap.{get, insert}
use Rattle.std.proofs.lemmas.Bool.{eqb-true, eq-eqb, cond-true, cond-false, both_ways, false_from_ne_true}
use Rattle.pm_types.specs.declared.address.Addr.{Addr}
use Rattle.pm_types.specs.declared.object.Object.{Object}
use Rattle.pm_types.specs.declared.object.Slot.{Slot}
use Rattle.pm_types.specs.declared.object.Slot.TheVariants.{Live, Moved}
use Rattle.pm_types.specs.declared.source.RefSource.{RefSource}
use Rattle.pm_cars.specs.Cars.{Car, IsSoundCar, Fits, Slots, object_room, slot_room, one_moved, total, moved_count, object_of, with_birth, with_slot}
use Rattle.pm_cars.proofs.Rooms.{total_insert, counted}
use Rattle.pm_trains.specs.Trains.{train_of, cars_at, oldest, youngest}
use Rattle.pm_trains.specs.Sound as line
use Rattle.pm_view.specs.declared.phase.Phase.TheVariants.{Moving}
use Rattle.pm_view.specs.Sources.{same_address}
use Rattle.pm_view.specs.View.{SpaceView}
use Rattle.pm_view.specs.Reading.{slot_at, object_at, cars_of, aside_in, from_in, is_aside, is_from}
use Rattle.pm_view.specs.Effective.{effective, effective_in}
use Rattle.pm_view.specs.Counts.{standing_in}
use Rattle.pm_view.specs.Law.{IsCar, IsObject, IsBuilt, IsFront, IsAnchor, HeapLaw}
use Rattle.pm_law_commands.proofs.RowLemmas.SameSource.{same_address-true}
use Rattle.pm_law_commands.proofs.RowLemmas.News.{at_insert}
use Rattle.pm_law_commands.proofs.RowLemmas.Places.{slot_of}
use Rattle.pm_law_commands.proofs.RowLemmas.Birth.{live_after}
use Rattle.pm_law_collect.proofs.PhasesLemmas.Small.{some_same, none_some, turned}
use Rattle.pm_law_collect.proofs.PhasesLemmas.Withdrawn.{same_itself}

-- the next slot of a car
abbrev pub next_place : ℕ → Car → Addr
next_place c car = record { car = c; slot = car.next }

-- put is view with the object of a slot of the from-car in the next slot of the car c too, which stood or is new, and
-- its old slot says where it went
pub record IsPut (view put : SpaceView) (from : Addr) (c : ℕ) (old car : Car) (object : Object) : Type 0 where
  pub moving : view.phase ≡ Moving from.car
  pub cars : (n : ℕ) → get put.cars n ≡ cond (from.car == n) (Some (with_slot old from.slot (Moved (next_place c car)))) (cond (c == n) (Some (with_birth car object)) (get view.cars n))
  pub stood : get view.cars from.car ≡ Some old
  pub live : get old.slots from.slot ≡ Some (Live object)
  pub held : (slot : ℕ) → slot_of (get view.cars c) slot ≡ get car.slots slot
  pub numbered : car.number ≡ c
  pub from_one : 0 < c
  pub sound : IsSoundCar car
  pub unmoved : moved_count car ≡ 0
  pub fits : Fits car (object_room object)
  pub apart : (from.car == c) ≡ false
  pub linked : (e : ℕ) → is_some (train_of put.trains.trains e) ≡ is_some (get put.cars e)
  pub sets : (e : ℕ) → is_some (get put.sets e) ≡ is_some (get put.cars e)
  pub queues : (e : ℕ) → is_some (get put.queues e) ≡ is_some (get put.cars e)
  pub effective : (e : ℕ) (x : RefSource) → effective_in (get put.sets e) (get put.queues e) x ≡ effective view e x
  pub trains : line.AreSoundTrains put.trains
  pub births : put.trains.births ≤ sum_by (standing_in put) (cars_of put.trains.trains (youngest put.trains.trains))
  pub phase : put.phase ≡ view.phase
  pub at : IsFront put.trains.trains from.car
  pub roots : put.roots ≡ view.roots
  pub registers : put.registers ≡ view.registers
  pub next : put.next ≡ view.next
  -- the from-car's set and queue stay
  pub own_set : get put.sets from.car ≡ get view.sets from.car
  pub own_queue : get put.queues from.car ≡ get view.queues from.car
  -- a car that stood is in the train in which it was
  pub homes : (e : ℕ) → IsSome (get view.cars e) → train_of put.trains.trains e ≡ train_of view.trains.trains e
  -- an anchor in another car keeps its trains
  pub old_train : (a : Addr) (to : ℕ) → IsAnchor view a to → train_of put.trains.trains a.car ≡ oldest put.trains.trains
  pub goal : (a : Addr) (to : ℕ) → IsAnchor view a to → IsSome (cars_at put.trains.trains to)
  pub leaves : (a : Addr) (to : ℕ) → IsAnchor view a to → oldest put.trains.trains ≢ Some to

counted_some : (f : Slot → ℕ) (o : Option Slot) (w : Slot) → o ≡ Some w → counted f o ≡ f w
counted_some f None w is = cc
counted_some f (Some v) w is = ap f (some_same v w is)

counted_none : (f : Slot → ℕ) (o : Option Slot) → o ≡ None → counted f o ≡ 0
counted_none f None none = refl
counted_none f (Some w) none = cc

total_new : (f : Slot → ℕ) (slots : Slots) (k : ℕ) (w : Slot) → get slots k ≡ None → total f (insert slots k w) ≡ total f slots + f w
total_new f slots k w none =
    let law = total_insert f slots k w in
    let zero_held = counted_none f (get slots k) none in
    omega arith

pub total_set : (f : Slot → ℕ) (slots : Slots) (k : ℕ) (v w : Slot) → get slots k ≡ Some v → total f (insert slots k w) + f v ≡ total f slots + f w
total_set f slots k v w some =
    let law = total_insert f slots k w in
    let held = counted_some f (get slots k) v some in
    omega arith

module _ (view put : SpaceView) (from : Addr) (c : ℕ) (old car : Car) (object : Object) (law : HeapLaw view) (is : IsPut view put from c old car object) where
  abbrev pub place : Addr
  place = next_place c car

  pub apart_false : (n : ℕ) → (from.car == n) ≡ true → (c == n) ≡ false
  apart_false n same = ap (λ m. c == m) (sym (eqb-true from.car n same)) ∙ turned c from.car ∙ is.apart

  -- what each place holds
  pub slot_put : (a : Addr) → slot_at put.cars a ≡ cond (same_address from a) (Some (Moved place)) (cond (same_address place a) (Some (Live object)) (slot_at view.cars a))
  slot_put a = ap (λ o. slot_of o a.slot) (is.cars a.car) ∙ by_from (from.car == a.car) refl
    where
      in_old : from.car ≡ a.car → slot_of (Some (with_slot old from.slot (Moved place))) a.slot ≡ cond (from.slot == a.slot) (Some (Moved place)) (slot_at view.cars a)
      in_old same = at_insert old.slots from.slot (Moved place) a.slot ∙ ap (λ o. cond (from.slot == a.slot) (Some (Moved place)) (slot_of o a.slot)) (sym is.stood ∙ ap (get view.cars) same)

      in_new : c ≡ a.car → slot_of (Some (with_birth car object)) a.slot ≡ cond (car.next == a.slot) (Some (Live object)) (slot_at view.cars a)
      in_new same =
          at_insert car.slots car.next (Live object) a.slot
          ∙ ap (cond (car.next == a.slot) (Some (Live object))) (sym (is.held a.slot) ∙ ap (λ n. slot_of (get view.cars n) a.slot) same)

      by_new : (d : Bool) → (c == a.car) ≡ d → slot_of (cond d (Some (with_birth car object)) (get view.cars a.car)) a.slot ≡ cond (d && (car.next == a.slot)) (Some (Live object)) (slot_at view.cars a)
      by_new true same = in_new (eqb-true c a.car same)
      by_new false same = refl

      no_new : (x : Option Slot) → (c == a.car) ≡ false → x ≡ cond ((c == a.car) && (car.next == a.slot)) (Some (Live object)) x
      no_new x apart = ap (λ d. cond (d && (car.next == a.slot)) (Some (Live object)) x) (sym apart)

      by_from : (b : Bool) → (from.car == a.car) ≡ b → slot_of (cond b (Some (with_slot old from.slot (Moved place))) (cond (c == a.car) (Some (with_birth car object)) (get view.cars a.car))) a.slot
          ≡ cond (b && (from.slot == a.slot)) (Some (Moved place)) (cond ((c == a.car) && (car.next == a.slot)) (Some (Live object)) (slot_at view.cars a))
      by_from true same = in_old (eqb-true from.car a.car same) ∙ ap (cond (from.slot == a.slot) (Some (Moved place))) (no_new (slot_at view.cars a) (apart_false a.car same))
      by_from false same = by_new (c == a.car) refl

  -- the new place had nothing
  pub nothing_there : slot_at view.cars place ≡ None
  nothing_there = is.held car.next ∙ is.sound.below car.next (omega arith)

  pub places_apart : same_address from place ≡ false
  places_apart = ap (λ b. b && (from.slot == car.next)) is.apart

  pub was_here : object_at view.cars from ≡ Some object
  was_here = ap (λ o. object_of (slot_of o from.slot)) is.stood ∙ ap object_of is.live

  pub old_moved : slot_at put.cars from ≡ Some (Moved place)
  old_moved = slot_put from ∙ cond-true _ _ _ (same_itself from)

  pub new_live : slot_at put.cars place ≡ Some (Live object)
  new_live = slot_put place ∙ cond-false _ _ _ places_apart ∙ cond-true _ _ _ (same_itself place)

  pub other_slot : (a : Addr) → same_address from a ≡ false → same_address place a ≡ false → slot_at put.cars a ≡ slot_at view.cars a
  other_slot a not_from not_new = slot_put a ∙ cond-false _ _ _ not_from ∙ cond-false _ _ _ not_new

  -- no car is set aside, and the from-car is the one of the old place
  pub none_aside : (e : ℕ) → is_aside view e ≡ false
  none_aside e = ap (λ p. aside_in p view.trains.trains e) is.moving

  pub none_aside_then : (e : ℕ) → is_aside put e ≡ false
  none_aside_then e = ap (λ p. aside_in p put.trains.trains e) (is.phase ∙ is.moving)

  pub from_is : (e : ℕ) → is_from view e ≡ (from.car == e)
  from_is e = ap (λ p. from_in p e) is.moving

  pub from_then : (e : ℕ) → is_from put e ≡ (from.car == e)
  from_then e = ap (λ p. from_in p e) (is.phase ∙ is.moving)

  -- ---- the cars

  room_over : (o : Object) → 17 ≤ object_room o
  room_over o = omega arith

  sound_old : IsSoundCar old → IsSoundCar (with_slot old from.slot (Moved place))
  sound_old was = record {
    room = let sums = total_set slot_room old.slots from.slot (Live object) (Moved place) is.live in let over = room_over object in let room = was.room in omega arith;
    next = was.next;
    below = λ slot after. at_insert old.slots from.slot (Moved place) slot ∙ by_case slot after (from.slot == slot) refl;
  }
    where
      by_case : (slot : ℕ) → old.next ≤ slot → (b : Bool) → (from.slot == slot) ≡ b → cond b (Some (Moved place)) (get old.slots slot) ≡ None
      by_case slot after true same = absurd (none_some (Live object) (sym (was.below slot after) ∙ ap (get old.slots) (sym (eqb-true from.slot slot same)) ∙ is.live))
      by_case slot after false same = was.below slot after

  fresh : get car.slots car.next ≡ None
  fresh = is.sound.below car.next (omega arith)

  sound_new : IsSoundCar (with_birth car object)
  sound_new = record {
    room = let sums = total_new slot_room car.slots car.next (Live object) fresh in let fits = is.fits.0 in omega arith;
    next = let low = is.fits.1 in omega arith;
    below = λ slot after. at_insert car.slots car.next (Live object) slot ∙ later slot after;
  }
    where
      later : (slot : ℕ) → car.next + 1 ≤ slot → cond (car.next == slot) (Some (Live object)) (get car.slots slot) ≡ None
      later slot after = cond-false _ _ _ (false_from_ne_true (car.next == slot) (λ same. let here = eqb-true car.next slot same in omega (arith, here, after))) ∙ is.sound.below slot (omega (arith, after))

  unmoved_new : moved_count (with_birth car object) ≡ 0
  unmoved_new = total_new one_moved car.slots car.next (Live object) fresh ∙ ap (λ n. n + 0) is.unmoved

  car_put : (n : ℕ) (d : Car) → get put.cars n ≡ Some d → IsCar put n d
  car_put n d found = by_from (from.car == n) refl (sym (is.cars n) ∙ found)
    where
      the_old : from.car ≡ n → with_slot old from.slot (Moved place) ≡ d → IsCar put n d
      the_old one same =
          let was = law.built.cars from.car old is.stood in
          let is_it : is_from put n ≡ true = from_then n ∙ eq-eqb from.car n one in
          subst (IsCar put n) same
          (record {
            numbered = was.numbered ∙ one;
            from_one = subst (λ n. 0 < n) one was.from_one;
            sound = sound_old was.sound;
            live = λ from free. absurd (both_ways (is_from put n) from is_it);
            moved = λ from. absurd (both_ways (is_from put n) from is_it);
          })

      the_new : c ≡ n → with_birth car object ≡ d → IsCar put n d
      the_new one same =
          let more = live_after car object is.sound in
          subst (IsCar put n) same
          (record { numbered = is.numbered ∙ one; from_one = subst (λ n. 0 < n) one is.from_one; sound = sound_new; live = λ from free. omega arith; moved = λ from. unmoved_new })

      by_new : (b : Bool) → (c == n) ≡ b → (from.car == n) ≡ false → cond b (Some (with_birth car object)) (get view.cars n) ≡ Some d → IsCar put n d
      by_new true same apart found = the_new (eqb-true c n same) (some_same (with_birth car object) d found)
      by_new false same apart found =
          let was = law.built.cars n d found in
          let not_from = from_is n ∙ apart in
          record { numbered = was.numbered; from_one = was.from_one; sound = was.sound; live = λ from free. was.live not_from (none_aside n); moved = λ from. was.moved not_from }

      by_from : (b : Bool) → (from.car == n) ≡ b → cond b (Some (with_slot old from.slot (Moved place))) (cond (c == n) (Some (with_birth car object)) (get view.cars n)) ≡ Some d → IsCar put n d
      by_from true same found = the_old (eqb-true from.car n same) (some_same (with_slot old from.slot (Moved place)) d found)
      by_from false same found = by_new (c == n) refl same found

  -- ---- the objects

  -- an object that stands is at the new place, or stood where it is, which is not the old place
  pub either_object : (a : Addr) (o : Object) → object_at put.cars a ≡ Some o → ((place ≡ a) × (object ≡ o)) ⊎ ((object_at view.cars a ≡ Some o) × (same_address from a ≡ false))
  either_object a o found = by_from (same_address from a) refl (sym (ap object_of (slot_put a)) ∙ found)
    where
      by_new : (b : Bool) → same_address place a ≡ b → same_address from a ≡ false → object_of (cond b (Some (Live object)) (slot_at view.cars a)) ≡ Some o → ((place ≡ a) × (object ≡ o)) ⊎ ((object_at view.cars a ≡ Some o) × (same_address from a ≡ false))
      by_new true same apart found = inl (same_address-true place a same, some_same object o found)
      by_new false same apart found = inr (found, apart)

      by_from : (b : Bool) → same_address from a ≡ b → object_of (cond b (Some (Moved place)) (cond (same_address place a) (Some (Live object)) (slot_at view.cars a))) ≡ Some o → ((place ≡ a) × (object ≡ o)) ⊎ ((object_at view.cars a ≡ Some o) × (same_address from a ≡ false))
      by_from true same found = absurd (none_some o found)
      by_from false same found = by_new (same_address place a) refl same found

  object_put : (a : Addr) (o : Object) → object_at put.cars a ≡ Some o → IsObject put o
  object_put a o found =
      ⊎_elim
      (λ (new : (place ≡ a) × (object ≡ o)). again from o (subst (λ o. object_at view.cars from ≡ Some o) new.1 was_here))
      (λ (was : (object_at view.cars a ≡ Some o) × (same_address from a ≡ false)). again a o was.0)
      (either_object a o found)
    where
      again : (b : Addr) (o : Object) → object_at view.cars b ≡ Some o → IsObject put o
      again b o there = let was = law.built.objects b o there in record { first = was.first; given = subst (λ n. o.id < n) (sym is.next) was.given; fields = was.fields; bytes = was.bytes }

  apart_put : (a b : Addr) (o q : Object) → object_at put.cars a ≡ Some o → object_at put.cars b ≡ Some q → o.id ≡ q.id → a ≡ b
  apart_put a b o q at_a at_b same =
      ⊎_elim
      (λ (new_a : (place ≡ a) × (object ≡ o)).
      ⊎_elim
      (λ (new_b : (place ≡ b) × (object ≡ q)). sym new_a.0 ∙ new_b.0)
      (λ (old_b : (object_at view.cars b ≡ Some q) × (same_address from b ≡ false)). absurd (no_twin b q old_b.0 old_b.1 (ap (λ (o : Object). o.id) new_a.1 ∙ same)))
      (either_object b q at_b))
      (λ (old_a : (object_at view.cars a ≡ Some o) × (same_address from a ≡ false)).
      ⊎_elim
      (λ (new_b : (place ≡ b) × (object ≡ q)). absurd (no_twin a o old_a.0 old_a.1 (ap (λ (o : Object). o.id) new_b.1 ∙ sym same)))
      (λ (old_b : (object_at view.cars b ≡ Some q) × (same_address from b ≡ false)). law.built.apart a b o q old_a.0 old_b.0 same)
      (either_object b q at_b))
      (either_object a o at_a)
    where
      no_twin : (b : Addr) (q : Object) → object_at view.cars b ≡ Some q → same_address from b ≡ false → object.id ≡ q.id → ⊥
      no_twin b q there apart ids =
          let one : from ≡ b = law.built.apart from b object q was_here there ids in
          both_ways (same_address from b) apart (subst (λ b. same_address from b ≡ true) one (same_itself from))

  -- it stays built as the law says
  pub put_built : IsBuilt put
  put_built = record {
    trains = is.trains;
    linked = is.linked;
    sets = is.sets;
    queues = is.queues;
    cars = car_put;
    objects = object_put;
    apart = apart_put;
    next = subst (λ n. (1 ≤ n) × (n ≤ 4294967296)) (sym is.next) law.built.next;
    births = is.births;
  }
