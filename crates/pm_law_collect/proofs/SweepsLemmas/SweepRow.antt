-- An object that is swept: the heap law is kept, and what the space stands for.
use Rattle.std.proofs.Common.{◌≡◌, ℕ, ◌<◌, ◌≤◌, ◌==◌, ◌&&◌, Bool, true, false, cond, refl, ap, sym, subst, ◌∙◌, List, ◌++◌, Option, Some, None, is_some, arith}
use Rattle.std.specs.Option.{IsSome, option_map}
use Rattle.std.specs.FinMap.{get, remove}
use Rattle.std.proofs.lemmas.Bool.{eqb-true, cond-true, cond-false, both_ways, true≢false, false_from_ne_true}
use Rattle.pm_types.specs.declared.address.Addr.{Addr}
use Rattle.pm_types.specs.declared.object.Object.{Object}
use Rattle.pm_types.specs.declared.object.Slot.{Slot}
use Rattle.pm_types.specs.declared.source.RefSource.{RefSource}
use Rattle.pm_types.specs.declared.source.RefSource.TheVariants.{Root, Handle, Field}
use Rattle.pm_types.specs.declared.source.Change.{Change}
use Rattle.pm_cars.specs.Cars.{Car, IsSoundCar, Slots, slot_room, one_moved, total, object_of, look_of, without_slot}
use Rattle.pm_cars.proofs.Rooms.{total_remove}
use Rattle.pm_trains.specs.Trains.{youngest}
use Rattle.pm_view.specs.Sources.{same_address, is_field_at}
use Rattle.pm_view.specs.View.{SpaceView}
use Rattle.pm_view.specs.Reading.{slot_at, object_at, field_of, stored, cars_of, is_aside, is_from}
use Rattle.pm_view.specs.Effective.{effective, effective_in}
use Rattle.pm_view.specs.Barrier.{left, news}
use Rattle.pm_view.specs.Counts.{standing_in, live_in}
use Rattle.pm_view.specs.Seen.{seen}
use Rattle.pm_view.specs.Law.{IsCar, HeapLaw}
use Rattle.pm_view.specs.Rows.{put_car}
use Rattle.pm_view.specs.Collecting.{field_news, swept_some, swept}
use Rattle.pm_law_commands.proofs.RowLemmas.SameSource.{same_address-true}
use Rattle.pm_law_commands.proofs.RowLemmas.Spreading.{heard_change, changed}
use Rattle.pm_law_commands.proofs.RowLemmas.News.{at_insert, get-told}
use Rattle.pm_law_commands.proofs.RowLemmas.Places.{slot_of, object_has_car}
use Rattle.pm_law_collect.proofs.PhasesLemmas.Small.{some_same}
use Rattle.pm_law_collect.proofs.PhasesLemmas.MeansSame.{Keeps, keeps, unchanged_keeps}
use Rattle.pm_law_collect.proofs.PhasesLemmas.Comes.{IsSweeping}
use Rattle.pm_law_collect.proofs.PhasesLemmas.Phased.{same_sums}
use Rattle.pm_law_collect.proofs.SweepsLemmas.SweptSeen.{IsSweptSeen, law_after_sweep, apart}
use Rattle.pm_law_collect.proofs.SweepsLemmas.Agree.{agrees_means}
use Rattle.pm_law_collect.proofs.PhasesLemmas.Withdrawn.{same_itself, withdrawn_here, withdrawn_apart}
use Rattle.pm_law_collect.proofs.PhasesLemmas.Fronts.{at_remove, swept_aside}
use Rattle.pm_law_collect.proofs.PhasesLemmas.Lowest.{lowest_is}

-- t is the space without the object at a place of a car that is set aside; its references are withdrawn
module _ (view : SpaceView) (at : Addr) (object : Object) (car : Car) (law : HeapLaw view) (set : is_aside view at.car ≡ true) (here : object_at view.cars at ≡ Some object) (is : get view.cars at.car ≡ Some car) where
  abbrev pub t : SpaceView
  t = swept_some view at (Some object)

  cars_then : (n : ℕ) → get t.cars n ≡ cond (at.car == n) (Some (without_slot car at.slot)) (get view.cars n)
  cars_then n = ap (λ o. get (put_car view.cars at.car o (λ car. without_slot car at.slot)) n) is ∙ at_insert view.cars at.car (without_slot car at.slot) n

  pub slot_then : (a : Addr) → slot_at t.cars a ≡ cond (same_address at a) None (slot_at view.cars a)
  slot_then a = ap (λ o. slot_of o a.slot) (cars_then a.car) ∙ by_case (at.car == a.car) refl
    where
      by_case : (b : Bool) → (at.car == a.car) ≡ b → slot_of (cond b (Some (without_slot car at.slot)) (get view.cars a.car)) a.slot ≡ cond (b && (at.slot == a.slot)) None (slot_at view.cars a)
      by_case true same = at_remove car.slots at.slot a.slot ∙ ap (λ o. cond (at.slot == a.slot) None (slot_of o a.slot)) (sym is ∙ ap (get view.cars) (eqb-true at.car a.car same))
      by_case false same = refl

  object_cond : (b : Bool) (o : Option Slot) → object_of (cond b None o) ≡ cond b None (object_of o)
  object_cond true o = refl
  object_cond false o = refl

  object_then : (a : Addr) → object_at t.cars a ≡ cond (same_address at a) None (object_at view.cars a)
  object_then a = ap object_of (slot_then a) ∙ object_cond (same_address at a) (slot_at view.cars a)

  was_object : (a : Addr) (o : Object) → object_at t.cars a ≡ Some o → object_at view.cars a ≡ Some o
  was_object a o found = by_case (same_address at a) (sym (object_then a) ∙ found)
    where
      by_case : (b : Bool) → cond b None (object_at view.cars a) ≡ Some o → object_at view.cars a ≡ Some o
      by_case true found = cc
      by_case false found = found

  same_slot : (a : Addr) → same_address at a ≡ false → slot_at t.cars a ≡ slot_at view.cars a
  same_slot a apart = slot_then a ∙ cond-false _ _ _ apart

  gone_here : object_at t.cars at ≡ None
  gone_here = object_then at ∙ cond-true _ _ _ (same_itself at)

  apart_at : (a : Addr) → is_aside view a.car ≡ false → same_address at a ≡ false
  apart_at a free = false_from_ne_true (same_address at a) (λ same. both_ways (is_aside view a.car) free (ap (λ (b : Addr). is_aside view b.car) (sym (same_address-true at a same)) ∙ set))

  -- the car
  fewer : (f : Slot → ℕ) (slots : Slots) (k : ℕ) → total f (remove slots k) ≤ total f slots
  fewer f slots k = let sums = total_remove f slots k in omega arith

  sound_then : IsSoundCar car → IsSoundCar (without_slot car at.slot)
  sound_then was = record {
    room = let less = fewer slot_room car.slots at.slot in let room = was.room in omega arith;
    next = was.next;
    below = λ slot after. at_remove car.slots at.slot slot ∙ by_case (at.slot == slot) (was.below slot after);
  }
    where
      by_case : (b : Bool) {o : Option Slot} → o ≡ None → cond b None o ≡ None
      by_case true none = refl
      by_case false none = none

  car_then : (n : ℕ) (d : Car) → get t.cars n ≡ Some d → IsCar t n d
  car_then n d found = by_case (at.car == n) refl (sym (cars_then n) ∙ found)
    where
      swept_car : at.car ≡ n → without_slot car at.slot ≡ d → IsCar t n d
      swept_car one same =
          let was = law.built.cars at.car car is in
          subst (IsCar t n) same
          (record {
            numbered = was.numbered ∙ one;
            from_one = subst (λ n. 0 < n) one was.from_one;
            sound = sound_then was.sound;
            live = λ from free. absurd (both_ways (is_aside view n) free (ap (is_aside view) (sym one) ∙ set));
            moved = λ from. let none = was.moved (ap (is_from view) one ∙ from) in let less = fewer one_moved car.slots at.slot in omega arith;
          })

      by_case : (b : Bool) → (at.car == n) ≡ b → cond b (Some (without_slot car at.slot)) (get view.cars n) ≡ Some d → IsCar t n d
      by_case true same found = swept_car (eqb-true at.car n same) (some_same (without_slot car at.slot) d found)
      by_case false apart found = let was = law.built.cars n d found in record { numbered = was.numbered; from_one = was.from_one; sound = was.sound; live = was.live; moved = was.moved }

  stand_then : (e : ℕ) → is_some (get t.cars e) ≡ is_some (get view.cars e)
  stand_then e = ap is_some (cars_then e) ∙ by_case (at.car == e) refl
    where
      by_case : (b : Bool) → (at.car == e) ≡ b → is_some (cond b (Some (without_slot car at.slot)) (get view.cars e)) ≡ is_some (get view.cars e)
      by_case true same = sym (ap (λ e. is_some (get view.cars e)) (sym (eqb-true at.car e same)) ∙ ap is_some is)
      by_case false same = refl

  counts : (c : ℕ) → standing_in view c ≡ standing_in t c
  counts c = by_case (at.car == c) refl
    where
      by_case : (b : Bool) → (at.car == c) ≡ b → cond (is_aside view c) 0 (live_in (get view.cars c)) ≡ cond (is_aside view c) 0 (live_in (get t.cars c))
      by_case true same =
          let gone : is_aside view c ≡ true = ap (is_aside view) (sym (eqb-true at.car c same)) ∙ set in
          λ i. (ap (λ b. cond b 0 (live_in (get view.cars c))) gone ∙ sym (ap (λ b. cond b 0 (live_in (get t.cars c))) gone)) i
      by_case false apart = ap (λ o. cond (is_aside view c) 0 (live_in o)) (sym (cars_then c ∙ cond-false _ _ _ apart))

  abbrev changes : List (ℕ × Change)
  changes = field_news (λ index field. left (is_aside view) (Field at index) field) 0 object.fields

  told_some : (o : Option (List Change)) (n : List Change) → is_some (option_map (λ q. q ++ n) o) ≡ is_some o
  told_some None n = refl
  told_some (Some q) n = refl

  stored_then : (y : RefSource) → is_field_at at y ≡ false → stored t y ≡ stored view y
  stored_then (Root n) apart = refl
  stored_then (Handle c r) apart = refl
  stored_then (Field a i) apart = ap (λ o. field_of (object_of o) i) (same_slot a apart)

  both : (e : ℕ) → is_some (get view.sets e) ≡ is_some (get view.queues e)
  both e = law.built.sets e ∙ sym (law.built.queues e)

  sweeping : IsSweptSeen (seen view) (seen t) at
  sweeping = record {
    aside = λ e. refl;
    from = λ e. refl;
    look = λ a apart. ap look_of (same_slot a apart);
    stored_here = λ i. ap (λ o. field_of o i) gone_here;
    stored = stored_then;
    effective_here = λ e i.
        ap (λ q. effective_in (get view.sets e) q (Field at i)) (get-told view.queues changes e)
        ∙ withdrawn_here (is_aside view) at object.fields e (get view.sets e) (get view.queues e) (both e) i
        ∙ ap (λ o. changed (heard_change (is_aside view) (Field at i) (field_of o i) None e) (effective view e (Field at i))) (sym here);
    effective = λ e y apart.
        ap (λ q. effective_in (get view.sets e) q y) (get-told view.queues changes e)
        ∙ withdrawn_apart (is_aside view) at object.fields e (get view.sets e) (get view.queues e) (both e) y apart;
  }

  pub object_swept_keeps_law : HeapLaw t
  object_swept_keeps_law = record {
    built = record {
      trains = law.built.trains;
      linked = λ e. law.built.linked e ∙ sym (stand_then e);
      sets = λ e. law.built.sets e ∙ sym (stand_then e);
      queues = λ e. ap is_some (get-told view.queues changes e) ∙ told_some (get view.queues e) (news e changes) ∙ law.built.queues e ∙ sym (stand_then e);
      cars = car_then;
      objects = λ a o found. let was = law.built.objects a o (was_object a o found) in record { first = was.first; given = was.given; fields = was.fields; bytes = was.bytes };
      apart = λ a b o q at_a at_b same. law.built.apart a b o q (was_object a o at_a) (was_object b q at_b) same;
      next = law.built.next;
      births = subst (λ n. view.trains.births ≤ n) (same_sums (standing_in view) (standing_in t) (cars_of view.trains.trains (youngest view.trains.trains)) (λ c among. counts c)) law.built.births;
    };
    named = record { numbers = law.named.numbers; few = law.named.few; registers = law.named.registers };
    tied = law_after_sweep (seen view) (seen t) at law.tied set sweeping;
    phase = law.phase;
    anchor = λ a to found.
        let was = law.anchor a to found in
        record { live = ap (λ o. is_some (object_of o)) (same_slot a (apart_at a was.kept)) ∙ was.live; kept = was.kept; old = was.old; stands = was.stands; leaves = was.leaves };
  }

  pub object_swept_keeps : Keeps view t
  object_swept_keeps = keeps view t object_swept_keeps_law
      (agrees_means view t law (record { slot = λ a free. same_slot a (apart_at a free); free = λ a o free found. free; roots = refl; registers = refl; next = refl }))

module _ (view : SpaceView) (at : Addr) (law : HeapLaw view) (is : IsSweeping view at) where
  by_car : (object : Object) → object_at view.cars at ≡ Some object → (o : Option Car) → get view.cars at.car ≡ o → IsSome o → Keeps view (swept_some view at (Some object))
  by_car object here None found some = absurd (true≢false (sym some))
  by_car object here (Some car) found some = object_swept_keeps view at object car law (swept_aside view at.car is.swept) here found

  by_object : (o : Option Object) → object_at view.cars at ≡ o → Keeps view (swept_some view at o)
  by_object None here = unchanged_keeps view law
  by_object (Some object) here = by_car object here (get view.cars at.car) refl (object_has_car view.cars at object here)

  -- an object is swept
  pub swept_keeps : Keeps view (swept view at)
  swept_keeps = by_object (object_at view.cars at) refl

  -- its slot is Gone, and every other one holds what it held
  pub swept_slot : (b : Addr) → slot_at (swept view at).cars b ≡ cond (same_address at b) None (slot_at view.cars b)
  swept_slot b =
      let live = lowest_is view at is.low in
      let here : object_at view.cars at ≡ Some live.object = ap (λ o. object_of (slot_of o at.slot)) live.stands ∙ ap object_of live.there in
      ap (λ o. slot_at (swept_some view at o).cars b) here ∙ slot_then view at live.object live.car law (swept_aside view at.car is.swept) here live.stands b

-- the object is there
pub swept_there : (view : SpaceView) (at : Addr) → IsSweeping view at → IsSome (object_at view.cars at)
swept_there view at is = let live = lowest_is view at is.low in ap (λ o. is_some (object_of (slot_of o at.slot))) live.stands ∙ ap (λ o. is_some (object_of o)) live.there
