-- What a car keeps is kept by each of its changes, and what it is seen as then.
use Rattle.std.proofs.Common.{◌≡◌, ℕ, ◌+◌, ◌-◌, ◌<◌, ◌≤◌, ◌≢◌, true, refl, ap, sym, subst, ◌∙◌, arith, List, [], ◌∷◌, ◌++◌, length, take, drop, ◌*◌, get_or, slice_index, Option, Some, None, IsSome, IsSomeAnd, option_copied, IfSome, inl, inr, lit≤}
use mathlib.Core.Bool.{false≢true}
use Rattle.std.specs.FinMap.{get, insert}
use Rattle.std.proofs.lemmas.List.{map-append, length_push, length-set}
use Rattle.std.proofs.lemmas.List.Sums.{fails_before_first, passes_at_first}
use Rattle.std.proofs.lemmas.Bool.{cases_lt}
use Rattle.std.proofs.lemmas.Grind.{common_steps}
use denote.Bor.{Bor}
use Rattle.pm_types.specs.declared.limits.TheConstants.{CAR_HEAD_BYTES, CAR_BYTES, LAST_SLOT}
use Rattle.pm_types.specs.declared.address.Addr.{Addr}
use Rattle.pm_types.specs.declared.object.Object.{Object}
use Rattle.pm_types.specs.declared.object.Slot.{Slot}
use Rattle.pm_types.specs.declared.object.Slot.TheVariants.{Live, Moved}
use Rattle.pm_cars.specs.Cars.{Car, CarAndSpare, Slots, total, slot_room, one_live, object_room, IsSoundCar, object_of, object_at, IsLive, IsLowestLive, placed, with_slot, without_slot, with_field, with_bytes}
use Rattle.pm_cars.specs.Entries.{Entry, numbers, content_at, slots_of, with_content, without, holds_object, is_live, first_place, IsAscending, IsAt, IsKept, HasNone}
use Rattle.pm_cars.proofs.Rooms.{counted, total_insert, total_remove, total_empty}
use Rattle.pm_cars.proofs.Listed.{get_slots, content_absent, content_present, numbers_with, length_with, slots_with, slots_push, with_twice}
use Rattle.pm_cars.proofs.Taken.{slots_without, ascending_without, below_without, length_without}
use Rattle.pm_cars.proofs.Places.{length_numbers, number_at, first_push, first_same, live_place, held_place, is_object, none_before}

-- a car as it is seen
abbrev pub seen : ℕ → List Entry → ℕ → Car
seen number es next = record { number = number; slots = slots_of es; next = next }

-- the same with its spare births
abbrev pub stocked : ℕ → List Entry → ℕ → ℕ → CarAndSpare
stocked number es next spare = record { car = seen number es next; spare = spare }

-- what stands in a slot while its object is changed
abbrev pub nowhere : Slot
nowhere = Moved (record { car = 0; slot = 0 })

-- ---- the room of an object that was edited

pub room_with_field : (object : Object) (index : ℕ) (value : Option Addr) → object_room (with_field object index value) ≡ object_room object
room_with_field object index value = ap (λ n. 17 + 12 * n + length object.bytes) (length-set object.fields index value)

pub room_with_bytes : (object : Object) (at : ℕ) (from : List ℕ) → at + length from ≤ length object.bytes → object_room (with_bytes object at from) ≡ object_room object
room_with_bytes object at from inside =
    let same : length (take at object.bytes ++ (from ++ drop (at + length from) object.bytes)) ≡ length object.bytes = grind (arith, common_steps) in
    ap (λ n. 17 + 12 * length object.fields + n) same

-- ---- numbers in order

ascending_push : (ks : List ℕ) (n : ℕ) → IsAscending ks → ((i : ℕ) → i < length ks → slice_index ks i < n) → IsAscending (ks ++ n ∷ [])
ascending_push ks n up below i j lt within = grind (arith, common_steps, up i j, below i)

below_push : (ks : List ℕ) (n : ℕ) → ((i : ℕ) → i < length ks → slice_index ks i < n) → (i : ℕ) → i < length (ks ++ n ∷ []) → slice_index (ks ++ n ∷ []) i < n + 1
below_push ks n below i within = grind (arith, common_steps, below i)

lower : (ks : List ℕ) (next n : ℕ) → next ≤ n → ((i : ℕ) → i < length ks → slice_index ks i < next) → (i : ℕ) → i < length ks → slice_index ks i < n
lower ks next n le below i lt = omega (arith, le, below i lt)

numbers_push : (es : List Entry) (e : Entry) → numbers (es ++ e ∷ []) ≡ numbers es ++ e.0 ∷ []
numbers_push es e = map-append (λ (e : Entry). e.0) es (e ∷ [])

-- a car with no slot keeps what a car keeps
pub kept_new : (capacity : ℕ) → IsKept [] 0 CAR_HEAD_BYTES 0 0 0 capacity
kept_new capacity = record {
  ascending = λ i j lt within. absurd (omega arith);
  below = λ i within. absurd (omega arith);
  last = lit≤ tt;
  counted = omega (arith, total_empty slot_room);
  within = lit≤ tt;
  lives = sym (total_empty one_live);
  lowest = refl;
  space = omega arith;
}

module _ (es : List Entry) (next all live first spare capacity : ℕ) (kept : IsKept es next all live first spare capacity) where
  -- no entry is of the next slot or of a later one
  pub none_from : (slot : ℕ) → next ≤ slot → HasNone es slot
  none_from slot above i within is =
      let longer = length_numbers es in
      let under = kept.below i (omega arith) in
      omega arith

  -- every car is sound
  pub sound : (number : ℕ) → IsSoundCar (seen number es next)
  sound number = record {
    room = omega (arith, kept.counted, kept.within);
    next = kept.last;
    below = λ slot above. get_slots es slot ∙ content_absent es slot (none_from slot above);
  }

  -- what a slot holds has its room in the car
  pub room_within : (k : ℕ) (held : Slot) → content_at es k ≡ Some held → CAR_HEAD_BYTES + slot_room held ≤ all
  room_within k held found =
      let here : counted slot_room (get (slots_of es) k) ≡ slot_room held = ap (counted slot_room) (get_slots es k ∙ found) in
      omega (arith, total_remove slot_room (slots_of es) k, kept.counted)

  -- the same of a slot that was lent
  pub lent_within : (k : ℕ) (lent : Option (Bor Slot)) → option_copied lent ≡ content_at es k → IfSome lent (λ content. slot_room content.now ≤ CAR_BYTES)
  lent_within k None is = tt
  lent_within k (Some content) is = omega (arith, room_within k content.now (sym is), kept.within)

  -- a Live slot counts among the Live ones
  pub some_live : (k : ℕ) (object : Object) → content_at es k ≡ Some (Live object) → 0 < live
  some_live k object found =
      let here : counted one_live (get (slots_of es) k) ≡ 1 = ap (counted one_live) (get_slots es k ∙ found) in
      omega (arith, total_remove one_live (slots_of es) k, kept.lives)

  -- what is true of the object of a slot, read where it is kept and where it is seen
  pub from_seen : (number k : ℕ) (object : Object) (P : Object → Type 0) → content_at es k ≡ Some (Live object) → IsSomeAnd (object_at (seen number es next) k) P → P object
  from_seen number k object P found h = subst (λ (o : Option Slot). IsSomeAnd (object_of o) P) (get_slots es k ∙ found) h

  pub to_seen : (number k : ℕ) (object : Object) (P : Object → Type 0) → content_at es k ≡ Some (Live object) → P object → IsSomeAnd (object_at (seen number es next) k) P
  to_seen number k object P found h = subst (λ (o : Option Slot). IsSomeAnd (object_of o) P) (sym (get_slots es k ∙ found)) h

  pub object_seen : (number k : ℕ) (object : Object) → content_at es k ≡ Some (Live object) → object_at (seen number es next) k ≡ Some object
  object_seen number k object found = ap object_of (get_slots es k ∙ found)

  pub live_kept : (number k : ℕ) → IsLive (seen number es next) k → IsSome (object_of (content_at es k))
  live_kept number k live = subst (λ (o : Option Slot). IsSome (object_of o)) (get_slots es k) live

  some_and : {X : Type 0} (o : Option X) (P : X → Type 0) → IsSomeAnd o P → IsSome o
  some_and None P h = absurd h
  some_and (Some x) P h = refl

  pub has_kept : (number k : ℕ) (P : Object → Type 0) → IsSomeAnd (object_at (seen number es next) k) P → IsSome (object_of (content_at es k))
  has_kept number k P h = live_kept number k (some_and (object_at (seen number es next) k) P h)

  -- after an object was put into a slot
  module _ (slot : ℕ) (object : Object) (above : next ≤ slot) where
    pushed : slots_of (es ++ (slot, Live object) ∷ []) ≡ insert (slots_of es) slot (Live object)
    pushed = slots_push es slot (Live object) (none_from slot above)

    free : get (slots_of es) slot ≡ None
    free = get_slots es slot ∙ content_absent es slot (none_from slot above)

    more_by : (f : Slot → ℕ) → total f (slots_of (es ++ (slot, Live object) ∷ [])) ≡ total f (slots_of es) + f (Live object)
    more_by f =
        let law = total_insert f (slots_of es) slot (Live object) in
        let filled = ap (total f) pushed in
        let none = ap (counted f) free in
        omega (arith, law, filled, none)

    pub kept_place : (more : ℕ) → more ≡ all + object_room object → more ≤ CAR_BYTES → slot ≤ LAST_SLOT → 0 < spare → IsKept (es ++ (slot, Live object) ∷ []) (slot + 1) more (live + 1) first (spare - 1) capacity
    kept_place more is fits low some =
        let e : Entry = (slot, Live object) in
        let under = lower (numbers es) next slot above kept.below in
        let longer = length_push es e in
        record {
          ascending = subst IsAscending (sym (numbers_push es e)) (ascending_push (numbers es) slot kept.ascending under);
          below = subst (λ (ks : List ℕ). (i : ℕ) → i < length ks → slice_index ks i < slot + 1) (sym (numbers_push es e)) (below_push (numbers es) slot under);
          last = omega arith;
          counted = omega (arith, kept.counted, more_by slot_room);
          within = fits;
          lives = omega (arith, kept.lives, more_by one_live);
          lowest = kept.lowest ∙ sym (first_push es e refl);
          space = omega (arith, kept.space);
        }

    pub seen_place : (number : ℕ) → seen number (es ++ (slot, Live object) ∷ []) (slot + 1) ≡ placed (seen number es next) slot object
    seen_place number = ap (λ (slots : Slots). record { number = number; slots = slots; next = slot + 1 }) pushed

  -- after the next slot was raised
  pub kept_next : (slot : ℕ) → next ≤ slot → slot ≤ LAST_SLOT + 1 → IsKept es slot all live first spare capacity
  kept_next slot above last = record {
    ascending = kept.ascending;
    below = lower (numbers es) next slot above kept.below;
    last = last;
    counted = kept.counted;
    within = kept.within;
    lives = kept.lives;
    lowest = kept.lowest;
    space = kept.space;
  }

  module _ (k : ℕ) (held : Slot) (found : content_at es k ≡ Some held) where
    here_by : (f : Slot → ℕ) → counted f (get (slots_of es) k) ≡ f held
    here_by f = ap (counted f) (get_slots es k ∙ found)

    -- after a slot was told what it holds
    told_by : (f : Slot → ℕ) (content : Slot) → total f (slots_of (with_content es k content)) + f held ≡ total f (slots_of es) + f content
    told_by f content = omega (arith, ap (total f) (slots_with es k held content found), total_insert f (slots_of es) k content, here_by f)

    pub kept_with : (content : Slot) (left alive place : ℕ) → left + slot_room held ≡ all + slot_room content → alive + one_live held ≡ live + one_live content → left ≤ CAR_BYTES → place ≡ first_place (with_content es k content)
        → IsKept (with_content es k content) next left alive place spare capacity
    kept_with content left alive place is lives fits lowest =
        let same = length_with es k content in
        record {
          ascending = subst IsAscending (sym (numbers_with es k content)) kept.ascending;
          below = subst (λ (ks : List ℕ). (i : ℕ) → i < length ks → slice_index ks i < next) (sym (numbers_with es k content)) kept.below;
          last = kept.last;
          counted = omega (arith, kept.counted, told_by slot_room content, is);
          within = fits;
          lives = omega (arith, kept.lives, told_by one_live content, lives);
          lowest = lowest;
          space = omega (arith, kept.space);
        }

    pub seen_with : (number : ℕ) (content : Slot) → seen number (with_content es k content) next ≡ with_slot (seen number es next) k content
    seen_with number content = ap (λ (slots : Slots). record { number = number; slots = slots; next = next }) (slots_with es k held content found)

    -- after a slot was emptied
    gone_by : (f : Slot → ℕ) → total f (slots_of (without es k)) + f held ≡ total f (slots_of es)
    gone_by f = omega (arith, ap (total f) (slots_without es k kept.ascending), total_remove f (slots_of es) k, here_by f)

    pub kept_without : (left alive place now : ℕ) → capacity ≤ now + 1 → left + slot_room held ≡ all → alive + one_live held ≡ live → place ≡ first_place (without es k) → IsKept (without es k) next left alive place spare now
    kept_without left alive place now memory is lives lowest =
        let at = held_place es k held found in
        let before = none_before es kept.ascending k at.0 at.1 in
        record {
          ascending = ascending_without es k at.0 at.1.within at.1.here before kept.ascending;
          below = below_without es k at.0 at.1.within at.1.here before next kept.below;
          last = kept.last;
          counted = omega (arith, kept.counted, gone_by slot_room, is);
          within = omega (arith, kept.within, is);
          lives = omega (arith, kept.lives, gone_by one_live, lives);
          lowest = lowest;
          space = omega (arith, kept.space, length_without es k at.0 at.1.within at.1.here before);
        }

    pub seen_without : (number : ℕ) → seen number (without es k) next ≡ without_slot (seen number es next) k
    seen_without number = ap (λ (slots : Slots). record { number = number; slots = slots; next = next }) (slots_without es k kept.ascending)

  module _ (k : ℕ) (one two : Object) (between : Slot) (found : content_at es k ≡ Some (Live one)) (same : object_room two ≡ object_room one) where
    -- after an object was taken out and another of the same room was put back
    pub kept_edit : IsKept (with_content (with_content es k between) k (Live two)) next all live first spare capacity
    kept_edit =
        subst (λ (es : List Entry). IsKept es next all live first spare capacity) (sym (with_twice es k between (Live two)))
        (kept_with k (Live one) found (Live two) all live first (omega arith) refl kept.within
        (kept.lowest ∙ sym (first_same es k (Live two) (ap is_object found) refl)))

    pub seen_edit : (number : ℕ) → seen number (with_content (with_content es k between) k (Live two)) next ≡ with_slot (seen number es next) k (Live two)
    seen_edit number = ap (λ (es : List Entry). seen number es next) (with_twice es k between (Live two)) ∙ seen_with k (Live one) found number (Live two)

  -- ---- the least Live slot

  is_some : (content : Slot) → holds_object content ≡ true → IsSome (object_of (Some content))
  is_some (Live object) holds = refl
  is_some (Moved to) holds = cc

  holds_one : (o : Option Slot) → IsSome (object_of o) → is_object o ≡ true
  holds_one None some = absurd (false≢true some)
  holds_one (Some (Live object)) some = refl
  holds_one (Some (Moved to)) some = absurd (false≢true some)

  no_object : (o : Option Slot) → is_object o ≢ true → object_of o ≡ None
  no_object None other = refl
  no_object (Some (Live object)) other = absurd (other refl)
  no_object (Some (Moved to)) other = refl

  pub lowest_none : (number : ℕ) (d : Entry) → length es ≤ first → IsLowestLive (seen number es next) None
  lowest_none number d end slot =
      ap object_of (get_slots es slot)
      ∙ no_object (content_at es slot) (λ holds.
      let at = live_place es slot d holds in
      let fails = fails_before_first is_live es at.0 d (omega (arith, at.1, kept.lowest)) in
      false≢true (sym fails ∙ at.3))

  pub lowest_some : (number : ℕ) (d : Entry) → first < length es → IsLowestLive (seen number es next) (Some (get_or es first d).0)
  lowest_some number d some =
      let low = (get_or es first d).0 in
      let here : slice_index (numbers es) first ≡ low = number_at es first d some in
      let at : IsAt es low first = record { within = some; here = here } in
      let held : content_at es low ≡ Some (get_or es first d).1 = content_present es low first d some here (none_before es kept.ascending low first at) in
      let lives : is_live (get_or es first d) ≡ true = ap (λ n. is_live (get_or es n d)) kept.lowest ∙ passes_at_first is_live es d (omega (arith, kept.lowest)) in (
        subst (λ (o : Option Slot). IsSome (object_of o)) (sym (get_slots es low ∙ held)) (is_some (get_or es first d).1 lives),
        λ slot live.
            let holds = holds_one (content_at es slot) (subst (λ (o : Option Slot). IsSome (object_of o)) (get_slots es slot) live) in
            let other = live_place es slot d holds in
            elim (cases_lt other.0 first) [
              | inl below ↦
                  let fails = fails_before_first is_live es other.0 d (omega (arith, kept.lowest)) in
                  absurd (false≢true (sym fails ∙ other.3))
              | inr above ↦ elim (cases_lt first other.0) [
                | inl under ↦
                    let longer = length_numbers es in
                    let up = kept.ascending first other.0 under (omega (arith, other.1)) in
                    omega (arith, number_at es other.0 d other.1, other.2)
                | inr under ↦
                    let same : other.0 ≡ first = omega arith in
                    omega (arith, ap (λ n. (get_or es n d).0) same, other.2)
              ]
            ],
      )
