-- An object that is born is no member of a sunk set, and nothing names it yet.
use Rattle.std.proofs.Common.{◌≡◌, ℕ, ◌<◌, ◌≤◌, ◌==◌, ◌&&◌, ◌||◌, nat_le, nat_lt, if◌then◌else◌, Bool, true, false, cond, not, ⊎_elim, refl, ap, sym, subst, ◌∙◌, List, length, Option, Some, None, arith}
use Rattle.std.specs.Option.{IsSomeAnd, option_map}
use Rattle.std.specs.Ordering.{nat_cmp}
use Rattle.std.specs.FinMap.{get, get-empty}
use Rattle.std.proofs.lemmas.Bool.{cases_Bool, eqb-true, true≢false, false_from_ne_true, ltb-false, or_parts}
use Rattle.pm_types.specs.declared.limits.TheConstants.{CLIENTS, REGISTERS, FIELDS, OBJECT_BYTES, LAST_ID}
use Rattle.pm_types.specs.declared.address.Addr.{Addr}
use Rattle.pm_types.specs.declared.object.Object.{Object}
use Rattle.pm_types.specs.declared.object.Slot.{Slot}
use Rattle.pm_types.specs.declared.object.Slot.TheVariants.{Live, Moved}
use Rattle.pm_types.specs.declared.source.RefSource.{RefSource}
use Rattle.pm_types.specs.declared.source.RefSource.TheVariants.{Root, Handle, Field}
use Rattle.pm_cars.specs.declared.look.Look.TheVariants as looks
use Rattle.pm_cars.specs.Cars.{Car, object_room, object_of, look_of, new_car, with_birth}
use Rattle.pm_trains.specs.Trains.{youngest, rotated}
use Rattle.pm_roots.specs.Bindings.{address_at}
use Rattle.pm_view.specs.Sources.{same_address}
use Rattle.pm_view.specs.View.{SpaceView}
use Rattle.pm_view.specs.Reading.{slot_at, object_at, field_of, stored, followed, is_kept, id_at, named_by}
use Rattle.pm_view.specs.Seen.{seen}
use Rattle.pm_view.specs.Seen as seen_words
use Rattle.pm_view.specs.Law.{HeapLaw}
use Rattle.pm_view.specs.Represents.{names}
use Rattle.pm_view.specs.Objects.{AddsObject}
use Rattle.pm_view.specs.Rows.{put_car, put_in, place_in, next_of, with_count, tail_for, born_in, born, birthplace, spent, IsVacant}
use Rattle.pm_view.specs.Commands.{fresh, row_new}
use Rattle.pm_law_commands.proofs.RowLemmas.News.{at_insert}
use Rattle.pm_law_commands.proofs.RowLemmas.Places.{slot_of, object_has_car}
use Rattle.pm_law_commands.proofs.RowLemmas.SameSource.{same_address-true}
use Rattle.pm_law_commands.proofs.RowLemmas.Born.{born_gives}
use Rattle.pm_law_collect.proofs.PhasesLemmas.Small.{some_same, none_some}
use Rattle.pm_law_commands.proofs.Births.{spent_law, may_be_born}
use Rattle.pm_law_commands.proofs.EveryRow.{object_made, new_holds}
use Rattle.pm_view.specs.Sinking.{IsOf, IsFieldOf, Sunk}
use Rattle.pm_law_bound.proofs.SunkLemmas.Agreeing.{of_object}
use Rattle.pm_law_bound.proofs.SunkLemmas.Sinks.{spread_sinks}

-- ---- what a birth leaves

-- everything but the trains and one slot, which held nothing
record IsLeft (view t : SpaceView) (p : Addr) : Type 0 where
  pub slots : (a : Addr) → same_address p a ≡ false → slot_at t.cars a ≡ slot_at view.cars a
  pub gone : slot_at view.cars p ≡ None
  pub roots : t.roots ≡ view.roots
  pub registers : t.registers ≡ view.registers
  pub anchor : t.anchor ≡ view.anchor
  pub next : t.next ≡ view.next

-- a slot of a car in which an object was born, where it is another slot
other_slot : (b d : Bool) (car : Car) (o : Option Car) (object : Object) (slot : ℕ) → (car.next == slot) ≡ d → (b && d) ≡ false → (b ≡ true → slot_of o slot ≡ get car.slots slot)
    → slot_of (cond b (Some (with_birth car object)) o) slot ≡ slot_of o slot
other_slot true true car o object slot is apart held = absurd (true≢false apart)
other_slot true false car o object slot is apart held = at_insert car.slots car.next (Live object) slot ∙ ap (λ d. cond d (Some (Live object)) (get car.slots slot)) is ∙ sym (held refl)
other_slot false d car o object slot is apart held = refl

module _ (view : SpaceView) (law : HeapLaw view) (train number : ℕ) (object : Object) (vacant : get view.cars number ≡ None) where
  new_slots : (a : Addr) → same_address (record { car = number; slot = 0 }) a ≡ false → slot_at (put_in view train None number object).cars a ≡ slot_at view.cars a
  new_slots a apart =
      ap (λ o. slot_of o a.slot) (at_insert view.cars number (with_birth (new_car number) object) a.car)
      ∙ other_slot (number == a.car) (0 == a.slot) (new_car number) (get view.cars a.car) object a.slot refl apart
      (λ same. ap (λ o. slot_of o a.slot) (ap (get view.cars) (sym (eqb-true number a.car same)) ∙ vacant) ∙ sym (get-empty nat_cmp a.slot))

  tail_slots : (c : ℕ) (o : Option Car) → get view.cars c ≡ o → (a : Addr) → same_address (record { car = c; slot = next_of o }) a ≡ false → slot_at (put_car view.cars c o (λ it. with_birth it object)) a ≡ slot_at view.cars a
  tail_slots c None is a apart = refl
  tail_slots c (Some car) is a apart =
      ap (λ o. slot_of o a.slot) (at_insert view.cars c (with_birth car object) a.car)
      ∙ other_slot (c == a.car) (car.next == a.slot) car (get view.cars a.car) object a.slot refl apart (λ same. ap (λ o. slot_of o a.slot) (ap (get view.cars) (sym (eqb-true c a.car same)) ∙ is))

  tail_gone : (c : ℕ) (o : Option Car) → get view.cars c ≡ o → slot_of o (next_of o) ≡ None
  tail_gone c None is = refl
  tail_gone c (Some car) is = (law.built.cars c car is).sound.below car.next (omega arith)

  put_left : (d : Option ℕ) → IsLeft view (with_count (put_in view train d number object)) (place_in view.cars d number)
  put_left None = record { slots = new_slots; gone = ap (λ o. slot_of o 0) vacant; roots = refl; registers = refl; anchor = refl; next = refl }
  put_left (Some c) = record {
    slots = λ a apart. tail_slots c (get view.cars c) refl a apart;
    gone = tail_gone c (get view.cars c) refl;
    roots = refl;
    registers = refl;
    anchor = refl;
    next = refl;
  }

abbrev opened_if : SpaceView → Bool → SpaceView
opened_if view b = if b then record view { trains = record { trains = rotated view.trains.trains; births = 0 } } else view

born_left : (view : SpaceView) (number : ℕ) (object : Object) → HeapLaw view → get view.cars number ≡ None → IsLeft view (born view number object) (birthplace view number object)
born_left view number object law vacant = by_full (nat_le 1024 view.trains.births)
  where
    by_full : (b : Bool) → IsLeft view (born_in (opened_if view b) number object) (place_in (opened_if view b).cars (tail_for (opened_if view b) (youngest (opened_if view b).trains.trains) (object_room object)) number)
    by_full true =
        let train = youngest (opened_if view true).trains.trains in
        let tail = tail_for (opened_if view true) train (object_room object) in
        by_tail train tail (put_left view law train number object vacant tail)
      where
        by_tail : (train : ℕ) (d : Option ℕ) → IsLeft view (with_count (put_in view train d number object)) (place_in view.cars d number) → IsLeft view (with_count (put_in (opened_if view true) train d number object)) (place_in view.cars d number)
        by_tail train None left = record { slots = left.slots; gone = left.gone; roots = refl; registers = refl; anchor = refl; next = refl }
        by_tail train (Some c) left = record { slots = left.slots; gone = left.gone; roots = refl; registers = refl; anchor = refl; next = refl }
    by_full false = put_left view law (youngest view.trains.trains) number object vacant (tail_for view (youngest view.trains.trains) (object_room object))

-- ---- a birth

module _ (view t : SpaceView) (p : Addr) (object : Object) (law : HeapLaw view) (left : IsLeft view t p) (here : slot_at t.cars p ≡ Some (Live object)) (null : (i : ℕ) → field_of (Some object) i ≡ None) (added : AddsObject view t object.id p)
    (Of : ℕ → Type 0) (n : ℕ) (other : Of object.id → ⊥) (sunk : Sunk view Of n) where
  some_apart : (a : Addr) (w : Slot) → slot_at view.cars a ≡ Some w → same_address p a ≡ false
  some_apart a w is = false_from_ne_true (same_address p a) (λ same. none_some w (sym left.gone ∙ ap (slot_at view.cars) (same_address-true p a same) ∙ is))

  live_some : (o : Option Slot) → look_of o ≡ looks.Live → (w : Slot) × (o ≡ Some w)
  live_some None live = cc
  live_some (Some w) live = (w, refl)

  id_still : (a : Addr) → same_address p a ≡ false → id_at t a ≡ id_at view a
  id_still a apart = ap (λ o. option_map (λ (o : Object). o.id) (object_of o)) (left.slots a apart)

  -- what a kept source stores names what it named
  named_still : (b : Addr) (o : Option Slot) → slot_at view.cars b ≡ o → seen_words.Leads (seen view) b (look_of o) → named_by t b ≡ named_by view b
  named_still b None is leads = absurd leads
  named_still b (Some (Live it)) is leads =
      let apart = some_apart b (Live it) is in
      ap (λ o. id_at t (followed o b)) (left.slots b apart ∙ is) ∙ id_still b apart ∙ sym (ap (λ o. id_at view (followed o b)) is)
  named_still b (Some (Moved to)) is leads =
      let apart = some_apart b (Moved to) is in
      let there = live_some (slot_at view.cars to) leads.1.0 in
      ap (λ o. id_at t (followed o b)) (left.slots b apart ∙ is) ∙ id_still to (some_apart to there.0 there.1) ∙ sym (ap (λ o. id_at view (followed o b)) is)

  names_still : (x : RefSource) (o : Option Addr) (id : ℕ) → is_kept view x ≡ true → stored view x ≡ o → names t o ≡ Some id → names view o ≡ Some id
  names_still x None id up is name = name
  names_still x (Some b) id up is name = sym (named_still b (slot_at view.cars b) refl (law.tied.leads x b up is).1) ∙ name

  null_named : (o : Option Object) (i id : ℕ) → o ≡ Some object → names t (field_of o i) ≡ Some id → ⊥
  null_named o i id is name = none_some id (sym (ap (names t) (ap (λ o. field_of o i) is ∙ null i)) ∙ name)

  born_named : (x : RefSource) (id : ℕ) → is_kept t x ≡ true → names t (stored t x) ≡ Some id → Of id → IsFieldOf t Of x
  born_named (Root k) id up name is = sunk.named (Root k) id refl (names_still (Root k) (stored view (Root k)) id refl refl (ap (λ m. names t (address_at m k)) (sym left.roots) ∙ name)) is
  born_named (Handle c r) id up name is = sunk.named (Handle c r) id refl (names_still (Handle c r) (stored view (Handle c r)) id refl refl (ap (λ m. names t (get m (c, r))) (sym left.registers) ∙ name)) is
  born_named (Field a i) id up name is =
      ⊎_elim
      (λ (same : same_address p a ≡ true). absurd (null_named (object_at t.cars a) i id (ap (object_at t.cars) (sym (same_address-true p a same)) ∙ ap object_of here) name))
      (λ (apart : same_address p a ≡ false).
      let kept : is_kept view (Field a i) ≡ true = ap not (sym (added.aside a.car)) ∙ up in
      let slots : object_at t.cars a ≡ object_at view.cars a = ap object_of (left.slots a apart) in
      subst (λ o. IsSomeAnd o Of) (sym (id_still a apart)) (sunk.named (Field a i) id kept (names_still (Field a i) (stored view (Field a i)) id kept refl (ap (λ o. names t (field_of o i)) (sym slots) ∙ name)) is))
      (cases_Bool (same_address p a))

  -- a member was there before
  member_was : (a : Addr) → IsOf t Of a → (same_address p a ≡ false) × IsOf view Of a
  member_was a of =
      let it = of_object t Of a of in
      let apart : same_address p a ≡ false = false_from_ne_true (same_address p a) (λ same. other (subst (λ (o : Object). Of o.id) (some_same it.0 object (sym it.1 ∙ ap (object_at t.cars) (sym (same_address-true p a same)) ∙ ap object_of here)) it.2)) in
      (apart, subst (λ o. IsSomeAnd o Of) (id_still a apart) of)

  birth_sunk : Sunk t Of n
  birth_sunk = record {
    given = λ id is. subst (λ m. id < m) (sym left.next) (sunk.given id is);
    named = born_named;
    low = λ a of.
        let was = (member_was a of).1 in
        let it = of_object view Of a was in
        subst (λ o. IsSomeAnd o (λ train. train ≤ n)) (sym (added.homes a.car (object_has_car view.cars a it.0 it.1))) (sunk.low a was);
    anchored = λ a to stands of. sunk.anchored a to (sym left.anchor ∙ stands) (member_was a of).1;
  }

-- ---- `new`

-- a set is sunk as before where the next identity was given
spent_sunk : (view : SpaceView) (Of : ℕ → Type 0) (n : ℕ) → Sunk view Of n → Sunk (spent view) Of n
spent_sunk view Of n sunk = record { given = λ id is. let below = sunk.given id is in omega (arith, below); named = named_now; low = sunk.low; anchored = sunk.anchored }
  where
    named_now : (x : RefSource) (id : ℕ) → is_kept (spent view) x ≡ true → names (spent view) (stored (spent view) x) ≡ Some id → Of id → IsFieldOf (spent view) Of x
    named_now (Root k) id up name is = sunk.named (Root k) id up name is
    named_now (Handle c r) id up name is = sunk.named (Handle c r) id up name is
    named_now (Field a i) id up name is = sunk.named (Field a i) id up name is

module _ (view : SpaceView) (law : HeapLaw view) (Of : ℕ → Type 0) (n : ℕ) (sunk : Sunk view Of n) where
  -- the next identity is no member
  not_next : Of view.next → ⊥
  not_next of = let below = sunk.given view.next of in omega (arith, below)

  pub new_sunk : (client reg count number : ℕ) (bytes : List ℕ) → client < CLIENTS → reg < REGISTERS → IsVacant view.cars number → Sunk (row_new view client reg count bytes number).1 Of n
  new_sunk client reg count number bytes c r vacant = new_holds view (λ t. Sunk t Of n) sunk client reg count number bytes made
    where
      made : (nat_lt FIELDS count || nat_lt OBJECT_BYTES (length bytes)) ≡ false → nat_lt LAST_ID view.next ≡ false → Sunk (object_made view client reg count number bytes) Of n
      made fits more =
          let both = or_parts (nat_lt FIELDS count) (nat_lt OBJECT_BYTES (length bytes)) fits in
          let room = ltb-false LAST_ID view.next more in
          let now = spent view in
          let it = fresh view count bytes in
          let place = birthplace now number it in
          let t = born now number it in
          let may = may_be_born view law room count bytes (ltb-false FIELDS count both.0) (ltb-false OBJECT_BYTES (length bytes) both.1) in
          let gives = born_gives now number it (spent_law view law room) may vacant in
          let left = born_left now number it (spent_law view law room) vacant.vacant in
          let then_sunk = birth_sunk now t place it (spent_law view law room) left gives.here may.null gives.added Of n not_next (spent_sunk view Of n sunk) in
          let names_it : names t (Some place) ≡ Some view.next = ap (id_at t) (ap (λ o. followed o place) gives.here) ∙ ap (option_map (λ (o : Object). o.id)) (ap object_of gives.here) in
          spread_sinks t Of n then_sunk (Handle client reg) (Some place) (c, r) tt (λ id name of. absurd (not_next (subst Of (sym (some_same view.next id (sym names_it ∙ name))) of)))
