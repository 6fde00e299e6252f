-- An object that moves: what the space means stays, and a sunk set stays sunk where the object goes to a low train.
use Rattle.std.proofs.Common.{◌≡◌, ℕ, ◌<◌, ◌≤◌, ◌==◌, if◌then◌else◌, Bool, true, false, not, ⊎_elim, refl, ap, sym, subst, ◌∙◌, List, map, Option, Some, None, is_some}
use Rattle.std.specs.Option.{IsSomeAnd, option_map, option_and_then, option_flatten}
use Rattle.std.specs.List.{slice_get}
use Rattle.std.specs.FinMap.{get}
use Rattle.std.proofs.lemmas.Bool.{cases_Bool, eqb-true, eq-eqb, true≢false, both_ways, not-true}
use Rattle.std.proofs.lemmas.Option.{slice_get-map}
use Rattle.pm_types.specs.declared.limits.TheConstants.{CAR_ROOM}
use Rattle.pm_types.specs.declared.address.Addr.{Addr}
use Rattle.pm_types.specs.declared.object.Object.{Object}
use Rattle.pm_types.specs.declared.object.Slot.{Slot}
use Rattle.pm_types.specs.declared.object.Slot.TheVariants.{Live, Moved}
use Rattle.pm_types.specs.declared.source.RefSource.{RefSource}
use Rattle.pm_types.specs.declared.source.RefSource.TheVariants.{Root, Handle, Field}
use Rattle.pm_cars.specs.Cars.{Car, new_car, object_room, object_of, look_of}
use Rattle.pm_cars.specs.declared.look.Look.TheVariants as looks
use Rattle.pm_trains.specs.Trains.{train_of, tail}
use Rattle.pm_model.specs.Heap as meant
use Rattle.pm_roots.specs.Bindings.{address_at}
use Rattle.pm_view.specs.declared.phase.Phase.TheVariants.{Moving}
use Rattle.pm_view.specs.Sources.{same_address}
use Rattle.pm_view.specs.View.{SpaceView}
use Rattle.pm_view.specs.Reading.{slot_at, object_at, field_of, stored, aside_in, is_aside, is_kept, id_at, named_by}
use Rattle.pm_view.specs.Law.{IsAnchor, HeapLaw}
use Rattle.pm_view.specs.Represents.{names}
use Rattle.pm_view.specs.Rows.{has_room, if_fits, tail_for, place_in, next_of, IsVacant}
use Rattle.pm_view.specs.Collecting.{put_away, settled, moved_object, moved_some, moved}
use Rattle.pm_law_commands.proofs.RowLemmas.Numbers.{owner, found_by_number}
use Rattle.pm_law_commands.proofs.RowLemmas.Places.{slot_of, live_slot}
use Rattle.pm_law_commands.proofs.RowLemmas.SameSource.{same_address-true}
use Rattle.pm_law_commands.proofs.RowLemmas.Born.{room_fits, small_room}
use Rattle.pm_law_collect.proofs.PhasesLemmas.Small.{some_same, none_some}
use Rattle.pm_law_collect.proofs.PhasesLemmas.MeansSame.{MeansSame}
use Rattle.pm_law_collect.proofs.MovesLemmas.MoveRow.{GoesTo, moved_means_same}
use Rattle.pm_law_collect.proofs.MovesLemmas.MoveRows.{IsMoveTo}
use Rattle.pm_law_collect.proofs.MovesLemmas.PutRow.{in_tail, tail_put, in_new, new_put}
use Rattle.pm_view.specs.Sinking.{IsOf, IsFieldOf, Sunk}
use Rattle.pm_law_bound.proofs.SunkLemmas.Agreeing.{of_object, is_of, field_object}

-- ---- what the space means stays

module _ (view : SpaceView) (from : Addr) (y number : ℕ) (object : Object) (anchor : Option (Addr × ℕ)) (law : HeapLaw view) (is : IsMoveTo view from y object) (vacant : IsVacant view.cars number)
    (anchors : (a : Addr) (to : ℕ) → anchor ≡ Some (a, to) → IsAnchor view a to × ((from.car == a.car) ≡ false)) where
  small : object_room object ≤ CAR_ROOM
  small = let was = law.built.objects from object is.here in small_room object was.fields was.bytes

  abbrev put_by : Option ℕ → SpaceView
  put_by d = record (settled (put_away view from d y number object) from (place_in view.cars d number) object) { anchor = anchor }

  module _ (old : Car) (is_old : get view.cars from.car ≡ Some old) (live : get old.slots from.slot ≡ Some (Live object)) where
    into_new : MeansSame view (put_by None)
    into_new =
        moved_means_same view (in_new view from old object law is.moving is_old live number y anchor vacant.vacant vacant.from_one small is.stands) from number old (new_car number) object law
        (new_put view from old object law is.moving is_old live number y anchor vacant.vacant vacant.from_one small is.stands) anchors

    into_tail : (c : ℕ) (car : Car) → get view.cars c ≡ Some car → tail view.trains.trains y ≡ Some c → has_room car (object_room object) ≡ true → MeansSame view (put_by (Some c))
    into_tail c car found last room =
        subst (λ p. MeansSame view (record (settled (put_away view from (Some c) y number object) from p object) { anchor = anchor })) (λ i. record { car = c; slot = next_of (sym found i) })
        (moved_means_same view (in_tail view from old object law is.moving is_old live c y number car anchor found (room_fits car (object_room object) room) (is.tail_apart c last)) from c old car object law
        (tail_put view from old object law is.moving is_old live c y number car anchor found (room_fits car (object_room object) room) (is.tail_apart c last)) anchors)

    by_car : (e c : ℕ) → tail view.trains.trains y ≡ Some e → (o : Option Car) → get view.cars e ≡ o → option_and_then (λ (car : Car). if has_room car (object_room object) then Some e else None) o ≡ Some c → MeansSame view (put_by (Some c))
    by_car e c last None found goes = cc
    by_car e c last (Some car) found goes = by_test (has_room car (object_room object)) refl goes
      where
        by_test : (b : Bool) → has_room car (object_room object) ≡ b → (if b then Some e else None) ≡ Some c → MeansSame view (put_by (Some c))
        by_test true room goes = let same = some_same e c goes in into_tail c car (ap (get view.cars) (sym same) ∙ found) (last ∙ ap Some same) room
        by_test false room goes = absurd (none_some c goes)

    by_tail : (c : ℕ) (o : Option ℕ) → tail view.trains.trains y ≡ o → option_and_then (if_fits view (object_room object)) o ≡ Some c → MeansSame view (put_by (Some c))
    by_tail c None last goes = absurd (none_some c goes)
    by_tail c (Some e) last goes = by_car e c last (get view.cars e) refl goes

    by_place : (d : Option ℕ) → tail_for view y (object_room object) ≡ d → MeansSame view (put_by d)
    by_place None goes = into_new
    by_place (Some c) goes = by_tail c (tail view.trains.trains y) refl goes

  by_old : (o : Option Car) → get view.cars from.car ≡ o → slot_of o from.slot ≡ Some (Live object) → MeansSame view (put_by (tail_for view y (object_room object)))
  by_old None is_old live = absurd (none_some (Live object) live)
  by_old (Some old) is_old live = by_place old is_old live (tail_for view y (object_room object)) refl

  object_means : MeansSame view (record (moved_object view from y number object) { anchor = anchor })
  object_means = by_old (get view.cars from.car) refl (live_slot (slot_at view.cars from) object is.here)

  -- the object moves, and this anchor stands then
  pub move_means : MeansSame view (record (moved view from y number) { anchor = anchor })
  move_means = subst (λ o. MeansSame view (record (moved_some view from y number o) { anchor = anchor })) (sym is.here) object_means

-- ---- what names a member

slot_item : (o : Option (Option Addr)) (view : SpaceView) (id : ℕ) → names view (option_flatten o) ≡ Some id → option_map (names view) o ≡ Some (Some id)
slot_item None view id name = cc
slot_item (Some f) view id name = ap Some name

item_slot : (o : Option (Option Addr)) (view : SpaceView) (id : ℕ) → option_map (names view) o ≡ Some (Some id) → names view (option_flatten o) ≡ Some id
item_slot None view id is = cc
item_slot (Some f) view id is = some_same (names view f) (Some id) is

module _ (view t : SpaceView) (Of : ℕ → Type 0) (n : ℕ) (law : HeapLaw view) (means : MeansSame view t) (sunk : Sunk view Of n) where
  root_named : (k id : ℕ) (o : Option Addr) → address_at t.roots k ≡ o → names t o ≡ Some id → Of id → ⊥
  root_named k id None found name is = cc
  root_named k id (Some a) found name is =
      let bound = owner t.roots k a found in
      by_was (get view.roots bound.0) bound.0 refl (sym (means.roots bound.0) ∙ ap (option_and_then (λ (b : ℕ × Addr). named_by t b.1)) bound.1 ∙ name)
    where
      by_was : (o : Option (ℕ × Addr)) → (name : List ℕ) → get view.roots name ≡ o → option_and_then (λ (b : ℕ × Addr). named_by view b.1) o ≡ Some id → ⊥
      by_was None name found leads = none_some id leads
      by_was (Some was) name found leads = sunk.named (Root was.0) id refl (ap (names view) (found_by_number view.roots law.named.numbers name was found) ∙ leads) is

  field_named : (a : Addr) (i id : ℕ) → is_kept t (Field a i) ≡ true → names t (stored t (Field a i)) ≡ Some id → Of id → IsOf t Of a
  field_named a i id up name is =
      let it = field_object (object_at t.cars a) i t id name in
      let was = means.objects a it.0 (not-true (is_aside t a.car) up) it.1 in
      let item : slice_get (map (names t) it.0.fields) i ≡ Some (Some id) = slice_get-map (names t) it.0.fields i ∙ slot_item (slice_get it.0.fields i) t id (ap (λ o. names t (field_of o i)) (sym it.1) ∙ name) in
      let named : names view (stored view (Field was.at i)) ≡ Some id =
      ap (λ o. names view (field_of o i)) was.there ∙ item_slot (slice_get was.was.fields i) view id (sym (slice_get-map (names view) was.was.fields i) ∙ ap (λ (o : meant.Object). slice_get o.fields i) (sym was.meaning) ∙ item) in
      let of = of_object view Of was.at (sunk.named (Field was.at i) id (ap not was.kept) named is) in
      is_of t Of a it.0 it.1 (subst Of (ap (λ (o : Object). o.id) (some_same of.0 was.was (sym of.1 ∙ was.there)) ∙ was.id) of.2)

  means_named : (x : RefSource) (id : ℕ) → is_kept t x ≡ true → names t (stored t x) ≡ Some id → Of id → IsFieldOf t Of x
  means_named (Root k) id up name is = root_named k id (address_at t.roots k) refl name is
  means_named (Handle c r) id up name is = sunk.named (Handle c r) id refl (sym (means.registers (c, r)) ∙ name) is
  means_named (Field a i) id up name is = field_named a i id up name is

-- ---- an object that moves to a train

module _ (view t : SpaceView) (from : Addr) (y : ℕ) (Of : ℕ → Type 0) (n : ℕ) (law : HeapLaw view) (goes : GoesTo view from y t) (means : MeansSame view t) (moving : view.phase ≡ Moving from.car) (sunk : Sunk view Of n)
    (low : IsOf view Of from → y ≤ n) where
  free : (e : ℕ) → is_aside t e ≡ false
  free e = ap (λ p. aside_in p t.trains.trains e) (goes.3.phase ∙ moving)

  -- a member that did not move is in its train
  still_low : (a : Addr) (object : Object) → object_at t.cars a ≡ Some object → Of object.id → (id_at view from ≡ Some object.id → ⊥) → IsSomeAnd (train_of t.trains.trains a.car) (λ train. train ≤ n)
  still_low a object here of still =
      let was = goes.1.back object.id a still (record { kept = free a.car; here = ap (option_map (λ (o : Object). o.id)) here }) in
      subst (λ o. IsSomeAnd o (λ train. train ≤ n)) was.1 (sunk.low a (subst (λ o. IsSomeAnd o Of) (sym was.0.here) of))

  -- and the one that moves is in the train to which it goes
  moved_low : (a : Addr) (object : Object) → object_at t.cars a ≡ Some object → Of object.id → id_at view from ≡ Some object.id → IsSomeAnd (train_of t.trains.trains a.car) (λ train. train ≤ n)
  moved_low a object here of same =
      let placed = goes.2 object.id same in
      let there = id_object (object_at t.cars placed.0) placed.1.here in
      let one : a ≡ placed.0 = goes.0.0.built.apart a placed.0 object there.0 here there.1 (sym there.2) in
      subst (λ o. IsSomeAnd o (λ train. train ≤ n)) (sym (ap (λ (b : Addr). train_of t.trains.trains b.car) one ∙ placed.2)) (low (subst (λ o. IsSomeAnd o Of) (sym same) of))
    where
      id_object : (o : Option Object) → option_map (λ (o : Object). o.id) o ≡ Some object.id → (p : Object) × (o ≡ Some p) × (p.id ≡ object.id)
      id_object None is = absurd (none_some object.id is)
      id_object (Some p) is = (p, refl, some_same p.id object.id is)

  moves_low : (a : Addr) → IsOf t Of a → IsSomeAnd (train_of t.trains.trains a.car) (λ train. train ≤ n)
  moves_low a of = let it = of_object t Of a of in by_id it.0 it.1 it.2 (id_at view from) refl
    where
      by_id : (object : Object) → object_at t.cars a ≡ Some object → Of object.id → (o : Option ℕ) → id_at view from ≡ o → IsSomeAnd (train_of t.trains.trains a.car) (λ train. train ≤ n)
      by_id object here of None is = still_low a object here of (λ same. none_some object.id (sym is ∙ same))
      by_id object here of (Some id) is =
          ⊎_elim
          (λ (one : (id == object.id) ≡ true). moved_low a object here of (is ∙ ap Some (eqb-true id object.id one)))
          (λ (other : (id == object.id) ≡ false). still_low a object here of (λ same. both_ways (id == object.id) other (eq-eqb id object.id (some_same id object.id (sym is ∙ same)))))
          (cases_Bool (id == object.id))

  -- an anchor's object is the one that it was
  anchor_was : (a : Addr) (to : ℕ) → view.anchor ≡ Some (a, to) → IsOf t Of a → IsOf view Of a
  anchor_was a to stands of =
      let it = of_object t Of a of in
      is_of view Of a it.0
      (⊎_elim
      (λ (here : same_address from a ≡ true). absurd (gone (slot_at t.cars from) goes.4.told (ap (object_at t.cars) (same_address-true from a here) ∙ it.1)))
      (λ (apart : same_address from a ≡ false).
      ⊎_elim
      (λ (there : same_address goes.4.to a ≡ true). absurd (true≢false (sym (sym (ap (λ o. is_some (object_of o)) (ap (slot_at view.cars) (sym (same_address-true goes.4.to a there)) ∙ goes.4.none)) ∙ (law.anchor a to stands).live))))
      (λ (other : same_address goes.4.to a ≡ false). sym (goes.4.objects a apart other) ∙ it.1)
      (cases_Bool (same_address goes.4.to a)))
      (cases_Bool (same_address from a)))
      it.2
    where
      gone : (o : Option Slot) {object : Object} → look_of o ≡ looks.Moved goes.4.to → object_of o ≡ Some object → ⊥
      gone None {object} told there = none_some object there
      gone (Some (Live it)) told there = cc
      gone (Some (Moved to)) {object} told there = none_some object there

  -- so what is sunk stays so
  pub moving_sunk : ((a : Addr) (to : ℕ) → t.anchor ≡ Some (a, to) → view.anchor ≡ Some (a, to)) → Sunk t Of n
  moving_sunk anchors = record {
    given = λ id is. subst (λ m. id < m) (sym means.next) (sunk.given id is);
    named = means_named view t Of n law means sunk;
    low = moves_low;
    anchored = λ a to stands of. sunk.anchored a to (anchors a to stands) (anchor_was a to (anchors a to stands) of);
  }
