-- The three rows that move an object: the anchor, one that an outside source names, and one that another source names.
use Rattle.std.proofs.Common.{◌≡◌, ℕ, suc, ◌-◌, ◌≤◌, ◌==◌, ◌&&◌, ◌||◌, if◌then◌else◌, Bool, true, false, cond, not, refl, ap, sym, subst, ◌∙◌, List, [], ◌∷◌, length, Option, Some, None, arith, is_some, IsTrue}
use Rattle.std.specs.Option.{IsSome, option_map, option_and_then, unwrap_or}
use Rattle.std.specs.List.{find, slice_get}
use Rattle.std.specs.FinMap.{get, entries}
use Rattle.std.proofs.lemmas.Bool.{eqb-true, eq-eqb, and_from, both_ways, true≢false, false_from_ne_true}
use Rattle.pm_types.specs.declared.limits.TheConstants.{CAR_ROOM}
use Rattle.pm_types.proofs.Orders.{sources_total, sources_antisymmetric}
use Rattle.pm_types.specs.declared.address.Addr.{Addr}
use Rattle.pm_types.specs.declared.object.Object.{Object}
use Rattle.pm_types.specs.declared.object.Slot.{Slot}
use Rattle.pm_types.specs.declared.object.Slot.TheVariants.{Live, Moved}
use Rattle.pm_types.specs.declared.source.RefSource.{RefSource}
use Rattle.pm_types.specs.declared.source.RefSource.TheVariants.{Root, Handle, Field}
use Rattle.pm_cars.specs.Cars.{Car, new_car, object_room, object_of, look_of}
use Rattle.pm_trains.specs.Trains.{cars_at, train_of, is_among, tail}
use Rattle.pm_view.specs.declared.phase.Phase.TheVariants.{Moving}
use Rattle.pm_view.specs.Sources.{lies_in, outside}
use Rattle.pm_view.specs.View.{SpaceView}
use Rattle.pm_view.specs.Reading.{slot_at, object_at, cars_of, is_aside}
use Rattle.pm_view.specs.Seen.{seen}
use Rattle.pm_view.specs.Seen as seen_words
use Rattle.pm_view.specs.Law.{IsAnchor, HeapLaw}
use Rattle.pm_view.specs.Rows.{has_room, if_fits, tail_for, put_in, place_in, next_of, IsVacant}
use Rattle.pm_view.specs.Candidates.{set_of, is_beyond, candidates}
use Rattle.pm_view.specs.Collecting.{put_away, settled, moved_object, moved_some, moved}
use Rattle.pm_view.specs.Events.{named_in, went, has_gone, least_stale, anchor_in, first_of, home, ways_out}
use Rattle.pm_law_commands.proofs.RowLemmas.Places.{slot_of, live_slot}
use Rattle.pm_law_commands.proofs.RowLemmas.OpenTrain.{first_home, tail_home}
use Rattle.pm_law_commands.proofs.RowLemmas.Born.{room_fits, small_room}
use Rattle.pm_law_collect.proofs.PhasesLemmas.Small.{some_same, none_some, turned}
use Rattle.pm_law_collect.proofs.PhasesLemmas.Finds.{no_entry, found_entry}
use Rattle.pm_law_collect.proofs.PhasesLemmas.Comes.{IsEmptied, IsMovingAnchor, IsMovingOut, IsMovingOn}
use Rattle.pm_law_collect.proofs.PhasesLemmas.PhaseRows.{emptied_aside, emptied_front, emptied_set, remembered_leads, pick_stands}
use Rattle.pm_law_collect.proofs.PhasesLemmas.FirstGone.{among_less, own_less}
use Rattle.pm_law_collect.proofs.MovesLemmas.MoveRow.{GoesTo, moved_goes}
use Rattle.pm_law_collect.proofs.MovesLemmas.PutRow.{in_tail, tail_put, in_new, new_put, new_lands}
use Rattle.pm_law_collect.proofs.PhasesLemmas.Fronts.{IsFrontOf, first_cars, front_of}

-- what is asked of a move: the object lies in the from-car, the train stands and its tail is not the from-car
pub record IsMoveTo (view : SpaceView) (from : Addr) (y : ℕ) (object : Object) : Type 0 where
  pub moving : view.phase ≡ Moving from.car
  pub here : object_at view.cars from ≡ Some object
  pub stands : IsSome (cars_at view.trains.trains y)
  pub tail_apart : (c : ℕ) → tail view.trains.trains y ≡ Some c → (from.car == c) ≡ false

module _ (view : SpaceView) (from : Addr) (y number : ℕ) (object : Object) (anchor : Option (Addr × ℕ)) (law : HeapLaw view) (is : IsMoveTo view from y object) (vacant : IsVacant view.cars number)
    (anchors : (a : Addr) (to : ℕ) → anchor ≡ Some (a, to) → IsAnchor view a to × ((from.car == a.car) ≡ false)) where
  small : object_room object ≤ CAR_ROOM
  small = let was = law.built.objects from object is.here in small_room object was.fields was.bytes

  abbrev put_by : Option ℕ → SpaceView
  put_by d = record (settled (put_away view from d y number object) from (place_in view.cars d number) object) { anchor = anchor }

  module _ (old : Car) (is_old : get view.cars from.car ≡ Some old) (live : get old.slots from.slot ≡ Some (Live object)) where
    into_new : GoesTo view from y (put_by None)
    into_new =
        moved_goes view (in_new view from old object law is.moving is_old live number y anchor vacant.vacant vacant.from_one small is.stands) from number old (new_car number) object law
        (new_put view from old object law is.moving is_old live number y anchor vacant.vacant vacant.from_one small is.stands) anchors y (new_lands view from old object law is.moving is_old live number y anchor vacant.vacant vacant.from_one small is.stands)

    into_tail : (c : ℕ) (car : Car) → get view.cars c ≡ Some car → tail view.trains.trains y ≡ Some c → has_room car (object_room object) ≡ true → GoesTo view from y (put_by (Some c))
    into_tail c car found last room =
        subst (λ p. GoesTo view from y (record (settled (put_away view from (Some c) y number object) from p object) { anchor = anchor })) (λ i. record { car = c; slot = next_of (sym found i) })
        (moved_goes view (in_tail view from old object law is.moving is_old live c y number car anchor found (room_fits car (object_room object) room) (is.tail_apart c last)) from c old car object law
        (tail_put view from old object law is.moving is_old live c y number car anchor found (room_fits car (object_room object) room) (is.tail_apart c last)) anchors y (tail_home view.trains.trains y c law.built.trains.single last))

    by_car : (e c : ℕ) → tail view.trains.trains y ≡ Some e → (o : Option Car) → get view.cars e ≡ o → option_and_then (λ (car : Car). if has_room car (object_room object) then Some e else None) o ≡ Some c → GoesTo view from y (put_by (Some c))
    by_car e c last None found goes = cc
    by_car e c last (Some car) found goes = by_test (has_room car (object_room object)) refl goes
      where
        by_test : (b : Bool) → has_room car (object_room object) ≡ b → (if b then Some e else None) ≡ Some c → GoesTo view from y (put_by (Some c))
        by_test true room goes = let same = some_same e c goes in into_tail c car (ap (get view.cars) (sym same) ∙ found) (last ∙ ap Some same) room
        by_test false room goes = absurd (none_some c goes)

    by_tail : (c : ℕ) (o : Option ℕ) → tail view.trains.trains y ≡ o → option_and_then (if_fits view (object_room object)) o ≡ Some c → GoesTo view from y (put_by (Some c))
    by_tail c None last goes = absurd (none_some c goes)
    by_tail c (Some e) last goes = by_car e c last (get view.cars e) refl goes

    by_place : (d : Option ℕ) → tail_for view y (object_room object) ≡ d → GoesTo view from y (put_by d)
    by_place None goes = into_new
    by_place (Some c) goes = by_tail c (tail view.trains.trains y) refl goes

  by_old : (o : Option Car) → get view.cars from.car ≡ o → slot_of o from.slot ≡ Some (Live object) → GoesTo view from y (put_by (tail_for view y (object_room object)))
  by_old None is_old live = absurd (none_some (Live object) live)
  by_old (Some old) is_old live = by_place old is_old live (tail_for view y (object_room object)) refl

  object_goes : GoesTo view from y (record (moved_object view from y number object) { anchor = anchor })
  object_goes = by_old (get view.cars from.car) refl (live_slot (slot_at view.cars from) object is.here)

  -- the object moves, and this anchor stands then
  pub goes : GoesTo view from y (record (moved view from y number) { anchor = anchor })
  goes = subst (λ o. GoesTo view from y (record (moved_some view from y number o) { anchor = anchor })) (sym is.here) object_goes

-- a move leaves the anchor
module _ (view : SpaceView) (from : Addr) (y number : ℕ) where
  same_put : (d : Option ℕ) (object : Object) → (put_in view y d number object).anchor ≡ view.anchor
  same_put None object = refl
  same_put (Some c) object = refl

  pub same_some : (o : Option Object) → (moved_some view from y number o).anchor ≡ view.anchor
  same_some None = refl
  same_some (Some object) = same_put (tail_for view y (object_room object)) object

  pub anchor_left : record (moved view from y number) { anchor = view.anchor } ≡ moved view from y number
  anchor_left = λ i. record (moved view from y number) { anchor = sym (same_some (object_at view.cars from)) i }

-- ---- a car that is emptied

module _ (view : SpaceView) (car : ℕ) (law : HeapLaw view) (is : IsEmptied view car None) where
  free : (e : ℕ) → is_aside view e ≡ false
  free = emptied_aside view car None law is

  abbrev pub front : IsFrontOf view.trains.trains car
  front = front_of view.trains.trains car (emptied_front view car None law is)

  pub own_train : train_of view.trains.trains car ≡ Some front.train
  own_train = first_home view.trains.trains front.train car law.built.trains.single front.first

  pub home_is : home view car ≡ front.train
  home_is = ap (λ o. unwrap_or o 0) own_train

  no_stale : (o : Option (RefSource × ℕ)) → least_stale view car ≡ o → option_and_then (λ e. option_map {U = RefSource × Addr} (λ to. (e.0, to)) (went (slot_at view.cars (named_in car e)))) o ≡ None → o ≡ None
  no_stale None found none = refl
  no_stale (Some e) found none =
      absurd (clash (went (slot_at view.cars (named_in car e))) (found_entry sources_total sources_antisymmetric (λ (e : RefSource × ℕ). has_gone (went (slot_at view.cars (named_in car e)))) (set_of view car) e found).1 none)
    where
      clash : (o : Option Addr) → has_gone o ≡ true → option_map {U = RefSource × Addr} (λ to. (e.0, to)) o ≡ None → ⊥
      clash None gone none = true≢false (sym gone)
      clash (Some to) gone none = cc

  -- what the car remembers is an object, since no source names a Moved slot
  pub remembered_live : (x : RefSource) (slot : ℕ) → get (set_of view car) x ≡ Some slot → IsSome (object_at view.cars (record { car = car; slot = slot }))
  remembered_live x slot held =
      by_slot (slot_at view.cars (record { car = car; slot = slot }))
      (no_entry sources_total sources_antisymmetric (λ (e : RefSource × ℕ). has_gone (went (slot_at view.cars (named_in car e)))) (set_of view car) (no_stale (least_stale view car) refl is.goes) x slot held)
      (remembered_leads view law free car x slot (emptied_set view car None law is x ∙ held)).1
    where
      by_slot : (o : Option Slot) → has_gone (went o) ≡ false → seen_words.Leads (seen view) (record { car = car; slot = slot }) (look_of o) → IsSome (object_of o)
      by_slot None gone leads = absurd leads
      by_slot (Some (Live object)) gone leads = refl
      by_slot (Some (Moved to)) gone leads = absurd (true≢false gone)

  -- the tail of another train is not the car
  pub other_tail : (y : ℕ) → (y == front.train) ≡ false → (c : ℕ) → tail view.trains.trains y ≡ Some c → (car == c) ≡ false
  other_tail y apart c last =
      false_from_ne_true (car == c) (λ same.
      let there : train_of view.trains.trains c ≡ Some y = tail_home view.trains.trains y c law.built.trains.single last in
      both_ways (y == front.train) apart (eq-eqb y front.train (some_same y front.train (sym there ∙ ap (train_of view.trains.trains) (sym (eqb-true car c same)) ∙ own_train))))

  -- an anchor that is not in the car
  pub anchor_elsewhere : anchor_in car view.anchor ≡ None → (a : Addr) (to : ℕ) → view.anchor ≡ Some (a, to) → (car == a.car) ≡ false
  anchor_elsewhere none a to stands = by_test (a.car == car) refl (ap (anchor_in car) (sym stands) ∙ none)
    where
      by_test : (b : Bool) → (a.car == car) ≡ b → ◌≡◌ {A = Option (Addr × ℕ)} (cond b (Some (a, to)) None) None → (car == a.car) ≡ false
      by_test true same none = cc
      by_test false apart none = turned car a.car ∙ apart

-- ---- the rows

some_is : {A : Type 0} (o : Option A) → is_some o ≡ true → (x : A) × (o ≡ Some x)
some_is None some = absurd (true≢false (sym some))
some_is (Some x) some = (x, refl)

-- the anchor moves to its train, and stands no more
module _ (view : SpaceView) (a : Addr) (to number : ℕ) (law : HeapLaw view) (is : IsMovingAnchor view a to) (vacant : IsVacant view.cars number) where
  anchor_is : (o : Option (Addr × ℕ)) → anchor_in is.car o ≡ Some (a, to) → (o ≡ Some (a, to)) × (a.car ≡ is.car)
  anchor_is None found = absurd (clash found)
    where
      clash : ◌≡◌ {A = Option (Addr × ℕ)} None (Some (a, to)) → ⊥
      clash is = cc
  anchor_is (Some anchor) found = by_test (anchor.0.car == is.car) refl found
    where
      by_test : (b : Bool) → (anchor.0.car == is.car) ≡ b → cond b (Some anchor) None ≡ Some (a, to) → (Some anchor ≡ Some (a, to)) × (a.car ≡ is.car)
      by_test true same found = (found, let one : anchor ≡ (a, to) = some_same {A = Addr × ℕ} anchor (a, to) found in sym (ap (λ (p : Addr × ℕ). p.0.car) one) ∙ eqb-true anchor.0.car is.car same)
      by_test false same found = cc

  stands : (view.anchor ≡ Some (a, to)) × (a.car ≡ is.car)
  stands = anchor_is view.anchor is.anchor

  pub anchor_car : a.car ≡ is.car
  anchor_car = stands.1

  anchored_there : IsAnchor view a to
  anchored_there = law.anchor a to stands.0

  to_apart : (to == (front view is.car law is.emptied).train) ≡ false
  to_apart = false_from_ne_true (to == (front view is.car law is.emptied).train) (λ same. anchored_there.leaves ((front view is.car law is.emptied).old.0 ∙ ap Some (sym (eqb-true to _ same))))

  pub anchor_tail : (c : ℕ) → tail view.trains.trains to ≡ Some c → (a.car == c) ≡ false
  anchor_tail c last = ap (λ n. n == c) stands.1 ∙ other_tail view is.car law is.emptied to to_apart c last

  pub anchor_moves : GoesTo view a to (record (moved view a to number) { anchor = None })
  anchor_moves =
      let object = some_is (object_at view.cars a) anchored_there.live in
      goes view a to number object.0 None law
      (record {
        moving = is.emptied.moving ∙ ap Moving (sym stands.1);
        here = object.1;
        stands = anchored_there.stands;
        tail_apart = anchor_tail;
      })
      vacant (λ b n none. absurd (clash b n none))
    where
      clash : (b : Addr) (n : ℕ) → ◌≡◌ {A = Option (Addr × ℕ)} None (Some (b, n)) → ⊥
      clash b n is = cc

-- an object that an outside source names moves to a train that is picked
module _ (view : SpaceView) (a : Addr) (picked number : ℕ) (law : HeapLaw view) (is : IsMovingOut view a) (may : IsTrue (is_among picked (ways_out view a))) (vacant : IsVacant view.cars number) where
  abbrev out_front : IsFrontOf view.trains.trains is.car
  out_front = front view is.car law is.emptied

  out_held : get (set_of view is.car) is.entry.0 ≡ Some is.entry.1
  out_held = (found_entry sources_total sources_antisymmetric (λ (e : RefSource × ℕ). is_beyond view.trains.trains (home view is.car) e.0) (set_of view is.car) is.entry is.outside).0

  out_object : IsSome (object_at view.cars a)
  out_object = subst (λ a. IsSome (object_at view.cars a)) (sym is.here) (remembered_live view is.car law is.emptied is.entry.0 is.entry.1 out_held)

  out_car : a.car ≡ is.car
  out_car = ap (λ (a : Addr). a.car) is.here

  out_pick : IsSome (cars_at view.trains.trains picked) × ((picked == out_front.train) ≡ false)
  out_pick = pick_stands view law out_front.train picked a out_front.old (subst (λ n. IsTrue (is_among picked (candidates view n a))) (ap (home view) out_car ∙ home_is view is.car law is.emptied) may)

  pub out_tail : (c : ℕ) → tail view.trains.trains picked ≡ Some c → (a.car == c) ≡ false
  out_tail c last = ap (λ n. n == c) out_car ∙ other_tail view is.car law is.emptied picked out_pick.1 c last

  pub object_moves_out : GoesTo view a picked (moved view a picked number)
  object_moves_out =
      let object = some_is (object_at view.cars a) out_object in
      subst (GoesTo view a picked) (anchor_left view a picked number)
      (goes view a picked number object.0 view.anchor law
      (record {
        moving = is.emptied.moving ∙ ap Moving (sym out_car);
        here = object.1;
        stands = out_pick.0;
        tail_apart = out_tail;
      })
      vacant (λ b n found. (law.anchor b n found, ap (λ m. m == b.car) out_car ∙ anchor_elsewhere view is.car law is.emptied is.none b n found)))

-- the last of the cars behind the first is one of them
last_is : (x : ℕ) (xs : List ℕ) (e : ℕ) → slice_get (x ∷ xs) (length xs) ≡ Some e → is_among e (x ∷ xs) ≡ true
last_is x [] e last = front_true (x == e) false (eq-eqb x e (some_same x e last))
  where
    front_true : (b d : Bool) → b ≡ true → (b || d) ≡ true
    front_true true d is = refl
    front_true false d is = absurd (true≢false (sym is))
last_is x (y ∷ ys) e last = either (x == e) (last_is y ys e last)
  where
    either : (b : Bool) {d : Bool} → d ≡ true → (b || d) ≡ true
    either true is = refl
    either false is = is

-- an object that another source of its train names moves to the end of the train
module _ (view : SpaceView) (a : Addr) (train number : ℕ) (law : HeapLaw view) (is : IsMovingOn view a train) (vacant : IsVacant view.cars number) where
  abbrev on_front : IsFrontOf view.trains.trains is.car
  on_front = front view is.car law is.emptied

  train_is : train ≡ on_front.train
  train_is = is.home ∙ home_is view is.car law is.emptied

  first_found : (es : List (RefSource × ℕ)) → find (λ e. true) es ≡ first_of es
  first_found [] = refl
  first_found (e ∷ es) = refl

  on_held : get (set_of view is.car) is.entry.0 ≡ Some is.entry.1
  on_held = (found_entry sources_total sources_antisymmetric (λ (e : RefSource × ℕ). true) (set_of view is.car) is.entry (first_found (entries (set_of view is.car)) ∙ is.least)).0

  on_object : IsSome (object_at view.cars a)
  on_object = subst (λ a. IsSome (object_at view.cars a)) (sym is.here) (remembered_live view is.car law is.emptied is.entry.0 is.entry.1 on_held)

  on_car : a.car ≡ is.car
  on_car = ap (λ (a : Addr). a.car) is.here

  -- the source lies in another car of the train
  within : (b : Bool) → not b ≡ false → b ≡ true
  within true is = refl
  within false is = absurd (true≢false is)

  other_car : (x : RefSource) → lies_in (λ car. is_among car (cars_of view.trains.trains on_front.train)) x ≡ true → outside is.car x ≡ true → (e : ℕ) × ((is_among e (cars_of view.trains.trains on_front.train) && not (e == is.car)) ≡ true)
  other_car (Root n) inside out = absurd (true≢false (sym inside))
  other_car (Handle c r) inside out = absurd (true≢false (sym inside))
  other_car (Field b i) inside out = (b.car, and_from _ _ inside out)

  another : (e : ℕ) × ((is_among e (cars_of view.trains.trains on_front.train) && not (e == is.car)) ≡ true)
  another =
      other_car is.entry.0
      (subst (λ n. lies_in (λ car. is_among car (cars_of view.trains.trains n)) is.entry.0 ≡ true) (home_is view is.car law is.emptied)
      (within _ (no_entry sources_total sources_antisymmetric (λ (e : RefSource × ℕ). is_beyond view.trains.trains (home view is.car) e.0) (set_of view is.car) is.outside is.entry.0 is.entry.1 on_held)))
      (law.tied.holds is.car is.entry.0 is.entry.1 (free view is.car law is.emptied is.car) (emptied_set view is.car None law is.emptied is.entry.0 ∙ on_held)).0

  cars : (rest : List ℕ) × (cars_at view.trains.trains on_front.train ≡ Some (is.car ∷ rest))
  cars = first_cars (cars_at view.trains.trains on_front.train) is.car on_front.first

  among_rest : (e : ℕ) → is_among e cars.0 ≡ (is_among e (cars_of view.trains.trains on_front.train) && not (e == is.car))
  among_rest e =
      ap (is_among e) (sym (own_less view.trains.trains on_front.train is.car cars.0 law.built.trains.rising law.built.trains.filled law.built.trains.single on_front.old cars.1))
      ∙ among_less view.trains.trains on_front.train is.car cars.0 law.built.trains.rising law.built.trains.filled law.built.trains.single on_front.old cars.1 e

  -- so the train's tail is another car
  tail_rest : (xs : List ℕ) → ((e : ℕ) → is_among e xs ≡ (is_among e (cars_of view.trains.trains on_front.train) && not (e == is.car))) → (c : ℕ) → slice_get (is.car ∷ xs) (length (is.car ∷ xs) - 1) ≡ Some c → (is.car == c) ≡ false
  tail_rest [] rest c last = absurd (true≢false (sym (rest another.0 ∙ another.1)))
  tail_rest (x ∷ xs) rest c last =
      by_both (is_among c (cars_of view.trains.trains on_front.train)) (sym (rest c) ∙ last_is x xs c (tail_step ∙ last))
    where
      tail_step : slice_get (x ∷ xs) (length xs) ≡ slice_get (is.car ∷ x ∷ xs) (length (is.car ∷ x ∷ xs) - 1)
      tail_step = ap (slice_get (is.car ∷ x ∷ xs)) (let one : suc (length xs) ≡ length (is.car ∷ x ∷ xs) - 1 = omega arith in one)

      by_both : (b : Bool) → (b && not (c == is.car)) ≡ true → (is.car == c) ≡ false
      by_both true both = turned is.car c ∙ not_true (c == is.car) both
        where
          not_true : (b : Bool) → not b ≡ true → b ≡ false
          not_true true is = absurd (true≢false (sym is))
          not_true false is = refl
      by_both false both = absurd (true≢false (sym both))

  on_tail : (c : ℕ) → tail view.trains.trains on_front.train ≡ Some c → (is.car == c) ≡ false
  on_tail c last = tail_rest cars.0 among_rest c (sym (ap (option_and_then (λ (cars : List ℕ). slice_get cars (length cars - 1))) cars.1) ∙ last)

  pub train_tail : (c : ℕ) → tail view.trains.trains train ≡ Some c → (a.car == c) ≡ false
  train_tail c last = ap (λ n. n == c) on_car ∙ on_tail c (ap (tail view.trains.trains) (sym train_is) ∙ last)

  pub object_moves_on : GoesTo view a train (moved view a train number)
  object_moves_on =
      let object = some_is (object_at view.cars a) on_object in
      subst (GoesTo view a train) (anchor_left view a train number)
      (goes view a train number object.0 view.anchor law
      (record {
        moving = is.emptied.moving ∙ ap Moving (sym on_car);
        here = object.1;
        stands = subst (λ n. IsSome (cars_at view.trains.trains n)) (sym train_is) (ap is_some cars.1);
        tail_apart = train_tail;
      })
      vacant (λ b n found. (law.anchor b n found, ap (λ m. m == b.car) on_car ∙ anchor_elsewhere view is.car law is.emptied is.none b n found)))
