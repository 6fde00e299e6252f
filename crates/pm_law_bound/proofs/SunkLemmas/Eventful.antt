-- Whatever event of the collector comes next, a sunk set stays sunk.
use Rattle.std.proofs.Common.{◌≡◌, ◌≤◌, inr, ℕ, ◌+◌, ◌==◌, if◌then◌else◌, Bool, true, false, cond, refl, ap, sym, subst, ◌∙◌, List, [], ◌∷◌, length, Option, Some, None, is_some, IsTrue}
use Rattle.std.specs.Option.{IsSome, IsSomeAnd, option_map, unwrap_or}
use Rattle.std.specs.FinMap.{get}
use Rattle.std.proofs.lemmas.Bool.{eqb-true, eq-eqb, cond-false, both_ways, false_from_ne_true}
use Rattle.pm_types.specs.declared.address.Addr.{Addr}
use Rattle.pm_types.specs.declared.object.Object.{Object}
use Rattle.pm_types.specs.declared.source.Change.{Change}
use Rattle.pm_cars.specs.Cars.{object_of}
use Rattle.pm_trains.specs.Trains.{Trains, cars_at, train_of, is_among, youngest, rotated}
use Rattle.pm_trains.proofs.Cars.{home_rotated}
use Rattle.pm_view.specs.declared.phase.Phase.TheVariants.{Moving}
use Rattle.pm_view.specs.Sources.{same_address}
use Rattle.pm_view.specs.View.{SpaceView}
use Rattle.pm_view.specs.Reading.{slot_at, object_at, cars_of, aside_in, is_aside}
use Rattle.pm_view.specs.Rows.{IsVacant}
use Rattle.pm_view.specs.Law.{IsOldest, IsPhaseOf, HeapLaw}
use Rattle.pm_view.specs.Candidates.{candidates, queue_of}
use Rattle.pm_view.specs.Collecting.{selected, doomed, anchored, started, finished, applied_front, applied_in, moved_some, moved, swept_some, swept, without_car, completing, freed_of_train}
use Rattle.pm_view.specs.Events.{Row, nothing, select, apply, doom, start, fix, move_anchor, move_out, move_on, finish, sweep, free, free_doomed, anchor_in, home, ways_out, next_row, after, MayNote, MayPick, MayPlace}
use Rattle.pm_law_commands.proofs.RowLemmas.Places.{slot_of}
use Rattle.pm_law_commands.proofs.RowLemmas.SameSource.{same_address-true}
use Rattle.pm_law_commands.proofs.RowLemmas.OpenTrain.{first_home}
use Rattle.pm_law_collect.proofs.PhasesLemmas.Small.{none_some, some_pair, turned}
use Rattle.pm_law_collect.proofs.PhasesLemmas.Comes.{IsSweeping, IsMovingAnchor, IsMovingOut, IsMovingOn, comes_where}
use Rattle.pm_law_collect.proofs.PhasesLemmas.PhaseRows.{drained_aside, emptied_aside, pick_stands}
use Rattle.pm_law_collect.proofs.PhasesLemmas.Fronts.{IsFrontOf, at_remove, first_cars, swept_aside, front_of}
use Rattle.pm_law_collect.proofs.PhasesLemmas.FirstGone.{home_less}
use Rattle.pm_law_collect.proofs.PhasesLemmas.MeansSame.{MeansSame}
use Rattle.pm_law_collect.proofs.PhasesLemmas.Stays.{Stays, none}
use Rattle.pm_law_collect.proofs.MovesLemmas.MoveRows.{front, own_train, home_is, anchor_elsewhere, anchor_left, same_some, anchor_car, anchor_tail, anchor_moves, out_tail, object_moves_out, train_tail, object_moves_on}
use Rattle.pm_law_collect.proofs.SweepsLemmas.SweepRow.{swept_slot}
use Rattle.pm_law_collect.proofs.SweepsLemmas.FreeRow.{freed_goes, freed_doomed_goes}
use Rattle.pm_view.specs.Sinking.{IsOf, Sunk}
use Rattle.pm_law_bound.proofs.SunkLemmas.Agreeing.{agreeing_sunk, agrees_same, lies_same}
use Rattle.pm_law_bound.proofs.SunkLemmas.Ways.{out_low, noted_low}
use Rattle.pm_law_bound.proofs.SunkLemmas.Moving.{move_means, moving_sunk}
use Rattle.pm_law_bound.proofs.SunkLemmas.Fixing.{fixing_sunk}

no_anchor : (a : Addr) (to : ℕ) → ◌≡◌ {A = Option (Addr × ℕ)} None (Some (a, to)) → ⊥
no_anchor a to is = cc

module _ (view : SpaceView) (Of : ℕ → Type 0) (n : ℕ) (law : HeapLaw view) (sunk : Sunk view Of n) where
  -- ---- phases and changes

  select_sunk : (train : ℕ) → next_row view ≡ select train → Sunk (selected view train) Of n
  select_sunk train next =
      let is = comes_where view (select train) next in
      let t = selected view train in
      agreeing_sunk view t Of n law (agrees_same view t refl refl refl refl (λ e up. ap (λ p. aside_in p view.trains.trains e) is.idle)) (lies_same view t refl (homes (train == youngest view.trains.trains))) sunk sunk.anchored
    where
      homes : (b : Bool) (e : ℕ) → train_of (if b then record { trains = rotated view.trains.trains; births = 0 } else view.trains).trains e ≡ train_of view.trains.trains e
      homes true e = home_rotated e (youngest view.trains.trains + 1) view.trains.trains
      homes false e = refl

  apply_sunk : (car : ℕ) → Sunk (applied_in view car) Of n
  apply_sunk car = by_queue (queue_of view car)
    where
      by_queue : (q : List Change) → Sunk (applied_front view car q) Of n
      by_queue [] = sunk
      by_queue (c ∷ cs) = let t = applied_front view car (c ∷ cs) in agreeing_sunk view t Of n law (agrees_same view t refl refl refl refl (λ e up. up)) (lies_same view t refl (λ e. refl)) sunk sunk.anchored

  doom_sunk : (train : ℕ) → next_row view ≡ doom train → Sunk (doomed view train) Of n
  doom_sunk train next =
      let is = comes_where view (doom train) next in
      let t = doomed view train in
      agreeing_sunk view t Of n law (agrees_same view t refl refl refl refl (λ e up. drained_aside view train None law is e)) (lies_same view t refl (λ e. refl)) sunk (λ a to none of. absurd (no_anchor a to none))

  start_sunk : (car picked : ℕ) (a : Addr) → next_row view ≡ start car a → MayNote view view.anchor a picked → Sunk (started view car a picked) Of n
  start_sunk car picked a next may =
      let is = comes_where view (start car a) next in
      let t = started view car a picked in
      agreeing_sunk view t Of n law (agrees_same view t refl refl refl refl (λ e up. drained_aside view is.train (Some a) law is.drained e)) (lies_same view t refl (λ e. refl)) sunk (by_anchor view.anchor refl may)
    where
      by_anchor : (o : Option (Addr × ℕ)) → view.anchor ≡ o → MayNote view o a picked → (b : Addr) (to : ℕ) → anchored o a picked ≡ Some (b, to) → IsOf view Of b → to ≤ n
      by_anchor None was may b to noted of =
          let same = some_pair a b picked to noted in
          subst (λ m. m ≤ n) same.1 (noted_low view law Of n sunk car a (subst (IsOf view Of) (sym same.0) of) next picked may)
      by_anchor (Some anchor) was may b to noted of = sunk.anchored b to (was ∙ noted) of

  finish_sunk : (car : ℕ) → next_row view ≡ finish car → Sunk (finished view car) Of n
  finish_sunk car next =
      let is = comes_where view (finish car) next in
      let t = finished view car in
      agreeing_sunk view t Of n law (agrees_same view t refl refl refl refl (λ e up. emptied_aside view car None law is.emptied e)) (lies_same view t refl (λ e. refl)) sunk sunk.anchored

  -- ---- sweeps

  sweep_sunk : (at : Addr) → next_row view ≡ sweep at → Sunk (swept view at) Of n
  sweep_sunk at next = by_object (object_at view.cars at) refl
    where
      is : IsSweeping view at
      is = comes_where view (sweep at) next

      by_object : (o : Option Object) → object_at view.cars at ≡ o → Sunk (swept_some view at o) Of n
      by_object None here = sunk
      by_object (Some object) here = agreeing_sunk view (swept_some view at (Some object)) Of n law
          (record { slot = λ a up. slots a ∙ cond-false _ _ _ (apart a up); free = λ a o up found. up; roots = refl; registers = refl; next = refl })
          (λ a o found. (was a o (same_address at a) (sym (slots a)) found, refl)) sunk sunk.anchored
        where
          slots : (a : Addr) → slot_at (swept_some view at (Some object)).cars a ≡ cond (same_address at a) None (slot_at view.cars a)
          slots a = ap (λ o. slot_at (swept_some view at o).cars a) (sym here) ∙ swept_slot view at law is a

          apart : (a : Addr) → is_aside view a.car ≡ false → same_address at a ≡ false
          apart a up = false_from_ne_true (same_address at a) (λ same. both_ways (is_aside view a.car) up (ap (λ (b : Addr). is_aside view b.car) (sym (same_address-true at a same)) ∙ swept_aside view at.car is.swept))

          was : (a : Addr) (o : Object) (b : Bool) → cond b None (slot_at view.cars a) ≡ slot_at (swept_some view at (Some object)).cars a → object_at (swept_some view at (Some object)).cars a ≡ Some o → object_at view.cars a ≡ Some o
          was a o true slot found = absurd (none_some o (ap object_of slot ∙ found))
          was a o false slot found = ap object_of slot ∙ found

  -- ---- cars that go

  module _ (T c : ℕ) (rest : List ℕ) (old : IsOldest view.trains.trains T) (cars : cars_at view.trains.trains T ≡ Some (c ∷ rest)) (set : is_aside view c ≡ true) where
    gone_slot : (a : Addr) → slot_at (without_car view T c).cars a ≡ cond (c == a.car) None (slot_at view.cars a)
    gone_slot a = ap (λ o. slot_of o a.slot) (at_remove view.cars c a.car) ∙ by_case (c == a.car)
      where
        by_case : (b : Bool) → slot_of (cond b None (get view.cars a.car)) a.slot ≡ cond b None (slot_at view.cars a)
        by_case true = refl
        by_case false = refl

    not_gone : (e : ℕ) → is_aside view e ≡ false → (c == e) ≡ false
    not_gone e up = false_from_ne_true (c == e) (λ same. both_ways (is_aside view e) up (ap (is_aside view) (sym (eqb-true c e same)) ∙ set))

    gone_lies : (a : Addr) (o : Object) → object_at (without_car view T c).cars a ≡ Some o → (object_at view.cars a ≡ Some o) × (train_of (without_car view T c).trains.trains a.car ≡ train_of view.trains.trains a.car)
    gone_lies a o found = by_case (c == a.car) refl (sym (gone_slot a))
      where
        by_case : (b : Bool) → (c == a.car) ≡ b → cond b None (slot_at view.cars a) ≡ slot_at (without_car view T c).cars a → (object_at view.cars a ≡ Some o) × (train_of (without_car view T c).trains.trains a.car ≡ train_of view.trains.trains a.car)
        by_case true same slot = absurd (none_some o (ap object_of slot ∙ found))
        by_case false apart slot = (
          ap object_of slot ∙ found,
          home_less view.trains.trains T c rest law.built.trains.rising law.built.trains.filled law.built.trains.single old cars a.car ∙ cond-false _ _ _ (turned a.car c ∙ apart),
        )

    going_sunk : (t : SpaceView) → t.cars ≡ (without_car view T c).cars → t.trains ≡ (without_car view T c).trains → t.roots ≡ view.roots → t.registers ≡ view.registers → t.next ≡ view.next → t.anchor ≡ view.anchor → Stays view t None none → Sunk t Of n
    going_sunk t cars_then trains_then roots registers next anchor stays =
        agreeing_sunk view t Of n law
        (record {
          slot = λ a up. ap (λ m. slot_at m a) cars_then ∙ gone_slot a ∙ cond-false _ _ _ (not_gone a.car up);
          free = λ a o up found. (stays.back o.id a (λ is. none_some o.id is) (record { kept = up; here = ap (option_map (λ (o : Object). o.id)) found })).0.kept;
          roots = roots;
          registers = registers;
          next = next;
        })
        (λ a o found. let was = gone_lies a o (ap (λ m. object_at m a) (sym cars_then) ∙ found) in (was.0, ap (λ (s : Trains). train_of s.trains a.car) trains_then ∙ was.1))
        sunk (λ a to stands of. sunk.anchored a to (sym anchor ∙ stands) of)

  free_sunk : (car : ℕ) → next_row view ≡ free car → Sunk (completing (without_car view (home view car) car)) Of n
  free_sunk car next =
      let is = comes_where view (free car) next in
      let first : IsFrontOf view.trains.trains car = front_of view.trains.trains car (subst (λ p. IsPhaseOf p view.trains.trains view.anchor) is.sweeping law.phase) in
      let cars = first_cars (cars_at view.trains.trains first.train) car first.first in
      let home_train : home view car ≡ first.train = ap (λ o. unwrap_or o 0) (first_home view.trains.trains first.train car law.built.trains.single first.first) in
      let t = completing (without_car view (home view car) car) in
      going_sunk first.train car cars.0 first.old cars.1 (ap (λ p. aside_in p view.trains.trains car) is.sweeping ∙ eq-eqb car car refl) t refl (ap (λ T. (without_car view T car).trains) home_train) refl refl refl refl (freed_goes view car law is).1

  free_doomed_sunk : (train car : ℕ) → next_row view ≡ free_doomed train car → Sunk (freed_of_train view train car) Of n
  free_doomed_sunk train car next =
      let is = comes_where view (free_doomed train car) next in
      let old : IsOldest view.trains.trains train × (view.anchor ≡ None) = subst (λ p. IsPhaseOf p view.trains.trains view.anchor) is.doomed.doomed law.phase in
      let cars = first_cars (cars_at view.trains.trains train) car is.doomed.first in
      by_last old.0 cars.0 cars.1 (swept_aside view car (inr (train, is.doomed))) (length (cars_of view.trains.trains train) == 1) (freed_doomed_goes view train car law is).1
    where
      by_last : IsOldest view.trains.trains train → (rest : List ℕ) → cars_at view.trains.trains train ≡ Some (car ∷ rest) → is_aside view car ≡ true → (b : Bool) → Stays view (if b then completing (without_car view train car) else without_car view train car) None none
          → Sunk (if b then completing (without_car view train car) else without_car view train car) Of n
      by_last old rest cars set true stays = going_sunk train car rest old cars set (completing (without_car view train car)) refl refl refl refl refl refl stays
      by_last old rest cars set false stays = going_sunk train car rest old cars set (without_car view train car) refl refl refl refl refl refl stays

  -- ---- moves

  out_sunk : (a : Addr) (picked number : ℕ) → next_row view ≡ move_out a → IsTrue (is_among picked (ways_out view a)) → IsVacant view.cars number → Sunk (moved view a picked number) Of n
  out_sunk a picked number next may vacant = by_object (object_at view.cars a) refl
    where
      is : IsMovingOut view a
      is = comes_where view (move_out a) next

      own : a.car ≡ is.car
      own = ap (λ (a : Addr). a.car) is.here

      out_front : IsFrontOf view.trains.trains is.car
      out_front = front view is.car law is.emptied

      pick : IsSome (cars_at view.trains.trains picked) × ((picked == out_front.train) ≡ false)
      pick = pick_stands view law out_front.train picked a out_front.old (subst (λ m. IsTrue (is_among picked (candidates view m a))) (ap (home view) own ∙ home_is view is.car law is.emptied) may)

      by_object : (o : Option Object) → object_at view.cars a ≡ o → Sunk (moved_some view a picked number o) Of n
      by_object None here = sunk
      by_object (Some object) here =
          subst (λ o. Sunk (moved_some view a picked number o) Of n) here
          (moving_sunk view (moved view a picked number) a picked Of n law (object_moves_out view a picked number law is may vacant)
          (subst (MeansSame view) (anchor_left view a picked number)
          (move_means view a picked number object view.anchor law (record { moving = is.emptied.moving ∙ ap Moving (sym own); here = here; stands = pick.0; tail_apart = out_tail view a picked number law is may vacant })
          vacant (λ b m found. (law.anchor b m found, ap (λ k. k == b.car) own ∙ anchor_elsewhere view is.car law is.emptied is.none b m found))))
          (is.emptied.moving ∙ ap Moving (sym own)) sunk (λ of. out_low view law Of n sunk a of next picked may) (λ b m stands. sym (same_some view a picked number (object_at view.cars a)) ∙ stands))

  on_sunk : (a : Addr) (train number : ℕ) → next_row view ≡ move_on a train → IsVacant view.cars number → Sunk (moved view a train number) Of n
  on_sunk a train number next vacant = by_object (object_at view.cars a) refl
    where
      is : IsMovingOn view a train
      is = comes_where view (move_on a train) next

      own : a.car ≡ is.car
      own = ap (λ (a : Addr). a.car) is.here

      on_front : IsFrontOf view.trains.trains is.car
      on_front = front view is.car law is.emptied

      train_is : train ≡ on_front.train
      train_is = is.home ∙ home_is view is.car law is.emptied

      stands : IsSome (cars_at view.trains.trains train)
      stands = subst (λ m. IsSome (cars_at view.trains.trains m)) (sym train_is) (ap is_some (first_cars (cars_at view.trains.trains on_front.train) is.car on_front.first).1)

      low : IsOf view Of a → train ≤ n
      low of = subst (λ m. m ≤ n) (sym train_is) (subst (λ o. IsSomeAnd o (λ m. m ≤ n)) (ap (train_of view.trains.trains) own ∙ own_train view is.car law is.emptied) (sunk.low a of))

      by_object : (o : Option Object) → object_at view.cars a ≡ o → Sunk (moved_some view a train number o) Of n
      by_object None here = sunk
      by_object (Some object) here =
          subst (λ o. Sunk (moved_some view a train number o) Of n) here
          (moving_sunk view (moved view a train number) a train Of n law (object_moves_on view a train number law is vacant)
          (subst (MeansSame view) (anchor_left view a train number)
          (move_means view a train number object view.anchor law (record { moving = is.emptied.moving ∙ ap Moving (sym own); here = here; stands = stands; tail_apart = train_tail view a train number law is vacant })
          vacant (λ b m found. (law.anchor b m found, ap (λ k. k == b.car) own ∙ anchor_elsewhere view is.car law is.emptied is.none b m found))))
          (is.emptied.moving ∙ ap Moving (sym own)) sunk low (λ b m stands. sym (same_some view a train number (object_at view.cars a)) ∙ stands))

  anchor_sunk : (a : Addr) (to number : ℕ) → next_row view ≡ move_anchor a to → IsVacant view.cars number → Sunk (record (moved view a to number) { anchor = None }) Of n
  anchor_sunk a to number next vacant = by_object (object_at view.cars a) refl
    where
      is : IsMovingAnchor view a to
      is = comes_where view (move_anchor a to) next

      found_there : (o : Option (Addr × ℕ)) → anchor_in is.car o ≡ Some (a, to) → o ≡ Some (a, to)
      found_there None found = absurd (no_anchor a to found)
      found_there (Some anchor) found = by_test (anchor.0.car == is.car) found
        where
          by_test : (b : Bool) → cond b (Some anchor) None ≡ Some (a, to) → Some anchor ≡ Some (a, to)
          by_test true found = found
          by_test false found = absurd (no_anchor a to found)

      stands : view.anchor ≡ Some (a, to)
      stands = found_there view.anchor is.anchor

      phase : view.phase ≡ Moving a.car
      phase = is.emptied.moving ∙ ap Moving (sym (anchor_car view a to number law is vacant))

      by_object : (o : Option Object) → object_at view.cars a ≡ o → Sunk (record (moved_some view a to number o) { anchor = None }) Of n
      by_object None here = let t = record view { anchor = None } in agreeing_sunk view t Of n law (agrees_same view t refl refl refl refl (λ e up. up)) (lies_same view t refl (λ e. refl)) sunk (λ b m none of. absurd (no_anchor b m none))
      by_object (Some object) here =
          subst (λ o. Sunk (record (moved_some view a to number o) { anchor = None }) Of n) here
          (moving_sunk view (record (moved view a to number) { anchor = None }) a to Of n law (anchor_moves view a to number law is vacant)
          (move_means view a to number object None law (record { moving = phase; here = here; stands = (law.anchor a to stands).stands; tail_apart = anchor_tail view a to number law is vacant }) vacant (λ b m none. absurd (no_anchor b m none)))
          phase sunk (λ of. sunk.anchored a to stands of) (λ b m none. absurd (no_anchor b m none)))

-- what is sunk stays so, whichever event comes next
pub event_sunk : (view : SpaceView) (Of : ℕ → Type 0) (n picked number : ℕ) (row : Row) → HeapLaw view → next_row view ≡ row → MayPick view picked row → MayPlace view number row → Sunk view Of n → Sunk (after view picked number row) Of n
event_sunk view Of n picked number nothing law next may vacant sunk = sunk
event_sunk view Of n picked number (select train) law next may vacant sunk = select_sunk view Of n law sunk train next
event_sunk view Of n picked number (apply car) law next may vacant sunk = apply_sunk view Of n law sunk car
event_sunk view Of n picked number (doom train) law next may vacant sunk = doom_sunk view Of n law sunk train next
event_sunk view Of n picked number (start car a) law next may vacant sunk = start_sunk view Of n law sunk car picked a next may
event_sunk view Of n picked number (fix car source to) law next may vacant sunk = fixing_sunk view car source to Of n law (comes_where view (fix car source to) next) sunk
event_sunk view Of n picked number (move_anchor a to) law next may vacant sunk = anchor_sunk view Of n law sunk a to number next vacant
event_sunk view Of n picked number (move_out a) law next may vacant sunk = out_sunk view Of n law sunk a picked number next may vacant
event_sunk view Of n picked number (move_on a train) law next may vacant sunk = on_sunk view Of n law sunk a train number next vacant
event_sunk view Of n picked number (finish car) law next may vacant sunk = finish_sunk view Of n law sunk car next
event_sunk view Of n picked number (sweep a) law next may vacant sunk = sweep_sunk view Of n law sunk a next
event_sunk view Of n picked number (free car) law next may vacant sunk = free_sunk view Of n law sunk car next
event_sunk view Of n picked number (free_doomed train car) law next may vacant sunk = free_doomed_sunk view Of n law sunk train car next
