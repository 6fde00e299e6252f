-- The rows that only change the phase and the anchor.
use Rattle.std.proofs.Common.{◌≡◌, ℕ, ◌+◌, ◌<◌, ◌==◌, ◌||◌, ◌&&◌, if◌then◌else◌, Bool, true, false, cond, not, refl, ap, sym, subst, ◌∙◌, List, [], ◌∷◌, ◌++◌, map, length, Option, Some, None, arith, is_some, IsTrue}
use Rattle.std.specs.Option.{IsSome, IsSomeAnd, option_map, option_and_then, unwrap_or}
use Rattle.std.specs.List.{filter}
use Rattle.std.specs.FinMap.{get, entries, empty, get-empty, get-entries}
use Rattle.std.specs.FinMap.Entries as map_entries
use Rattle.std.proofs.lemmas.Bool.{eqb-true, eq-eqb, true≢false, both_ways, false_from_ne_true}
use Rattle.std.proofs.lemmas.Bool.Decides.{nat_tests}
use Rattle.pm_types.specs.Orders.{source_cmp}
use Rattle.pm_types.proofs.Orders.{sources_total, sources_antisymmetric}
use Rattle.pm_types.specs.declared.address.Addr.{Addr}
use Rattle.pm_types.specs.declared.object.Slot.{Slot}
use Rattle.pm_types.specs.declared.object.Slot.TheVariants.{Live, Moved}
use Rattle.pm_types.specs.declared.source.RefSource.{RefSource}
use Rattle.pm_types.specs.declared.source.RefSource.TheVariants.{Root, Handle, Field}
use Rattle.pm_types.specs.declared.source.Change.{Change}
use Rattle.pm_cars.specs.Cars.{look_of, object_of}
use Rattle.pm_trains.specs.Trains.{Train, HasCar, cars_at, is_among, train_of, first_car, oldest, youngest, rotated}
use Rattle.pm_trains.specs.Sound as line
use Rattle.pm_trains.proofs.Found.{stands_over}
use Rattle.pm_view.specs.declared.phase.Phase.TheVariants.{Idle, Draining, Moving, Sweeping, Doomed}
use Rattle.pm_view.specs.Sources.{lies_in, slot_in}
use Rattle.pm_view.specs.View.{Sources, SpaceView}
use Rattle.pm_view.specs.Reading.{slot_at, object_at, stored, cars_of, aside_in, from_in, is_aside, is_from}
use Rattle.pm_view.specs.Effective.{effective, effective_in}
use Rattle.pm_view.specs.Seen.{seen, kept}
use Rattle.pm_view.specs.Seen as seen_words
use Rattle.pm_view.specs.Law.{IsOldest, IsFront, IsPhaseOf, IsAnchor, HeapLaw}
use Rattle.pm_view.specs.Candidates.{set_of, queue_of, is_beyond, is_named_by, is_bare, is_named_from, naming_trains, candidates, least_outside, referenced_car}
use Rattle.pm_view.specs.Collecting.{selected, doomed, anchored, started, finished}
use Rattle.pm_view.specs.Events.{has_change, named_in, anchor_in, first_of, home, MayNote}
use Rattle.pm_law_commands.proofs.RowLemmas.OpenTrain.{among_home}
use Rattle.pm_law_commands.proofs.RowLemmas.Born.{youngest_stands}
use Rattle.pm_law_commands.proofs.RowLemmas.Rotating.{opened, opening_keeps_law, opening_stands, oldest_rotated, youngest_rotated}
use Rattle.pm_law_collect.proofs.PhasesLemmas.Small.{some_same, some_pair}
use Rattle.pm_law_collect.proofs.PhasesLemmas.Finds.{none_passes, found_passes, no_entry, found_entry}
use Rattle.pm_law_collect.proofs.PhasesLemmas.MeansSame.{Keeps, keeps}
use Rattle.pm_law_collect.proofs.PhasesLemmas.SetAside.{NoOutside}
use Rattle.pm_law_collect.proofs.PhasesLemmas.Phased.{IsPhased, phased, phase_keeps_law, phase_means_same}
use Rattle.pm_law_collect.proofs.PhasesLemmas.Comes.{IsSelecting, IsDrained, IsStarting, IsEmptied, IsFinishing}

-- ---- what is read of a remembered set whose queue is empty

set_alone : (s : Option Sources) (q : Option (List Change)) (x : RefSource) → unwrap_or q [] ≡ [] → effective_in s q x ≡ get (unwrap_or s empty) x
set_alone None q x none = sym (get-empty source_cmp x)
set_alone (Some s) None x none = refl
set_alone (Some s) (Some []) x none = refl
set_alone (Some s) (Some (c ∷ cs)) x none = cc

-- a car with no queued change: its effective set is its remembered set
pub effective_alone : (view : SpaceView) (e : ℕ) (x : RefSource) → queue_of view e ≡ [] → effective view e x ≡ get (set_of view e) x
effective_alone view e x none = set_alone (get view.sets e) (get view.queues e) x none

no_change : (q : List Change) → has_change q ≡ false → q ≡ []
no_change [] none = refl
no_change (c ∷ cs) none = absurd (true≢false none)

-- a drained train has no queued change
pub drained_queue : (view : SpaceView) (train : ℕ) (o : Option Addr) → IsDrained view train o → (e : ℕ) → is_among e (cars_of view.trains.trains train) ≡ true → queue_of view e ≡ []
drained_queue view train o drained e among = no_change (queue_of view e) (none_passes (λ car. has_change (queue_of view car)) (cars_of view.trains.trains train) drained.applied e among)

-- ---- trains

-- the oldest train with a car has a car
pub oldest_has : (low n : ℕ) (ts : List Train) → line.Rise low ts → oldest ts ≡ Some n → HasCar ts n
oldest_has low n [] rising is = cc
oldest_has low n (t ∷ ts) rising is = by_case (length t.cars == 0) refl is (oldest_has t.number n ts rising.1)
  where
    later : (o : Option (List ℕ)) → cars_at ts n ≡ o → IsSomeAnd o (λ cars. 0 < length cars) → (b : Bool) → (t.number == n) ≡ b → IsSomeAnd (cond b (Some t.cars) o) (λ cars. 0 < length cars)
    later None at has b same = absurd has
    later (Some cars) at has true same = let over = stands_over t.number n cars ts rising.1 at in let one = eqb-true t.number n same in absurd (omega (arith, over, one))
    later (Some cars) at has false same = has

    some_cars : (cars : List ℕ) → (length cars == 0) ≡ false → 0 < length cars
    some_cars [] none = absurd (true≢false none)
    some_cars (c ∷ cs) some = omega arith

    here : (b : Bool) → b ≡ true → (o : Option (List ℕ)) → 0 < length t.cars → IsSomeAnd (cond b (Some t.cars) o) (λ cars. 0 < length cars)
    here true is o has = has
    here false is o has = absurd (true≢false (sym is))

    by_case : (b : Bool) → (length t.cars == 0) ≡ b → cond b (oldest ts) (Some t.number) ≡ Some n → (oldest ts ≡ Some n → HasCar ts n) → HasCar (t ∷ ts) n
    by_case true empty is later_has = later (cars_at ts n) refl (later_has is) (t.number == n) refl
    by_case false some is later_has = let same : t.number ≡ n = cc in here (t.number == n) (eq-eqb t.number n same) (cars_at ts n) (some_cars t.cars some)

-- ---- selected

module _ (view : SpaceView) (train : ℕ) (law : HeapLaw view) (is : IsSelecting view train) where
  selecting : (t : SpaceView) → t.phase ≡ Idle → IsOldest t.trains.trains train → ((a : Addr) (to : ℕ) → t.anchor ≡ Some (a, to) → IsAnchor t a to) → IsPhased t t.anchor (Draining train) (λ e. false)
  selecting t idle oldest anchor = record {
    aside = λ e. sym (ap (λ p. aside_in p t.trains.trains e || false) idle);
    from = λ e was. absurd (true≢false (sym was ∙ ap (λ p. from_in p e) idle));
    none = λ e n x passes. absurd (true≢false (sym passes));
    passes = λ e c was passes. absurd (true≢false (sym passes));
    at = oldest;
    anchors = λ a to at. let was = anchor a to at in record { live = was.live; kept = refl; old = was.old; stands = was.stands; leaves = was.leaves };
  }

  here_oldest : (b : Bool) → (train == youngest view.trains.trains) ≡ b → b ≡ false → IsOldest view.trains.trains train
  here_oldest b same apart = (is.oldest, same ∙ apart)

  has_car : (b : Bool) → (train == youngest view.trains.trains) ≡ b → b ≡ true → HasCar view.trains.trains (youngest view.trains.trains)
  has_car b same last = subst (HasCar view.trains.trains) (eqb-true train (youngest view.trains.trains) (same ∙ last)) (oldest_has 0 train view.trains.trains law.built.trains.rising is.oldest)

  opened_oldest : (train == youngest view.trains.trains) ≡ true → IsOldest (rotated view.trains.trains) train
  opened_oldest same = (
    oldest_rotated view.trains.trains ∙ is.oldest,
    false_from_ne_true (train == youngest (rotated view.trains.trains)) (λ last.
        let now : train ≡ youngest view.trains.trains + 1 = eqb-true train (youngest (rotated view.trains.trains)) last ∙ youngest_rotated view.trains.trains law.built.trains.rising in
        let was = eqb-true train (youngest view.trains.trains) same in
        omega (arith, now, was)),
  )

  selects : (b : Bool) → (train == youngest view.trains.trains) ≡ b → Keeps view (record view { trains = if b then record { trains = rotated view.trains.trains; births = 0 } else view.trains; phase = Draining train })
  selects true same =
      let has = has_car true same refl in
      let law_now = opening_keeps_law view law has in
      let now = selecting (opened view law has) is.idle (opened_oldest same) law_now.anchor in
      let kept = keeps (opened view law has) (phased (opened view law has) view.anchor (Draining train) (λ e. false) law_now now)
      (phase_keeps_law (opened view law has) view.anchor (Draining train) (λ e. false) law_now now) (phase_means_same (opened view law has) view.anchor (Draining train) (λ e. false) law_now now) in
      (kept.0, λ world stands. kept.1 world (opening_stands view law has world stands))
  selects false same =
      let now = selecting view is.idle (is.oldest, same) law.anchor in
      keeps view (phased view view.anchor (Draining train) (λ e. false) law now)
      (phase_keeps_law view view.anchor (Draining train) (λ e. false) law now) (phase_means_same view view.anchor (Draining train) (λ e. false) law now)

  -- a train is selected
  pub selected_keeps : Keeps view (selected view train)
  selected_keeps = selects (train == youngest view.trains.trains) refl

-- ---- a train that is drained

module _ (view : SpaceView) (train : ℕ) (noted : Option Addr) (law : HeapLaw view) (is : IsDrained view train noted) where
  abbrev ts : List Train
  ts = view.trains.trains

  pub drained_aside : (e : ℕ) → is_aside view e ≡ false
  drained_aside e = ap (λ p. aside_in p ts e) is.draining

  pub drained_from : (e : ℕ) → is_from view e ≡ false
  drained_from e = ap (λ p. from_in p e) is.draining

  pub drained_oldest : IsOldest ts train
  drained_oldest = subst (λ p. IsPhaseOf p ts view.anchor) is.draining law.phase

  -- a car of the train: what it holds is in its remembered set
  pub drained_set : (e : ℕ) (x : RefSource) → is_among e (cars_of ts train) ≡ true → effective view e x ≡ get (set_of view e) x
  drained_set e x among = effective_alone view e x (drained_queue view train noted is e among)

module _ (view : SpaceView) (train : ℕ) (law : HeapLaw view) (is : IsDrained view train None) where
  abbrev passes : ℕ → Bool
  passes e = is_among e (cars_of view.trains.trains train)

  no_note : (o : Option ℕ) → referenced_car view train ≡ o → option_and_then (λ car. option_map (named_in car) (least_outside view train car)) o ≡ None → o ≡ None
  no_note None at none = refl
  no_note (Some car) at none = absurd (clash (least_outside view train car) (found_passes (λ car. is_some (least_outside view train car)) (cars_of view.trains.trains train) car at).0 none)
    where
      clash : (o : Option (RefSource × ℕ)) → is_some o ≡ true → option_map (named_in car) o ≡ None → ⊥
      clash None some none = true≢false (sym some)
      clash (Some e) some none = cc

  unreferenced : referenced_car view train ≡ None
  unreferenced = no_note (referenced_car view train) refl is.found

  no_outside : (e : ℕ) → passes e ≡ true → least_outside view train e ≡ None
  no_outside e among = none_is (least_outside view train e) (none_passes (λ car. is_some (least_outside view train car)) (cars_of view.trains.trains train) unreferenced e among)
    where
      none_is : (o : Option (RefSource × ℕ)) → is_some o ≡ false → o ≡ None
      none_is None none = refl
      none_is (Some e) none = absurd (true≢false none)

  within : (b : Bool) → not b ≡ false → b ≡ true
  within true is = refl
  within false is = absurd (true≢false is)

  pub only_inside : NoOutside (seen view) passes
  only_inside e n x among free at =
      within (lies_in passes x)
      (no_entry sources_total sources_antisymmetric (λ (e : RefSource × ℕ). is_beyond view.trains.trains train e.0) (set_of view e) (no_outside e among) x n (sym (drained_set view train None law is e x among) ∙ at))

  dooming : IsPhased view None (Doomed train) passes
  dooming = record {
    aside = λ e. sym (ap (λ b. b || passes e) (drained_aside view train None law is e));
    from = λ e was. absurd (true≢false (sym was ∙ drained_from view train None law is e));
    none = only_inside;
    passes = λ e c was among. absurd (true≢false (sym was ∙ drained_from view train None law is e));
    at = (drained_oldest view train None law is, refl);
    anchors = λ a to at. cc;
  }

  -- a train is doomed
  pub doomed_keeps : Keeps view (doomed view train)
  doomed_keeps = keeps view (doomed view train) (phase_keeps_law view None (Doomed train) passes law dooming) (phase_means_same view None (Doomed train) passes law dooming)

-- ---- an anchor is noted, and a car begins to be emptied

module _ (view : SpaceView) (law : HeapLaw view) where
  -- a source that names a slot of a car stores this address
  named_at : (car slot : ℕ) (o : Option Addr) → slot_in car o ≡ Some slot → o ≡ Some (record { car = car; slot = slot })
  named_at car slot None is = cc
  named_at car slot (Some a) is = by_case (a.car == car) refl is
    where
      by_case : (b : Bool) → (a.car == car) ≡ b → cond b (Some a.slot) None ≡ Some slot → Some a ≡ Some (record { car = car; slot = slot })
      by_case true same is = let one : a.slot ≡ slot = cc in λ i. Some (record { car = eqb-true a.car car same i; slot = one i })
      by_case false same is = cc

  kept_always : ((e : ℕ) → is_aside view e ≡ false) → (x : RefSource) → kept (seen view) x ≡ true
  kept_always free (Root n) = refl
  kept_always free (Handle c r) = refl
  kept_always free (Field a i) = ap not (free a.car)

  -- what a car remembers, while no car is set aside, is a place that leads to an object
  pub remembered_leads : ((e : ℕ) → is_aside view e ≡ false) → (car : ℕ) (x : RefSource) (slot : ℕ) → effective view car x ≡ Some slot
      → (stored view x ≡ Some (record { car = car; slot = slot })) × seen_words.Leads (seen view) (record { car = car; slot = slot }) (look_of (slot_at view.cars (record { car = car; slot = slot })))
  remembered_leads free car x slot is =
      let held = law.tied.holds car x slot (free car) is in
      let stores = named_at car slot (stored view x) held.1 in
      (stores, (law.tied.leads x (record { car = car; slot = slot }) (kept_always free x) stores).1)

  -- and where there is no from-car, an object
  live_there : (a : Addr) (o : Option Slot) → is_from view a.car ≡ false → seen_words.Leads (seen view) a (look_of o) → IsSome (object_of o)
  live_there a None none leads = absurd leads
  live_there a (Some (Live object)) none leads = refl
  live_there a (Some (Moved to)) none leads = absurd (true≢false (sym leads.0 ∙ none))

  -- ---- the trains that may be picked

  picked_train : (from n : ℕ) (trains : List Train) (a : Addr) → is_among n (map (λ (t : Train). t.number) (filter (is_named_from view from a) trains)) ≡ true → IsSome (cars_at trains n) × ((n == from) ≡ false)
  picked_train from n [] a among = absurd (true≢false (sym among))
  picked_train from n (t ∷ ts) a among = by_case (is_named_from view from a t) refl among (picked_train from n ts a)
    where
      stands : (b : Bool) → (t.number == n) ≡ b → b ≡ true → IsSome (cond b (Some t.cars) (cars_at ts n))
      stands true same is = refl
      stands false same is = absurd (true≢false (sym is))

      behind : (b : Bool) → IsSome (cars_at ts n) → IsSome (cond b (Some t.cars) (cars_at ts n))
      behind true some = refl
      behind false some = some

      differs : (b : Bool) → (not b && is_named_by view a (λ source. lies_in (λ car. is_among car t.cars) source)) ≡ true → b ≡ false
      differs true is = absurd (true≢false (sym is))
      differs false is = refl

      either : (c : Bool) → (t.number == n) ≡ c → is_named_from view from a t ≡ true → (c || is_among n (map (λ (t : Train). t.number) (filter (is_named_from view from a) ts))) ≡ true
          → (is_among n (map (λ (t : Train). t.number) (filter (is_named_from view from a) ts)) ≡ true → IsSome (cars_at ts n) × ((n == from) ≡ false)) → IsSome (cars_at (t ∷ ts) n) × ((n == from) ≡ false)
      either true same is among later = (stands (t.number == n) refl same, ap (λ m. m == from) (sym (eqb-true t.number n same)) ∙ differs (t.number == from) is)
      either false same is among later = let found = later among in (behind (t.number == n) found.0, found.1)

      by_case : (b : Bool) → is_named_from view from a t ≡ b → is_among n (map (λ (t : Train). t.number) (cond b (t ∷ filter (is_named_from view from a) ts) (filter (is_named_from view from a) ts))) ≡ true
          → (is_among n (map (λ (t : Train). t.number) (filter (is_named_from view from a) ts)) ≡ true → IsSome (cars_at ts n) × ((n == from) ≡ false)) → IsSome (cars_at (t ∷ ts) n) × ((n == from) ≡ false)
      by_case true is among later = either (t.number == n) refl is among later
      by_case false is among later = let found = later among in (behind (t.number == n) found.0, found.1)

  among_pushed : (n m : ℕ) (xs : List ℕ) → is_among n (xs ++ m ∷ []) ≡ true → (is_among n xs || (m == n)) ≡ true
  among_pushed n m [] among = or_false (m == n) among
    where
      or_false : (b : Bool) → (b || false) ≡ true → b ≡ true
      or_false true is = refl
      or_false false is = is
  among_pushed n m (x ∷ xs) among = by_case (x == n) among (among_pushed n m xs)
    where
      by_case : (b : Bool) → (b || is_among n (xs ++ m ∷ [])) ≡ true → (is_among n (xs ++ m ∷ []) ≡ true → (is_among n xs || (m == n)) ≡ true) → ((b || is_among n xs) || (m == n)) ≡ true
      by_case true among later = refl
      by_case false among later = later among

  -- a train that may be picked stands, and is another one than the oldest
  pub pick_stands : (train n : ℕ) (a : Addr) → IsOldest view.trains.trains train → IsTrue (is_among n (candidates view train a)) → IsSome (cars_at view.trains.trains n) × ((n == train) ≡ false)
  pick_stands train n a old among = by_case (is_named_by view a is_bare && not (is_among (youngest view.trains.trains) (naming_trains view train a))) among
    where
      open_is : (b : Bool) → (youngest view.trains.trains == n) ≡ b → b ≡ true → IsSome (cars_at view.trains.trains n) × ((n == train) ≡ false)
      open_is true same is =
          let one = eqb-true (youngest view.trains.trains) n same in (
            subst (λ m. IsSome (cars_at view.trains.trains m)) one (youngest_stands view.trains.trains law.built.trains.rising law.built.trains.standing),
            let other = old.1 in subst (λ m. (m == train) ≡ false) one (turned train (youngest view.trains.trains) other),
          )
        where
          turned : (m n : ℕ) → (m == n) ≡ false → (n == m) ≡ false
          turned m n is = grind (arith, nat_tests, is)
      open_is false same is = absurd (true≢false (sym is))

      behind : (b c : Bool) → (youngest view.trains.trains == n) ≡ c → is_among n (naming_trains view train a) ≡ b → (b || c) ≡ true → IsSome (cars_at view.trains.trains n) × ((n == train) ≡ false)
      behind true c same there is = picked_train train n view.trains.trains a there
      behind false c same there is = open_is c same is

      by_case : (b : Bool) → is_among n (if b then naming_trains view train a ++ youngest view.trains.trains ∷ [] else naming_trains view train a) ≡ true → IsSome (cars_at view.trains.trains n) × ((n == train) ≡ false)
      by_case true among = behind (is_among n (naming_trains view train a)) (youngest view.trains.trains == n) refl refl (among_pushed n (youngest view.trains.trains) (naming_trains view train a) among)
      by_case false among = picked_train train n view.trains.trains a among

module _ (view : SpaceView) (car : ℕ) (a : Addr) (picked : ℕ) (law : HeapLaw view) (is : IsStarting view car a) (may : MayNote view view.anchor a picked) where
  abbrev from : ℕ
  from = is.train

  old_train : IsOldest view.trains.trains from
  old_train = drained_oldest view from (Some a) law is.drained

  free : (e : ℕ) → is_aside view e ≡ false
  free e = drained_aside view from (Some a) law is.drained e

  -- the object that is noted lies in the train, and an outside source names it
  noted_at : (o : Option ℕ) → referenced_car view from ≡ o → option_and_then (λ car. option_map (named_in car) (least_outside view from car)) o ≡ Some a → IsSome (object_at view.cars a) × (train_of view.trains.trains a.car ≡ Some from)
  noted_at None at note = cc
  noted_at (Some d) at note = by_entry (least_outside view from d) refl note
    where
      by_entry : (o : Option (RefSource × ℕ)) → least_outside view from d ≡ o → option_map (named_in d) o ≡ Some a → IsSome (object_at view.cars a) × (train_of view.trains.trains a.car ≡ Some from)
      by_entry None found is_a = cc
      by_entry (Some e) found is_a =
          let here : named_in d e ≡ a = cc in
          let among = (found_passes (λ car. is_some (least_outside view from car)) (cars_of view.trains.trains from) d at).1 in
          let held = found_entry sources_total sources_antisymmetric (λ (e : RefSource × ℕ). is_beyond view.trains.trains from e.0) (set_of view d) e found in
          let leads = remembered_leads view law free d e.0 e.1 (drained_set view from (Some a) law is.drained d e.0 among ∙ held.0) in
          subst (λ (b : Addr). IsSome (object_at view.cars b) × (train_of view.trains.trains b.car ≡ Some from)) here (
            live_there view law (named_in d e) (slot_at view.cars (named_in d e)) (drained_from view from (Some a) law is.drained d) leads.1,
            among_home view.trains.trains from d law.built.trains.single among,
          )

  noted : IsSome (object_at view.cars a) × (train_of view.trains.trains a.car ≡ Some from)
  noted = noted_at (referenced_car view from) refl is.drained.found

  at_home : home view a.car ≡ from
  at_home = ap (λ o. unwrap_or o 0) noted.1

  abbrev anchor_now : Option (Addr × ℕ)
  anchor_now = anchored view.anchor a picked

  anchor_is : (o : Option (Addr × ℕ)) → view.anchor ≡ o → MayNote view o a picked → (b : Addr) (to : ℕ) → anchored o a picked ≡ Some (b, to) → IsAnchor (record view { anchor = anchored o a picked; phase = Moving car }) b to
  anchor_is None none may b to at =
      let pick = pick_stands view law from picked a old_train (subst (λ n. IsTrue (is_among picked (candidates view n a))) at_home may) in
      let both = some_pair a b picked to at in
      subst (λ (b : Addr). IsAnchor (record view { anchor = Some (a, picked); phase = Moving car }) b to) both.0
      (subst (IsAnchor (record view { anchor = Some (a, picked); phase = Moving car }) a) both.1
      (record {
        live = noted.0;
        kept = refl;
        old = noted.1 ∙ sym old_train.0;
        stands = pick.0;
        leaves = λ same. let one : from ≡ picked = some_same from picked (sym old_train.0 ∙ same) in both_ways (picked == from) pick.1 (eq-eqb picked from (sym one));
      }))
  anchor_is (Some anchor) some may b to at =
      let was = law.anchor b to (some ∙ at) in
      record { live = was.live; kept = refl; old = was.old; stands = was.stands; leaves = was.leaves }

  starting : IsPhased view anchor_now (Moving car) (λ e. false)
  starting = record {
    aside = λ e. sym (ap (λ b. b || false) (free e));
    from = λ e was. absurd (true≢false (sym was ∙ drained_from view from (Some a) law is.drained e));
    none = λ e n x passes. absurd (true≢false (sym passes));
    passes = λ e c was passes. absurd (true≢false (sym passes));
    at = subst (λ o. IsSomeAnd o (λ n. IsOldest view.trains.trains n × (first_car view.trains.trains n ≡ Some car))) (sym old_train.0) (old_train, is.first);
    anchors = anchor_is view.anchor refl may;
  }

  -- a car begins to be emptied
  pub started_keeps : Keeps view (started view car a picked)
  started_keeps = keeps view (started view car a picked) (phase_keeps_law view anchor_now (Moving car) (λ e. false) law starting) (phase_means_same view anchor_now (Moving car) (λ e. false) law starting)

-- ---- a car that is emptied

module _ (view : SpaceView) (car : ℕ) (stale : Option (RefSource × Addr)) (law : HeapLaw view) (is : IsEmptied view car stale) where
  pub emptied_aside : (e : ℕ) → is_aside view e ≡ false
  emptied_aside e = ap (λ p. aside_in p view.trains.trains e) is.moving

  pub emptied_from : (e : ℕ) → is_from view e ≡ (car == e)
  emptied_from e = ap (λ p. from_in p e) is.moving

  pub emptied_front : IsFront view.trains.trains car
  emptied_front = subst (λ p. IsPhaseOf p view.trains.trains view.anchor) is.moving law.phase

  pub emptied_set : (x : RefSource) → effective view car x ≡ get (set_of view car) x
  emptied_set x = effective_alone view car x is.applied

module _ (view : SpaceView) (car : ℕ) (law : HeapLaw view) (is : IsFinishing view car) where
  nothing_left : (x : RefSource) → get (set_of view car) x ≡ None
  nothing_left x = get-entries (set_of view car) x ∙ by_list (entries (set_of view car)) is.least
    where
      by_list : (es : List (RefSource × ℕ)) → first_of es ≡ None → map_entries.find source_cmp x es ≡ None
      by_list [] none = refl
      by_list (e ∷ es) none = cc

  pub no_name : (e n : ℕ) (x : RefSource) → (car == e) ≡ true → effective view e x ≡ Some n → lies_in (λ e. car == e) x ≡ true
  no_name e n x same at = absurd (clash (sym (nothing_left x) ∙ sym (emptied_set view car None law is.emptied x) ∙ ap (λ e. effective view e x) (eqb-true car e same) ∙ at))
    where
      clash : None ≡ Some n → ⊥
      clash is = cc

  anchor_apart : (o : Option (Addr × ℕ)) → anchor_in car o ≡ None → (a : Addr) (to : ℕ) → o ≡ Some (a, to) → (car == a.car) ≡ false
  anchor_apart None none a to at = cc
  anchor_apart (Some anchor) none a to at = by_case (anchor.0.car == car) refl none
    where
      turned : (m n : ℕ) → (m == n) ≡ false → (n == m) ≡ false
      turned m n is = grind (arith, nat_tests, is)

      by_case : (b : Bool) → (anchor.0.car == car) ≡ b → cond b (Some anchor) None ≡ None → (car == a.car) ≡ false
      by_case true same none = cc
      by_case false apart none = let one : anchor ≡ (a, to) = cc in subst (λ (p : Addr × ℕ). (car == p.0.car) ≡ false) one (turned anchor.0.car car apart)

  finishing : IsPhased view view.anchor (Sweeping car) (λ e. car == e)
  finishing = record {
    aside = λ e. sym (ap (λ b. b || (car == e)) (emptied_aside view car None law is.emptied e));
    from = λ e was. sym (emptied_from view car None law is.emptied e) ∙ was;
    none = λ e n x same free at. no_name e n x same at;
    passes = λ e c was same. sym (emptied_from view car None law is.emptied e) ∙ was;
    at = emptied_front view car None law is.emptied;
    anchors = λ a to at. let was = law.anchor a to at in record { live = was.live; kept = anchor_apart view.anchor is.none a to at; old = was.old; stands = was.stands; leaves = was.leaves };
  }

  -- a car begins to be swept
  pub finished_keeps : Keeps view (finished view car)
  finished_keeps = keeps view (finished view car) (phase_keeps_law view view.anchor (Sweeping car) (λ e. car == e) law finishing) (phase_means_same view view.anchor (Sweeping car) (λ e. car == e) law finishing)
