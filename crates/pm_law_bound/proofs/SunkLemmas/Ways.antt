-- The trains to which a member of a sunk set may go are numbered up to that train.
use Rattle.std.proofs.Common.{◌≡◌, ◌<◌, ◌≤◌, ℕ, ◌==◌, ◌&&◌, ◌||◌, Bool, true, false, cond, not, if◌then◌else◌, refl, ap, sym, subst, ◌∙◌, List, [], ◌∷◌, ◌++◌, map, Option, Some, None, is_some, IsTrue, arith}
use Rattle.std.specs.Option.{IsSomeAnd, option_map, option_and_then, unwrap_or}
use Rattle.std.specs.List.{find, filter, list_any}
use Rattle.std.specs.FinMap.{get, entries}
use Rattle.std.proofs.lemmas.Bool.{eqb-true, true≢false}
use Rattle.pm_types.proofs.Orders.{sources_total, sources_antisymmetric}
use Rattle.pm_types.specs.declared.address.Addr.{Addr}
use Rattle.pm_types.specs.declared.object.Object.{Object}
use Rattle.pm_types.specs.declared.source.RefSource.{RefSource}
use Rattle.pm_types.specs.declared.source.RefSource.TheVariants.{Root, Handle, Field}
use Rattle.pm_trains.specs.Trains.{Train, cars_at, is_among, youngest}
use Rattle.pm_trains.specs.Sound.{Rise}
use Rattle.pm_view.specs.Sources.{lies_in}
use Rattle.pm_view.specs.View.{SpaceView}
use Rattle.pm_view.specs.Reading.{object_at, cars_of, is_aside, is_kept, id_at, resolve, followed, slot_at}
use Rattle.pm_view.specs.Effective.{effective}
use Rattle.pm_view.specs.Law.{HeapLaw}
use Rattle.pm_view.specs.Represents.{names}
use Rattle.pm_view.specs.Candidates.{set_of, is_bare, is_named_by, is_named_from, naming_trains, candidates, least_outside, referenced_car}
use Rattle.pm_law_commands.proofs.RowLemmas.Places.{live_slot}
use Rattle.pm_law_commands.proofs.RowLemmas.OpenTrain.{among_home}
use Rattle.pm_law_collect.proofs.PhasesLemmas.Small.{some_same}
use Rattle.pm_law_collect.proofs.PhasesLemmas.Finds.{found_entry, found_passes}
use Rattle.pm_view.specs.Events.{start, move_out, next_row, home, ways_out, named_in, to_note}
use Rattle.pm_law_collect.proofs.PhasesLemmas.Comes.{comes_where}
use Rattle.pm_law_collect.proofs.PhasesLemmas.PhaseRows.{remembered_leads, drained_aside, drained_set, emptied_aside, emptied_set}
use Rattle.pm_view.specs.Sinking.{IsOf, IsFieldOf, Sunk}

both_parts : (b c : Bool) → (b && c) ≡ true → (b ≡ true) × (c ≡ true)
both_parts true c is = (refl, is)
both_parts false c is = absurd (true≢false (sym is))

-- what any entry passes some entry found passes
any_found : (p : RefSource × ℕ → Bool) (es : List (RefSource × ℕ)) → list_any p es ≡ true → (e : RefSource × ℕ) × (find p es ≡ Some e)
any_found p [] is = absurd (true≢false (sym is))
any_found p (e ∷ es) is = by_case (p e) is (any_found p es)
  where
    by_case : (b : Bool) → (b || list_any p es) ≡ true → (list_any p es ≡ true → (d : RefSource × ℕ) × (find p es ≡ Some d)) → (d : RefSource × ℕ) × (cond b (Some e) (find p es) ≡ Some d)
    by_case true is later = (e, refl)
    by_case false is later = later is

module _ (view : SpaceView) (a : Addr) where
  -- a source that passes and names the object
  named_source : (passes : RefSource → Bool) → is_named_by view a passes ≡ true → (x : RefSource) × (get (set_of view a.car) x ≡ Some a.slot) × (passes x ≡ true)
  named_source passes is =
      let any = any_found (λ e. (e.1 == a.slot) && passes e.0) (entries (set_of view a.car)) is in
      let found = found_entry sources_total sources_antisymmetric (λ (e : RefSource × ℕ). (e.1 == a.slot) && passes e.0) (set_of view a.car) any.0 any.1 in
      let parts = both_parts (any.0.1 == a.slot) (passes any.0.0) found.1 in
      (any.0.0, found.0 ∙ ap Some (eqb-true any.0.1 a.slot parts.0), parts.1)

  -- a train of this number is over another and names the object
  abbrev Found : ℕ → List Train → ℕ → Type 0
  Found p ts low = (low < p) × ((cars : List ℕ) × (cars_at ts p ≡ Some cars) × (is_named_by view a (λ source. lies_in (λ car. is_among car cars) source) ≡ true))

  found_train : (T low p : ℕ) (ts : List Train) → Rise low ts → is_among p (map (λ (t : Train). t.number) (filter (is_named_from view T a) ts)) ≡ true → Found p ts low
  found_train T low p [] rising among = absurd (true≢false (sym among))
  found_train T low p (t ∷ ts) rising among = by_case (is_named_from view T a t) refl among (found_train T t.number p ts rising.1)
    where
      behind : Found p ts t.number → Found p (t ∷ ts) low
      behind found = (let one = found.0 in let two = rising.0 in omega (arith, one, two), (found.1.0, other (t.number == p) refl, found.1.2))
        where
          other : (b : Bool) → (t.number == p) ≡ b → cond b (Some t.cars) (cars_at ts p) ≡ Some found.1.0
          other true same = absurd (let one : t.number ≡ p = eqb-true t.number p same in let two = found.0 in omega (arith, one, two))
          other false apart = found.1.1

      front : (c : Bool) → (t.number == p) ≡ c → is_named_from view T a t ≡ true → (c || is_among p (map (λ (t : Train). t.number) (filter (is_named_from view T a) ts))) ≡ true
          → (is_among p (map (λ (t : Train). t.number) (filter (is_named_from view T a) ts)) ≡ true → Found p ts t.number) → Found p (t ∷ ts) low
      front true same is among later = (
        let one : t.number ≡ p = eqb-true t.number p same in let two = rising.0 in omega (arith, one, two),
        (t.cars, ap (λ b. cond b (Some t.cars) (cars_at ts p)) same, (both_parts (not (t.number == T)) _ is).1),
      )
      front false apart is among later = behind (later among)

      by_case : (b : Bool) → is_named_from view T a t ≡ b → is_among p (map (λ (t : Train). t.number) (cond b (t ∷ filter (is_named_from view T a) ts) (filter (is_named_from view T a) ts))) ≡ true
          → (is_among p (map (λ (t : Train). t.number) (filter (is_named_from view T a) ts)) ≡ true → Found p ts t.number) → Found p (t ∷ ts) low
      by_case true is among later = front (t.number == p) refl is among later
      by_case false is among later = behind (later among)

among_pushed : (n m : ℕ) (xs : List ℕ) → is_among n (xs ++ m ∷ []) ≡ true → (is_among n xs || (m == n)) ≡ true
among_pushed n m [] among = or_false (m == n) among
  where
    or_false : (b : Bool) → (b || false) ≡ true → b ≡ true
    or_false true is = refl
    or_false false is = is
among_pushed n m (x ∷ xs) among = by_case (x == n) among (among_pushed n m xs)
  where
    by_case : (b : Bool) → (b || is_among n (xs ++ m ∷ [])) ≡ true → (is_among n (xs ++ m ∷ []) ≡ true → (is_among n xs || (m == n)) ≡ true) → ((b || is_among n xs) || (m == n)) ≡ true
    by_case true among later = refl
    by_case false among later = later among

module _ (view : SpaceView) (law : HeapLaw view) (Of : ℕ → Type 0) (n : ℕ) (sunk : Sunk view Of n) (T : ℕ) (a : Addr) (of : IsOf view Of a) (free : (e : ℕ) → is_aside view e ≡ false)
    (applied : (x : RefSource) → effective view a.car x ≡ get (set_of view a.car) x) where
  kept_up : (x : RefSource) → is_kept view x ≡ true
  kept_up (Root k) = refl
  kept_up (Handle c r) = refl
  kept_up (Field b i) = ap not (free b.car)

  -- a remembered source that names the object is a field of a member
  from_member : (o : Option Object) → object_at view.cars a ≡ o → IsSomeAnd (option_map (λ (o : Object). o.id) o) Of → (x : RefSource) → get (set_of view a.car) x ≡ Some a.slot → IsFieldOf view Of x
  from_member None here of x held = absurd of
  from_member (Some object) here of x held =
      let stores = (remembered_leads view law free a.car x a.slot (applied x ∙ held)).0 in
      let still : resolve view a ≡ a = ap (λ o. followed o a) (live_slot (slot_at view.cars a) object here) in
      sunk.named x object.id (kept_up x) (ap (names view) stores ∙ ap (id_at view) still ∙ ap (option_map (λ (o : Object). o.id)) here) of

  no_bare : (x : RefSource) → is_bare x ≡ true → IsFieldOf view Of x → ⊥
  no_bare (Root k) bare is = is
  no_bare (Handle c r) bare is = is
  no_bare (Field b i) bare is = true≢false (sym bare)

  low_field : (cars : List ℕ) (p : ℕ) → cars_at view.trains.trains p ≡ Some cars → (x : RefSource) → lies_in (λ car. is_among car cars) x ≡ true → IsFieldOf view Of x → p ≤ n
  low_field cars p stands (Root k) inside is = absurd is
  low_field cars p stands (Handle c r) inside is = absurd is
  low_field cars p stands (Field b i) inside is =
      let home = among_home view.trains.trains p b.car law.built.trains.single (ap (λ o. is_among b.car (unwrap_or o [])) stands ∙ inside) in
      subst (λ o. IsSomeAnd o (λ train. train ≤ n)) home (sunk.low b is)

  naming_low : (p : ℕ) → is_among p (naming_trains view T a) ≡ true → p ≤ n
  naming_low p among =
      let found = (found_train view a T 0 p view.trains.trains law.built.trains.rising among).1 in
      let source = named_source view a (λ source. lies_in (λ car. is_among car found.0) source) found.2 in
      low_field found.0 p found.1 source.0 source.2 (from_member (object_at view.cars a) refl of source.0 source.1)

  candidate_low : (p : ℕ) → IsTrue (is_among p (candidates view T a)) → p ≤ n
  candidate_low p among = by_case (is_named_by view a is_bare) refl (not (is_among (youngest view.trains.trains) (naming_trains view T a))) among
    where
      by_case : (b : Bool) → is_named_by view a is_bare ≡ b → (c : Bool) → is_among p (if b && c then naming_trains view T a ++ youngest view.trains.trains ∷ [] else naming_trains view T a) ≡ true → p ≤ n
      by_case true bare c among = let source = named_source view a is_bare bare in absurd (no_bare source.0 source.2 (from_member (object_at view.cars a) refl of source.0 source.1))
      by_case false none c among = naming_low p among

-- ---- the two rows that pick a train

-- the object that is noted lies in a car of the train that is drained
noted_car : (view : SpaceView) (train : ℕ) (a : Addr) → to_note view train ≡ Some a → is_among a.car (cars_of view.trains.trains train) ≡ true
noted_car view train a found = by_car (referenced_car view train) refl found
  where
    by_least : (car : ℕ) → referenced_car view train ≡ Some car → (o : Option (RefSource × ℕ)) → option_map (named_in car) o ≡ Some a → is_among a.car (cars_of view.trains.trains train) ≡ true
    by_least car first None found = cc
    by_least car first (Some e) found =
        subst (λ (b : Addr). is_among b.car (cars_of view.trains.trains train) ≡ true) (some_same (named_in car e) a found)
        (found_passes (λ car. is_some (least_outside view train car)) (cars_of view.trains.trains train) car first).1

    by_car : (o : Option ℕ) → referenced_car view train ≡ o → option_and_then (λ car. option_map (named_in car) (least_outside view train car)) o ≡ Some a → is_among a.car (cars_of view.trains.trains train) ≡ true
    by_car None first found = cc
    by_car (Some car) first found = by_least car first (least_outside view train car) found

module _ (view : SpaceView) (law : HeapLaw view) (Of : ℕ → Type 0) (n : ℕ) (sunk : Sunk view Of n) where
  -- a member that moves out goes to a low train, whichever is picked
  pub out_low : (a : Addr) → IsOf view Of a → next_row view ≡ move_out a → (picked : ℕ) → IsTrue (is_among picked (ways_out view a)) → picked ≤ n
  out_low a of next picked among =
      let is = comes_where view (move_out a) next in
      let own : a.car ≡ is.car = ap (λ (a : Addr). a.car) is.here in
      candidate_low view law Of n sunk (home view a.car) a of (emptied_aside view is.car None law is.emptied)
      (λ x. ap (λ e. effective view e x) own ∙ emptied_set view is.car None law is.emptied x ∙ ap (λ e. get (set_of view e) x) (sym own)) picked among

  -- and so does one that is noted
  pub noted_low : (car : ℕ) (a : Addr) → IsOf view Of a → next_row view ≡ start car a → (picked : ℕ) → IsTrue (is_among picked (ways_out view a)) → picked ≤ n
  noted_low car a of next picked among =
      let is = comes_where view (start car a) next in
      candidate_low view law Of n sunk (home view a.car) a of (drained_aside view is.train (Some a) law is.drained)
      (λ x. drained_set view is.train (Some a) law is.drained a.car x (noted_car view is.train a is.drained.found)) picked among
