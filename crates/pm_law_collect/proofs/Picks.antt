-- Where a train is picked there is one to pick.
use Rattle.std.proofs.Common.{◌≡◌, ℕ, ◌<◌, ◌==◌, ◌&&◌, if◌then◌else◌, Bool, true, false, cond, not, refl, ap, sym, subst, ◌∙◌, List, [], ◌∷◌, ◌++◌, map, length, Option, Some, None, is_some, arith, IsTrue}
use Rattle.std.specs.Option.{IsSome, option_map, option_and_then, unwrap_or}
use Rattle.std.specs.List.{find, filter, list_any}
use Rattle.std.specs.FinMap.{get, entries}
use Rattle.std.proofs.lemmas.Bool.{eqb-true, eq-eqb, and_from, both_ways, true≢false, false_from_ne_true, not_from_false}
use Rattle.pm_types.proofs.Orders.{sources_total, sources_antisymmetric}
use Rattle.pm_types.specs.declared.address.Addr.{Addr}
use Rattle.pm_types.specs.declared.object.Object.{Object}
use Rattle.pm_types.specs.declared.source.RefSource.{RefSource}
use Rattle.pm_types.specs.declared.source.RefSource.TheVariants.{Root, Handle, Field}
use Rattle.pm_cars.specs.Cars.{Car, object_of}
use Rattle.pm_trains.specs.Trains.{Train, cars_at, is_among, train_of, youngest}
use Rattle.pm_view.specs.Sources.{lies_in}
use Rattle.pm_view.specs.View.{SpaceView}
use Rattle.pm_view.specs.Reading.{object_at, field_of, stored, cars_of, is_aside}
use Rattle.pm_view.specs.Effective.{effective}
use Rattle.pm_view.specs.Law.{HeapLaw}
use Rattle.pm_view.specs.Candidates.{set_of, is_beyond, is_bare, is_named_by, is_named_from, naming_trains, candidates, least_outside, referenced_car}
use Rattle.pm_view.specs.Events.{named_in, home, ways_out}
use Rattle.pm_law_commands.proofs.RowLemmas.Places.{slot_of}
use Rattle.pm_law_commands.proofs.RowLemmas.OpenTrain.{among_home}
use Rattle.pm_law_commands.proofs.RowLemmas.Born.{home_among}
use Rattle.pm_law_collect.proofs.PhasesLemmas.Small.{some_same, none_some, or_left, or_right}
use Rattle.pm_law_collect.proofs.PhasesLemmas.Finds.{found_passes, found_entry}
use Rattle.pm_law_collect.proofs.PhasesLemmas.Comes.{IsStarting, IsMovingOut}
use Rattle.pm_law_collect.proofs.PhasesLemmas.PhaseRows.{drained_aside, drained_oldest, drained_set, emptied_aside, emptied_set, remembered_leads, pick_stands}
use Rattle.pm_law_collect.proofs.MovesLemmas.MoveRows.{front, home_is}

-- ---- what is found in a list is in it

pub any_found : {X : Type 0} (p q : X → Bool) (xs : List X) (x : X) → find p xs ≡ Some x → q x ≡ true → list_any q xs ≡ true
any_found p q [] x is holds = absurd (none_some x is)
any_found p q (y ∷ ys) x is holds = by_case (p y) is (λ later. any_found p q ys x later holds)
  where
    by_case : (b : Bool) → cond b (Some y) (find p ys) ≡ Some x → (find p ys ≡ Some x → list_any q ys ≡ true) → list_any q (y ∷ ys) ≡ true
    by_case true is later = or_left (q y) (list_any q ys) (subst (λ x. q x ≡ true) (sym (some_same y x is)) holds)
    by_case false is later = or_right (q y) (later is)

-- a train that has a car and passes is left by a filter
left_by : (ts : List Train) (n c : ℕ) (test : Train → Bool) → train_of ts c ≡ Some n → ((t : Train) → t.number ≡ n → is_among c t.cars ≡ true → test t ≡ true) → 0 < length (map (λ (t : Train). t.number) (filter test ts))
left_by [] n c test home passes = absurd (none_some n home)
left_by (t ∷ ts) n c test home passes = by_case (is_among c t.cars) refl (test t) refl home (λ later. left_by ts n c test later passes)
  where
    by_case : (b : Bool) → is_among c t.cars ≡ b → (d : Bool) → test t ≡ d → (if b then Some t.number else train_of ts c) ≡ Some n → (train_of ts c ≡ Some n → 0 < length (map (λ (t : Train). t.number) (filter test ts)))
        → 0 < length (map (λ (t : Train). t.number) (cond d (t ∷ filter test ts) (filter test ts)))
    by_case true among true holds home later = omega arith
    by_case true among false fails home later = absurd (both_ways (test t) fails (passes t (some_same t.number n home) among))
    by_case false among true holds home later = omega arith
    by_case false among false fails home later = later home

longer : (xs : List ℕ) (n : ℕ) → 0 < length (xs ++ n ∷ [])
longer [] n = omega arith
longer (x ∷ xs) n = omega arith

some_member : (xs : List ℕ) (n : ℕ) → is_among n xs ≡ true → 0 < length xs
some_member [] n among = absurd (true≢false (sym among))
some_member (x ∷ xs) n among = omega arith

-- the object of an entry from outside a train has a train to go to
module _ (view : SpaceView) (T car : ℕ) (e : RefSource × ℕ) (law : HeapLaw view) (free : (d : ℕ) → is_aside view d ≡ false) (found : least_outside view T car ≡ Some e) (set : effective view car e.0 ≡ get (set_of view car) e.0) where
  abbrev a : Addr
  a = named_in car e

  held : (get (set_of view car) e.0 ≡ Some e.1) × (is_beyond view.trains.trains T e.0 ≡ true)
  held = found_entry sources_total sources_antisymmetric (λ (e : RefSource × ℕ). is_beyond view.trains.trains T e.0) (set_of view car) e found

  stores : stored view e.0 ≡ Some a
  stores = (remembered_leads view law free car e.0 e.1 (set ∙ held.0)).0

  named : (passes : RefSource → Bool) → passes e.0 ≡ true → is_named_by view a passes ≡ true
  named passes holds = any_found (λ (d : RefSource × ℕ). is_beyond view.trains.trains T d.0) (λ (d : RefSource × ℕ). (d.1 == e.1) && passes d.0) (entries (set_of view car)) e found (and_from _ _ (eq-eqb e.1 e.1 refl) holds)

  from_open : is_named_by view a is_bare ≡ true → 0 < length (candidates view T a)
  from_open bare =
      subst (λ b. 0 < length (if b && not (is_among (youngest view.trains.trains) (naming_trains view T a)) then naming_trains view T a ++ youngest view.trains.trains ∷ [] else naming_trains view T a)) (sym bare)
      (by_case (is_among (youngest view.trains.trains) (naming_trains view T a)) refl)
    where
      by_case : (b : Bool) → is_among (youngest view.trains.trains) (naming_trains view T a) ≡ b → 0 < length (if true && not b then naming_trains view T a ++ youngest view.trains.trains ∷ [] else naming_trains view T a)
      by_case true among = some_member (naming_trains view T a) (youngest view.trains.trains) among
      by_case false apart = longer (naming_trains view T a) (youngest view.trains.trains)

  any_way : 0 < length (naming_trains view T a) → 0 < length (candidates view T a)
  any_way some = by_case (is_named_by view a is_bare && not (is_among (youngest view.trains.trains) (naming_trains view T a)))
    where
      by_case : (b : Bool) → 0 < length (if b then naming_trains view T a ++ youngest view.trains.trains ∷ [] else naming_trains view T a)
      by_case true = longer (naming_trains view T a) (youngest view.trains.trains)
      by_case false = some

  has_object : (o : Option Object) (i : ℕ) → field_of o i ≡ Some a → IsSome o
  has_object None i is = absurd (none_some a is)
  has_object (Some object) i is = refl

  has_car : (o : Option Car) (slot : ℕ) → IsSome (object_of (slot_of o slot)) → IsSome o
  has_car None slot some = some
  has_car (Some car) slot some = refl

  some_is : (o : Option ℕ) → is_some o ≡ true → (n : ℕ) × (o ≡ Some n)
  some_is None some = absurd (true≢false (sym some))
  some_is (Some n) some = (n, refl)

  not_true : (b : Bool) → not b ≡ true → b ≡ false
  not_true true is = absurd (true≢false (sym is))
  not_true false is = refl

  from_field : (b : Addr) (i : ℕ) → e.0 ≡ Field b i → 0 < length (naming_trains view T a)
  from_field b i is =
      let stands : IsSome (get view.cars b.car) = has_car (get view.cars b.car) b.slot (has_object (object_at view.cars b) i (ap (stored view) (sym is) ∙ stores)) in
      let home_of = some_is (train_of view.trains.trains b.car) (law.built.linked b.car ∙ stands) in
      let beyond : is_among b.car (cars_of view.trains.trains T) ≡ false = not_true _ (ap (is_beyond view.trains.trains T) (sym is) ∙ held.1) in
      let apart : (home_of.0 == T) ≡ false = false_from_ne_true (home_of.0 == T) (λ same.
      both_ways (is_among b.car (cars_of view.trains.trains T)) beyond (home_among view.trains.trains T b.car law.built.trains.rising (home_of.1 ∙ ap Some (eqb-true home_of.0 T same)))) in
      left_by view.trains.trains home_of.0 b.car (is_named_from view T a) home_of.1
      (λ t number among.
      and_from _ _ (not_from_false _ (ap (λ n. n == T) number ∙ apart))
      (named (λ source. lies_in (λ car. is_among car t.cars) source) (ap (lies_in (λ car. is_among car t.cars)) is ∙ among)))

  pub some_way : 0 < length (candidates view T a)
  some_way = by_source e.0 refl
    where
      by_source : (x : RefSource) → e.0 ≡ x → 0 < length (candidates view T a)
      by_source (Root n) is = from_open (named is_bare (ap is_bare is))
      by_source (Handle c r) is = from_open (named is_bare (ap is_bare is))
      by_source (Field b i) is = any_way (from_field b i is)

-- ---- where an anchor is noted

module _ (view : SpaceView) (car : ℕ) (a : Addr) (law : HeapLaw view) (is : IsStarting view car a) where
  abbrev from : ℕ
  from = is.train

  by_car : (o : Option ℕ) → referenced_car view from ≡ o → option_and_then (λ car. option_map (named_in car) (least_outside view from car)) o ≡ Some a → (home view a.car ≡ from) × (0 < length (candidates view from a))
  by_car None at note = absurd (none_some a note)
  by_car (Some d) at note = by_entry (least_outside view from d) refl note
    where
      by_entry : (o : Option (RefSource × ℕ)) → least_outside view from d ≡ o → option_map (named_in d) o ≡ Some a → (home view a.car ≡ from) × (0 < length (candidates view from a))
      by_entry None found note = absurd (none_some a note)
      by_entry (Some e) found note =
          let here : named_in d e ≡ a = some_same (named_in d e) a note in
          let among = (found_passes (λ car. is_some (least_outside view from car)) (cars_of view.trains.trains from) d at).1 in
          subst (λ (b : Addr). (home view b.car ≡ from) × (0 < length (candidates view from b))) here (
            ap (λ o. unwrap_or o 0) (among_home view.trains.trains from d law.built.trains.single among),
            some_way view from d e law (drained_aside view from (Some a) law is.drained) found (drained_set view from (Some a) law is.drained d e.0 among),
          )

  noted : (home view a.car ≡ from) × (0 < length (candidates view from a))
  noted = by_car (referenced_car view from) refl is.drained.found

  pub noted_way : 0 < length (ways_out view a)
  noted_way = subst (λ n. 0 < length (candidates view n a)) (sym noted.0) noted.1

  pub noted_to : (n : ℕ) → IsTrue (is_among n (ways_out view a)) → IsSome (cars_at view.trains.trains n) × ((n == home view a.car) ≡ false)
  noted_to n among =
      let stands = pick_stands view law from n a (drained_oldest view from (Some a) law is.drained) (subst (λ m. IsTrue (is_among n (candidates view m a))) noted.0 among) in
      (stands.0, ap (λ m. n == m) noted.0 ∙ stands.1)

-- ---- where an object moves out

module _ (view : SpaceView) (a : Addr) (law : HeapLaw view) (is : IsMovingOut view a) where
  own : a.car ≡ is.car
  own = ap (λ (a : Addr). a.car) is.here

  home_car : home view a.car ≡ home view is.car
  home_car = ap (home view) own

  pub out_way : 0 < length (ways_out view a)
  out_way =
      subst (λ n. 0 < length (candidates view n a)) (sym home_car)
      (subst (λ b. 0 < length (candidates view (home view is.car) b)) (sym is.here)
      (some_way view (home view is.car) is.car is.entry law (emptied_aside view is.car None law is.emptied) is.outside (emptied_set view is.car None law is.emptied is.entry.0)))

  pub out_to : (n : ℕ) → IsTrue (is_among n (ways_out view a)) → IsSome (cars_at view.trains.trains n) × ((n == home view a.car) ≡ false)
  out_to n among =
      let train = home_car ∙ home_is view is.car law is.emptied in
      let stands = pick_stands view law (front view is.car law is.emptied).train n a (front view is.car law is.emptied).old (subst (λ m. IsTrue (is_among n (candidates view m a))) train among) in
      (stands.0, ap (λ m. n == m) train ∙ stands.1)
