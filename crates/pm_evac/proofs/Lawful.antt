-- What the heap law gives for the next event.
use Rattle.std.proofs.Common.{◌≡◌, ℕ, true, false, refl, ap, sym, subst, ◌∙◌, List, [], ◌∷◌, Option, Some, None, IsSome, IsSomeAnd, is_some}
use Rattle.std.specs.Option.{option_map, option_and_then, option_flatten, unwrap_or}
use Rattle.std.specs.List.{slice_get}
use Rattle.std.specs.List as list
use Rattle.std.specs.FinMap.{get, entries, empty, get-empty}
use Rattle.pm_types.specs.Orders.{source_cmp}
use Rattle.pm_types.specs.declared.address.Addr.{Addr}
use Rattle.pm_types.specs.declared.object.Object.{Object}
use Rattle.pm_types.specs.declared.object.Slot.{Slot}
use Rattle.pm_types.specs.declared.source.RefSource.{RefSource}
use Rattle.pm_types.specs.declared.source.RefSource.TheVariants.{Root, Handle, Field}
use Rattle.pm_types.specs.declared.source.Change.{Change}
use Rattle.pm_cars.specs.Cars.{Car, object_of}
use Rattle.pm_cars.specs.Entries.{holds_object}
use Rattle.pm_trains.specs.Trains.{first_car, oldest, train_of}
use Rattle.pm_remset.specs.Remembered.{FindsFirstThat}
use Rattle.pm_remset.proofs.First.{first_found}
use Rattle.pm_law_commands.proofs.RowLemmas.OpenTrain.{first_home}
use Rattle.pm_view.specs.declared.phase.Phase.TheVariants.{Moving, Sweeping}
use Rattle.pm_view.specs.View.{Sources, SpaceView}
use Rattle.pm_view.specs.Reading.{slot_at, object_at, stored, is_aside, aside_in}
use Rattle.pm_view.specs.Effective.{effective_in}
use Rattle.pm_view.specs.Sources.{slot_in}
use Rattle.pm_view.specs.Law.{HeapLaw, IsPhaseOf, IsFront, IsOldest}
use Rattle.pm_view.specs.Candidates.{set_of, queue_of}
use Rattle.pm_view.specs.Events.{went, has_gone, named_in, least_stale, to_fix, lowest_live}
use Rattle.pm_space.specs.Shown.{IsThere}
use Rattle.pm_next.proofs.Searches.{found_there}
use Rattle.pm_next.proofs.Lowest.{holds_some}

module _ (v : SpaceView) (law : HeapLaw v) where
  -- a car that is in a train stands
  pub car_stands : (car : ℕ) → IsSome (train_of v.trains.trains car) → IsSome (get v.cars car)
  car_stands car there = sym (law.built.linked car) ∙ there

  front_home : (car : ℕ) → IsFront v.trains.trains car → IsSome (train_of v.trains.trains car)
  front_home car front = by_case (oldest v.trains.trains) front
    where
      by_case : (o : Option ℕ) → IsSomeAnd o (λ train. IsOldest v.trains.trains train × (first_car v.trains.trains train ≡ Some car)) → IsSome (train_of v.trains.trains car)
      by_case None front = absurd front
      by_case (Some train) front = ap is_some (first_home v.trains.trains train car law.built.trains.single front.1)

  -- the car that is swept is in a train
  pub swept_home : (car : ℕ) → v.phase ≡ Sweeping car → IsSome (train_of v.trains.trains car)
  swept_home car at = front_home car (subst (λ p. IsPhaseOf p v.trains.trains v.anchor) at law.phase)

-- the lowest Live slot of a car has an object
pub lowest_lives : (v : SpaceView) (car slot : ℕ) → lowest_live v car ≡ Some slot → IsSome (object_at v.cars (record { car = car; slot = slot }))
lowest_lives v car slot low = by_car (get v.cars car) low
  where
    by_entry : (it : Car) (o : Option (ℕ × Slot)) → list.find (λ (e : ℕ × Slot). holds_object e.1) (entries it.slots) ≡ o → option_map (λ (e : ℕ × Slot). e.0) o ≡ Some slot → IsSome (object_of (get it.slots slot))
    by_entry it None found low = absurd (let none : ◌≡◌ {A = Option ℕ} None (Some slot) = low in cc)
    by_entry it (Some e) found low =
        let there = found_there holds_object it.slots e found in
        let same : e.0 ≡ slot = cc in
        subst (λ o. IsSome (object_of o)) (sym (ap (get it.slots) (sym same) ∙ there.0)) (holds_some e.1 there.1)

    by_car : (o : Option Car) → option_and_then (λ (it : Car). option_map (λ (e : ℕ × Slot). e.0) (list.find (λ (e : ℕ × Slot). holds_object e.1) (entries it.slots))) o ≡ Some slot
        → IsSome (object_of (option_and_then (λ (it : Car). get it.slots slot) o))
    by_car None low = absurd (let none : ◌≡◌ {A = Option ℕ} None (Some slot) = low in cc)
    by_car (Some it) low = by_entry it (list.find (λ (e : ℕ × Slot). holds_object e.1) (entries it.slots)) refl low

-- ---- a source that is to be fixed

set_alone : (s : Option Sources) (q : Option (List Change)) (x : RefSource) → unwrap_or q [] ≡ [] → effective_in s q x ≡ get (unwrap_or s empty) x
set_alone None q x none = sym (get-empty source_cmp x)
set_alone (Some s) None x none = refl
set_alone (Some s) (Some []) x none = refl
set_alone (Some s) (Some (c ∷ cs)) x none = absurd (let some : c ∷ cs ≡ [] = none in cc)

flat_some : (o : Option (Option Addr)) (a : Addr) → option_flatten o ≡ Some a → is_some o ≡ true
flat_some None a is = absurd (let none : ◌≡◌ {A = Option Addr} None (Some a) = is in cc)
flat_some (Some o) a is = refl

-- a source that stores an address is there
stores_there : (v : SpaceView) (x : RefSource) (a : Addr) → HeapLaw v → stored v x ≡ Some a → IsThere v x
stores_there v (Root n) a law is = ap is_some is
stores_there v (Handle c r) a law is = law.named.registers c r a is
stores_there v (Field b i) a law is = flat_some (option_and_then (λ (o : Object). slice_get o.fields i) (object_at v.cars b)) a is

-- a source that a car remembers which is not set aside, and has no queued change, is there
pub remembered_there : (v : SpaceView) (car : ℕ) (x : RefSource) (slot : ℕ) → HeapLaw v → is_aside v car ≡ false → queue_of v car ≡ [] → get (set_of v car) x ≡ Some slot → IsThere v x
remembered_there v car x slot law kept applied held =
    let holds = law.tied.holds car x slot kept (set_alone (get v.sets car) (get v.queues car) x applied ∙ held) in
    by_case (stored v x) refl holds.1
  where
    by_case : (o : Option Addr) → stored v x ≡ o → slot_in car o ≡ Some slot → IsThere v x
    by_case None is names = absurd (let none : ◌≡◌ {A = Option ℕ} None (Some slot) = names in cc)
    by_case (Some a) is names = stores_there v x a law is

-- a car that remembers a source has a remembered set
pub remembers : (v : SpaceView) (car : ℕ) (x : RefSource) (slot : ℕ) → get (set_of v car) x ≡ Some slot → IsSome (get v.sets car)
remembers v car x slot held = by_case (get v.sets car) held
  where
    by_case : (o : Option Sources) → get (unwrap_or o empty) x ≡ Some slot → IsSome o
    by_case None held = absurd (let none : ◌≡◌ {A = Option ℕ} None (Some slot) = sym (get-empty source_cmp x) ∙ held in cc)
    by_case (Some s) held = refl

first_same : (x y : RefSource) (a b : Addr) → ◌≡◌ {A = Option (RefSource × Addr)} (Some (x, a)) (Some (y, b)) → x ≡ y
first_same x y a b is = let both : ◌≡◌ {A = RefSource × Addr} (x, a) (y, b) = cc in ap (λ (p : RefSource × Addr). p.0) both

-- the source that is to be fixed is remembered
pub stale_held : (v : SpaceView) (car : ℕ) (x : RefSource) (to : Addr) → to_fix v car ≡ Some (x, to) → (slot : ℕ) × (get (set_of v car) x ≡ Some slot)
stale_held v car x to is = by_entry (least_stale v car) refl is
  where
    by_place : (e : RefSource × ℕ) → least_stale v car ≡ Some e → (o : Option Addr) → option_map {U = RefSource × Addr} (λ to. (e.0, to)) o ≡ Some (x, to) → (slot : ℕ) × (get (set_of v car) x ≡ Some slot)
    by_place e found None goes = absurd (let none : ◌≡◌ {A = Option (RefSource × Addr)} None (Some (x, to)) = goes in cc)
    by_place e found (Some b) goes =
        let first = subst (FindsFirstThat (λ source slot. has_gone (went (slot_at v.cars (named_in car (source, slot))))) (set_of v car)) found
        (first_found (λ source slot. has_gone (went (slot_at v.cars (named_in car (source, slot))))) (set_of v car)) in
        (e.1, subst (λ x. get (set_of v car) x ≡ Some e.1) (first_same e.0 x b to goes) first.there)

    by_entry : (o : Option (RefSource × ℕ)) → least_stale v car ≡ o → option_and_then (λ e. option_map {U = RefSource × Addr} (λ to. (e.0, to)) (went (slot_at v.cars (named_in car e)))) o ≡ Some (x, to) → (slot : ℕ) × (get (set_of v car) x ≡ Some slot)
    by_entry None found is = absurd (let none : ◌≡◌ {A = Option (RefSource × Addr)} None (Some (x, to)) = is in cc)
    by_entry (Some e) found is = by_place e found (went (slot_at v.cars (named_in car e))) is

-- no car that is emptied is set aside
pub emptied_kept : (v : SpaceView) (car : ℕ) → v.phase ≡ Moving car → is_aside v car ≡ false
emptied_kept v car at = ap (λ p. aside_in p v.trains.trains car) at
