-- A car that goes: the heap law is kept, and what the space stands for.
use Rattle.std.proofs.Common.{◌≡◌, ◌≢◌, ℕ, ◌≤◌, ◌==◌, ◌&&◌, ◌||◌, if◌then◌else◌, Bool, true, false, cond, not, refl, ap, sym, subst, ◌∙◌, List, [], ◌∷◌, length, Option, Some, None, is_some, arith}
use Rattle.std.specs.Option.{option_map, option_and_then, unwrap_or}
use Rattle.std.specs.List.{find, slice_get, sum_by}
use Rattle.std.specs.FinMap.{get, entries, nat_cmp-IsAntisymmetric}
use Rattle.std.specs.Cmp.{nat_cmp_total}
use Rattle.std.proofs.lemmas.Bool.{eqb-true, eq-eqb, cond-true, cond-false, both_ways, true≢false, false_from_ne_true, not_from_false}
use Rattle.std.proofs.lemmas.Bool.Decides.{nat_tests}
use Rattle.pm_types.specs.Counts.{raised}
use Rattle.pm_types.specs.declared.address.Addr.{Addr}
use Rattle.pm_types.specs.declared.object.Object.{Object}
use Rattle.pm_types.specs.declared.object.Slot.{Slot}
use Rattle.pm_types.specs.declared.object.Slot.TheVariants.{Live, Moved}
use Rattle.pm_types.specs.declared.source.RefSource.{RefSource}
use Rattle.pm_types.specs.declared.source.RefSource.TheVariants.{Root, Handle, Field}
use Rattle.pm_cars.specs.Cars.{Car, object_of, look_of}
use Rattle.pm_cars.specs.Entries.{holds_object}
use Rattle.pm_trains.specs.Trains.{Train, cars_at, train_of, is_among, oldest, youngest, without_first}
use Rattle.pm_trains.specs.Sound as line
use Rattle.pm_trains.proofs.Kept.{sound_removed}
use Rattle.pm_view.specs.declared.phase.Phase.{Phase}
use Rattle.pm_view.specs.declared.phase.Phase.TheVariants.{Idle}
use Rattle.pm_view.specs.Sources.{lies_in}
use Rattle.pm_view.specs.View.{SpaceView}
use Rattle.pm_view.specs.Reading.{slot_at, object_at, id_at, field_of, stored, cars_of, aside_in, from_in, is_aside, is_from}
use Rattle.pm_view.specs.Effective.{effective_in}
use Rattle.pm_view.specs.Counts.{standing_in, live_in}
use Rattle.pm_view.specs.Seen.{seen}
use Rattle.pm_view.specs.Law.{IsPhaseOf, IsOldest, IsAnchor, HeapLaw}
use Rattle.pm_view.specs.Collecting.{without_car, completing, freed_of_train}
use Rattle.pm_view.specs.Events.{lowest_live, home}
use Rattle.pm_law_commands.proofs.RowLemmas.Places.{slot_of}
use Rattle.pm_law_commands.proofs.RowLemmas.Born.{home_among}
use Rattle.pm_law_commands.proofs.RowLemmas.OpenTrain.{among_home, first_home}
use Rattle.pm_law_collect.proofs.PhasesLemmas.Small.{some_same, none_some, turned}
use Rattle.pm_law_collect.proofs.PhasesLemmas.Finds.{no_entry}
use Rattle.pm_law_collect.proofs.PhasesLemmas.MeansSame.{Keeps, keeps}
use Rattle.pm_law_collect.proofs.PhasesLemmas.Comes.{IsFreeing, IsFreeingDoomed}
use Rattle.pm_law_collect.proofs.PhasesLemmas.Phased.{same_sums}
use Rattle.pm_law_collect.proofs.SweepsLemmas.FreedSeen.{IsFreedSeen, law_after_free}
use Rattle.pm_law_collect.proofs.SweepsLemmas.Agree.{agrees_means}
use Rattle.pm_law_collect.proofs.PhasesLemmas.Stays.{Stays, none}
use Rattle.pm_law_collect.proofs.PhasesLemmas.FirstGone.{home_less, youngest_less, others_less, open_less, own_less, among_less, oldest_less}
use Rattle.pm_law_collect.proofs.PhasesLemmas.Fronts.{IsFrontOf, at_remove, first_cars, front_of}

-- a car with no Live slot has no object
pub no_object : (view : SpaceView) (c : ℕ) → lowest_live view c ≡ None → (slot : ℕ) → object_at view.cars (record { car = c; slot = slot }) ≡ None
no_object view c none slot = by_car (get view.cars c) none
  where
    not_object : (o : Option Slot) → ((w : Slot) → o ≡ Some w → holds_object w ≡ false) → object_of o ≡ None
    not_object None fails = refl
    not_object (Some (Live object)) fails = absurd (true≢false (fails (Live object) refl))
    not_object (Some (Moved to)) fails = refl

    none_mapped : (o : Option (ℕ × Slot)) → option_map (λ (e : ℕ × Slot). e.0) o ≡ None → o ≡ None
    none_mapped None none = refl
    none_mapped (Some e) none = cc

    by_car : (o : Option Car) → option_and_then (λ (it : Car). option_map (λ (e : ℕ × Slot). e.0) (find (λ (e : ℕ × Slot). holds_object e.1) (entries it.slots))) o ≡ None → object_of (slot_of o slot) ≡ None
    by_car None none = refl
    by_car (Some car) none = not_object (get car.slots slot) (λ w is. no_entry nat_cmp_total nat_cmp-IsAntisymmetric (λ (e : ℕ × Slot). holds_object e.1) car.slots (none_mapped _ none) slot w is)

-- what is kept where a car goes
abbrev Goes : SpaceView → SpaceView → Type 0
Goes view t = Keeps view t × Stays view t None none

-- a car goes, and the phase may be another one
pub record IsGoing (view : SpaceView) (T c : ℕ) (rest : List ℕ) (p : Phase) : Type 0 where
  pub old : IsOldest view.trains.trains T
  pub cars : cars_at view.trains.trains T ≡ Some (c ∷ rest)
  pub set : is_aside view c ≡ true
  pub empty : lowest_live view c ≡ None
  pub aside : (e : ℕ) → aside_in p (without_first T view.trains.trains) e ≡ (is_aside view e && not (e == c))
  pub from : (e : ℕ) → from_in p e ≡ (is_from view e && not (e == c))
  pub at : IsPhaseOf p (without_first T view.trains.trains) view.anchor

module _ (view : SpaceView) (T c : ℕ) (rest : List ℕ) (p : Phase) (completed : ℕ) (law : HeapLaw view) (is : IsGoing view T c rest p) where
  abbrev pub t : SpaceView
  t = record (without_car view T c) { phase = p; completed = completed }

  abbrev ts : List Train
  ts = view.trains.trains

  abbrev rising : line.Rise 0 ts
  rising = law.built.trains.rising

  home_then : (e : ℕ) → train_of t.trains.trains e ≡ cond (e == c) None (train_of ts e)
  home_then e = home_less ts T c rest rising law.built.trains.filled law.built.trains.single is.old is.cars e

  some_cond : {X Y : Type 0} (b d : Bool) (o : Option X) (q : Option Y) → b ≡ d → is_some o ≡ is_some q → is_some (cond b None o) ≡ is_some (cond d None q)
  some_cond true true o q same some = refl
  some_cond true false o q same some = absurd (true≢false same)
  some_cond false true o q same some = absurd (true≢false (sym same))
  some_cond false false o q same some = some

  cars_then : (e : ℕ) → get t.cars e ≡ cond (c == e) None (get view.cars e)
  cars_then e = at_remove view.cars c e

  other_car : (e : ℕ) → (e == c) ≡ false → get t.cars e ≡ get view.cars e
  other_car e apart = cars_then e ∙ cond-false _ _ _ (turned c e ∙ apart)

  no_car : (e : ℕ) → (e == c) ≡ true → get t.cars e ≡ None
  no_car e same = cars_then e ∙ cond-true _ _ _ (turned c e ∙ same)

  same_slot : (a : Addr) → (a.car == c) ≡ false → slot_at t.cars a ≡ slot_at view.cars a
  same_slot a apart = ap (λ o. slot_of o a.slot) (other_car a.car apart)

  no_slot : (a : Addr) → (a.car == c) ≡ true → slot_at t.cars a ≡ None
  no_slot a same = ap (λ o. slot_of o a.slot) (no_car a.car same)

  object_apart : (a : Addr) (o : Object) → object_at t.cars a ≡ Some o → (a.car == c) ≡ false
  object_apart a o found = false_from_ne_true (a.car == c) (λ same. none_some o (sym (ap object_of (no_slot a same)) ∙ found))

  was_object : (a : Addr) (o : Object) → object_at t.cars a ≡ Some o → object_at view.cars a ≡ Some o
  was_object a o found = sym (ap object_of (same_slot a (object_apart a o found))) ∙ found

  -- the object of a place in the car
  empty_here : (a : Addr) → (a.car == c) ≡ true → object_at view.cars a ≡ None
  empty_here a same = ap (λ n. object_at view.cars (record { car = n; slot = a.slot })) (eqb-true a.car c same) ∙ no_object view c is.empty a.slot

  stored_then : (y : RefSource) → stored t y ≡ stored view y
  stored_then (Root n) = refl
  stored_then (Handle d r) = refl
  stored_then (Field a i) = by_case (a.car == c) refl
    where
      by_case : (b : Bool) → (a.car == c) ≡ b → field_of (object_at t.cars a) i ≡ field_of (object_at view.cars a) i
      by_case true same = ap (λ o. field_of o i) (ap object_of (no_slot a same) ∙ sym (empty_here a same))
      by_case false apart = ap (λ o. field_of (object_of o) i) (same_slot a apart)

  nothing_stored : (y : RefSource) → lies_in (λ e. e == c) y ≡ true → stored view y ≡ None
  nothing_stored (Root n) within = absurd (true≢false (sym within))
  nothing_stored (Handle d r) within = absurd (true≢false (sym within))
  nothing_stored (Field a i) within = ap (λ o. field_of o i) (empty_here a within)

  going : IsFreedSeen (seen view) (seen t) c
  going = record {
    aside = is.aside;
    from = is.from;
    look = λ a apart. ap look_of (same_slot a apart);
    gone = λ a same. ap look_of (no_slot a same);
    stored = stored_then;
    effective_here = λ y. ap (λ o. effective_in o (get t.queues c) y) (at_remove view.sets c c ∙ cond-true _ _ _ (eq-eqb c c refl));
    effective = λ e y apart. λ i. effective_in ((at_remove view.sets c e ∙ cond-false _ _ _ (turned c e ∙ apart)) i) ((at_remove view.queues c e ∙ cond-false _ _ _ (turned c e ∙ apart)) i) y;
  }

  -- the cars of the open train
  open_apart : (e : ℕ) → is_among e (cars_of ts (youngest ts)) ≡ true → (e == c) ≡ false
  open_apart e among =
      false_from_ne_true (e == c) (λ same.
      let own : train_of ts c ≡ Some T = first_home ts T c law.built.trains.single (ap (option_and_then (λ (cars : List ℕ). slice_get cars 0)) is.cars) in
      let there : train_of ts e ≡ Some (youngest ts) = among_home ts (youngest ts) e law.built.trains.single among in
      both_ways (T == youngest ts) is.old.1 (eq-eqb T (youngest ts) (some_same T (youngest ts) (sym own ∙ ap (train_of ts) (sym (eqb-true e c same)) ∙ there))))

  and_true : (b d : Bool) → d ≡ true → (b && d) ≡ b
  and_true true d is = is
  and_true false d is = refl

  aside_apart : (e : ℕ) → (e == c) ≡ false → is_aside t e ≡ is_aside view e
  aside_apart e apart = is.aside e ∙ and_true (is_aside view e) (not (e == c)) (not_from_false _ apart)

  from_apart : (e : ℕ) → (e == c) ≡ false → is_from t e ≡ is_from view e
  from_apart e apart = is.from e ∙ and_true (is_from view e) (not (e == c)) (not_from_false _ apart)

  counts : (e : ℕ) → is_among e (cars_of ts (youngest ts)) ≡ true → standing_in view e ≡ standing_in t e
  counts e among = let apart = open_apart e among in λ i. cond (sym (aside_apart e apart) i) 0 (live_in (sym (other_car e apart) i))

  births_then : view.trains.births ≤ sum_by (standing_in t) (cars_of t.trains.trains (youngest t.trains.trains))
  births_then =
      subst (λ cars. view.trains.births ≤ sum_by (standing_in t) cars) (sym (open_less ts T c rest rising law.built.trains.filled law.built.trains.single is.old is.cars))
      (subst (λ n. view.trains.births ≤ n) (same_sums (standing_in view) (standing_in t) (cars_of ts (youngest ts)) counts) law.built.births)

  -- where an anchor stands the train has another car
  anchor_then : (a : Addr) (to : ℕ) → IsAnchor view a to → IsAnchor t a to
  anchor_then a to was =
      let apart : (a.car == c) ≡ false = false_from_ne_true (a.car == c) (λ same. both_ways (is_aside view a.car) was.kept (ap (is_aside view) (eqb-true a.car c same) ∙ is.set)) in
      let in_train : train_of ts a.car ≡ Some T = was.old ∙ is.old.0 in
      let there : train_of t.trains.trains a.car ≡ Some T = home_then a.car ∙ cond-false _ _ _ apart ∙ in_train in
      let among : is_among a.car rest ≡ true =
      ap (is_among a.car) (sym (own_less ts T c rest rising law.built.trains.filled law.built.trains.single is.old is.cars))
      ∙ among_less ts T c rest rising law.built.trains.filled law.built.trains.single is.old is.cars a.car
      ∙ (λ i. home_among ts T a.car rising in_train i && not (apart i)) in
      let old_then : oldest t.trains.trains ≡ Some T = still_old rest among is.cars in
      record {
        live = ap (λ o. is_some (object_of o)) (same_slot a apart) ∙ was.live;
        kept = aside_apart a.car apart ∙ was.kept;
        old = there ∙ sym old_then;
        stands = ap is_some (others_less ts T c rest rising law.built.trains.filled law.built.trains.single is.old is.cars to (false_from_ne_true (to == T) (λ same. was.leaves (is.old.0 ∙ ap Some (sym (eqb-true to T same)))))) ∙ was.stands;
        leaves = subst (λ o. o ≢ Some to) (sym (old_then ∙ sym is.old.0)) was.leaves;
      }
    where
      still_old : (xs : List ℕ) → is_among a.car xs ≡ true → cars_at ts T ≡ Some (c ∷ xs) → oldest (without_first T ts) ≡ Some T
      still_old [] among cars = absurd (true≢false (sym among))
      still_old (d ∷ xs) among cars = oldest_less ts T c d xs law.built.trains.filled is.old.0 cars

  going_keeps_law : HeapLaw t
  going_keeps_law = record {
    built = record {
      trains = sound_removed view.trains T law.built.trains;
      linked = λ e. ap is_some (home_then e) ∙ some_cond (e == c) (c == e) (train_of ts e) (get view.cars e) (turned e c) (law.built.linked e) ∙ sym (ap is_some (cars_then e));
      sets = λ e. ap is_some (at_remove view.sets c e) ∙ some_cond (c == e) (c == e) (get view.sets e) (get view.cars e) refl (law.built.sets e) ∙ sym (ap is_some (cars_then e));
      queues = λ e. ap is_some (at_remove view.queues c e) ∙ some_cond (c == e) (c == e) (get view.queues e) (get view.cars e) refl (law.built.queues e) ∙ sym (ap is_some (cars_then e));
      cars = λ n d found.
          let apart : (n == c) ≡ false = false_from_ne_true (n == c) (λ same. none_some d (sym (no_car n same) ∙ found)) in
          let was = law.built.cars n d (sym (other_car n apart) ∙ found) in
          record {
            numbered = was.numbered;
            from_one = was.from_one;
            sound = was.sound;
            live = λ from free. was.live (sym (from_apart n apart) ∙ from) (sym (aside_apart n apart) ∙ free);
            moved = λ from. was.moved (sym (from_apart n apart) ∙ from);
          };
      objects = λ a o found. let was = law.built.objects a o (was_object a o found) in record { first = was.first; given = was.given; fields = was.fields; bytes = was.bytes };
      apart = λ a b o q at_a at_b same. law.built.apart a b o q (was_object a o at_a) (was_object b q at_b) same;
      next = law.built.next;
      births = births_then;
    };
    named = record { numbers = law.named.numbers; few = law.named.few; registers = law.named.registers };
    tied = law_after_free (seen view) (seen t) c law.tied is.set nothing_stored going;
    phase = is.at;
    anchor = λ a to found. anchor_then a to (law.anchor a to found);
  }

  free_apart : (e : ℕ) → is_aside view e ≡ false → (e == c) ≡ false
  free_apart e free = false_from_ne_true (e == c) (λ same. both_ways (is_aside view e) free (ap (is_aside view) (eqb-true e c same) ∙ is.set))

  pub going_keeps : Keeps view t
  going_keeps = keeps view t going_keeps_law
      (agrees_means view t law
      (record {
        slot = λ a free. same_slot a (free_apart a.car free);
        free = λ a o free found. sym (aside_apart a.car (object_apart a o found)) ∙ free;
        roots = refl;
        registers = refl;
        next = refl;
      }))

  -- each object that stands, stood, and in the same train
  going_stays : Stays view t None none
  going_stays = record {
    forth = λ id a still ends at.
        let apart = free_apart a.car at.kept in
        (record { kept = aside_apart a.car apart ∙ at.kept; here = ap (λ o. option_map (λ (o : Object). o.id) (object_of o)) (same_slot a apart) ∙ at.here }, home_then a.car ∙ cond-false _ _ _ apart);
    back = λ id a still at.
        let apart = id_apart a id at.here in
        (record { kept = sym (aside_apart a.car apart) ∙ at.kept; here = sym (ap (λ o. option_map (λ (o : Object). o.id) (object_of o)) (same_slot a apart)) ∙ at.here }, sym (home_then a.car ∙ cond-false _ _ _ apart));
  }
    where
      id_apart : (a : Addr) (id : ℕ) → id_at t a ≡ Some id → (a.car == c) ≡ false
      id_apart a id here = false_from_ne_true (a.car == c) (λ same. none_some id (sym (ap (λ o. option_map (λ (o : Object). o.id) (object_of o)) (no_slot a same)) ∙ here))

  pub going_goes : Goes view t
  going_goes = (going_keeps, going_stays)

-- ---- the car that was emptied and swept

module _ (view : SpaceView) (car : ℕ) (law : HeapLaw view) (is : IsFreeing view car) where
  front : IsFrontOf view.trains.trains car
  front = front_of view.trains.trains car (subst (λ p. IsPhaseOf p view.trains.trains view.anchor) is.sweeping law.phase)

  at_home : home view car ≡ front.train
  at_home = ap (λ o. unwrap_or o 0) (first_home view.trains.trains front.train car law.built.trains.single front.first)

  only : (e : ℕ) (b : Bool) → b ≡ (car == e) → false ≡ (b && not (e == car))
  only e b is = by_case b (e == car) (is ∙ turned car e)
    where
      by_case : (b d : Bool) → b ≡ d → false ≡ (b && not d)
      by_case true true same = refl
      by_case true false same = absurd (true≢false same)
      by_case false d same = refl

  freeing : (rest : List ℕ) → cars_at view.trains.trains front.train ≡ Some (car ∷ rest) → IsGoing view front.train car rest Idle
  freeing rest cars = record {
    old = front.old;
    cars = cars;
    set = ap (λ p. aside_in p view.trains.trains car) is.sweeping ∙ eq-eqb car car refl;
    empty = is.empty;
    aside = λ e. only e (is_aside view e) (ap (λ p. aside_in p view.trains.trains e) is.sweeping);
    from = λ e. only e (is_from view e) (ap (λ p. from_in p e) is.sweeping);
    at = tt;
  }

  -- the car that was swept goes
  pub freed_goes : Goes view (completing (without_car view (home view car) car))
  freed_goes =
      let cars = first_cars (cars_at view.trains.trains front.train) car front.first in
      subst (λ T. Goes view (completing (without_car view T car))) (sym at_home) (going_goes view front.train car cars.0 Idle (raised view.completed) law (freeing cars.0 cars.1))

-- ---- a car of a doomed train

module _ (view : SpaceView) (T car : ℕ) (law : HeapLaw view) (is : IsFreeingDoomed view T car) where
  doomed_at : IsOldest view.trains.trains T × (view.anchor ≡ None)
  doomed_at = subst (λ p. IsPhaseOf p view.trains.trains view.anchor) is.doomed.doomed law.phase

  aside_is : (e : ℕ) → is_aside view e ≡ is_among e (cars_of view.trains.trains T)
  aside_is e = ap (λ p. aside_in p view.trains.trains e) is.doomed.doomed

  from_is : (e : ℕ) → is_from view e ≡ false
  from_is e = ap (λ p. from_in p e) is.doomed.doomed

  module _ (rest : List ℕ) (cars : cars_at view.trains.trains T ≡ Some (car ∷ rest)) where
    cars_is : cars_of view.trains.trains T ≡ car ∷ rest
    cars_is = ap (λ o. unwrap_or o []) cars

    front_true : (b d : Bool) → b ≡ true → (b || d) ≡ true
    front_true true d is = refl
    front_true false d is = absurd (true≢false (sym is))

    set_car : is_aside view car ≡ true
    set_car = aside_is car ∙ ap (is_among car) cars_is ∙ front_true (car == car) (is_among car rest) (eq-eqb car car refl)

    none_from : (e : ℕ) → false ≡ (is_from view e && not (e == car))
    none_from e = sym (ap (λ b. b && not (e == car)) (from_is e))

    -- the train keeps a car
    module _ (d : ℕ) (more : List ℕ) (has : rest ≡ d ∷ more) where
      old_then : oldest (without_first T view.trains.trains) ≡ Some T
      old_then = oldest_less view.trains.trains T car d more law.built.trains.filled doomed_at.0.0 (cars ∙ ap (λ xs. Some (car ∷ xs)) has)

      going_on : IsGoing view T car rest view.phase
      going_on = record {
        old = doomed_at.0;
        cars = cars;
        set = set_car;
        empty = is.empty;
        aside = λ e.
            ap (λ p. aside_in p (without_first T view.trains.trains) e) is.doomed.doomed
            ∙ among_less view.trains.trains T car rest law.built.trains.rising law.built.trains.filled law.built.trains.single doomed_at.0 cars e
            ∙ ap (λ b. b && not (e == car)) (sym (aside_is e));
        from = λ e. from_is e ∙ none_from e;
        at = subst (λ p. IsPhaseOf p (without_first T view.trains.trains) view.anchor) (sym is.doomed.doomed)
            ((old_then, ap (λ n. T == n) (youngest_less view.trains.trains T car rest law.built.trains.rising law.built.trains.filled law.built.trains.single doomed_at.0 cars) ∙ doomed_at.0.1), doomed_at.1);
      }

    -- the train goes
    going_last : rest ≡ [] → IsGoing view T car rest Idle
    going_last none = record {
      old = doomed_at.0;
      cars = cars;
      set = set_car;
      empty = is.empty;
      aside = λ e. sym (ap (λ b. b && not (e == car)) (aside_is e ∙ ap (is_among e) (cars_is ∙ ap (λ xs. car ∷ xs) none)) ∙ alone (car == e) (e == car) (turned car e));
      from = none_from;
      at = tt;
    }
      where
        alone : (b d : Bool) → b ≡ d → ((b || false) && not d) ≡ false
        alone true true same = refl
        alone true false same = absurd (true≢false same)
        alone false d same = refl

    by_rest : (xs : List ℕ) → rest ≡ xs → Goes view (if length (car ∷ xs) == 1 then completing (without_car view T car) else without_car view T car)
    by_rest [] none = going_goes view T car rest Idle (raised view.completed) law (going_last none)
    by_rest (d ∷ more) some =
        subst (λ b. Goes view (if b then completing (without_car view T car) else without_car view T car)) (sym (two more))
        (going_goes view T car rest view.phase view.completed law (going_on d more some))
      where
        two : (xs : List ℕ) → (length (car ∷ d ∷ xs) == 1) ≡ false
        two xs = grind (arith, nat_tests)

    freed_car : Goes view (freed_of_train view T car)
    freed_car = subst (λ xs. Goes view (if length xs == 1 then completing (without_car view T car) else without_car view T car)) (sym cars_is) (by_rest rest refl)

  -- a car of a doomed train goes
  pub freed_doomed_goes : Goes view (freed_of_train view T car)
  freed_doomed_goes = let cars = first_cars (cars_at view.trains.trains T) car is.doomed.first in freed_car cars.0 cars.1
