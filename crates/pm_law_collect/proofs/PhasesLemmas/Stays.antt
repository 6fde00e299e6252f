-- Where objects stand after an event.
use Rattle.std.proofs.Common.{◌≡◌, ℕ, ◌+◌, ◌==◌, if◌then◌else◌, Bool, true, false, refl, ap, sym, ◌∙◌, List, [], ◌∷◌, Option, Some, None}
use Rattle.std.specs.Option.{option_map}
use Rattle.std.specs.FinMap.{get}
use Rattle.std.proofs.lemmas.Bool.{eqb-true, cond-false, both_ways, false_from_ne_true}
use Rattle.pm_types.specs.declared.address.Addr.{Addr}
use Rattle.pm_types.specs.declared.object.Object.{Object}
use Rattle.pm_types.specs.declared.source.RefSource.{RefSource}
use Rattle.pm_types.specs.declared.source.Change.{Change}
use Rattle.pm_cars.specs.Cars.{Car, object_of, without_slot}
use Rattle.pm_trains.specs.Trains.{Trains, train_of, youngest, rotated}
use Rattle.pm_trains.proofs.Cars.{home_rotated}
use Rattle.pm_view.specs.declared.phase.Phase.TheVariants.{Draining}
use Rattle.pm_view.specs.View.{Cars, SpaceView}
use Rattle.pm_view.specs.Reading.{slot_at, object_at, id_at, aside_in, is_aside}
use Rattle.pm_view.specs.Counts.{IsStandingAt}
use Rattle.pm_view.specs.Law.{HeapLaw}
use Rattle.pm_view.specs.Rows.{put_car, spread}
use Rattle.pm_view.specs.Candidates.{queue_of}
use Rattle.pm_view.specs.Collecting.{selected, doomed, started, finished, applied_front, applied_in, fixed, swept_some, swept}
use Rattle.pm_law_commands.proofs.RowLemmas.News.{at_insert}
use Rattle.pm_law_commands.proofs.RowLemmas.Places.{slot_of}
use Rattle.pm_law_commands.proofs.RowLemmas.Built.{aside_same}
use Rattle.pm_law_commands.proofs.RowLemmas.Meaning.{id_same}
use Rattle.pm_law_commands.proofs.RowLemmas.SpreadKept.{reshaped_spread}
use Rattle.pm_law_collect.proofs.PhasesLemmas.Comes.{IsSelecting, IsDrained, IsStarting, IsFinishing, IsSweeping}
use Rattle.pm_law_collect.proofs.PhasesLemmas.PhaseRows.{drained_aside, emptied_aside}
use Rattle.pm_law_collect.proofs.PhasesLemmas.Fronts.{swept_aside}

-- the object stands at the address in both spaces, and in the same train
abbrev pub StandsToo : SpaceView → SpaceView → ℕ → Addr → Type 0
StandsToo view t id a = IsStandingAt t id a × (train_of t.trains.trains a.car ≡ train_of view.trains.trains a.car)

-- Each object but the one that moves stands where it stood, in the same train; but for those of cars that are set aside
-- then, no object ends to stand, and none begins.
pub record Stays (view t : SpaceView) (moving : Option ℕ) (ends : ℕ → Bool) : Type 0 where
  pub forth : (id : ℕ) (a : Addr) → (moving ≡ Some id → ⊥) → ends a.car ≡ false → IsStandingAt view id a → StandsToo view t id a
  pub back : (id : ℕ) (a : Addr) → (moving ≡ Some id → ⊥) → IsStandingAt t id a → StandsToo t view id a

-- no car is set aside
abbrev pub none : ℕ → Bool
none e = false

-- the same cars and trains, and the same cars set aside
pub stays_same : (view t : SpaceView) → ((e : ℕ) → is_aside t e ≡ is_aside view e) → ((a : Addr) → id_at t a ≡ id_at view a) → ((e : ℕ) → train_of t.trains.trains e ≡ train_of view.trains.trains e) → Stays view t None none
stays_same view t aside ids homes = record {
  forth = λ id a still ends at. (record { kept = aside a.car ∙ at.kept; here = ids a ∙ at.here }, homes a.car);
  back = λ id a still at. (record { kept = sym (aside a.car) ∙ at.kept; here = sym (ids a) ∙ at.here }, sym (homes a.car));
}

-- another phase, in which the cars that pass are set aside too, where none was
pub stays_phased : (view t : SpaceView) (ends : ℕ → Bool) → ((e : ℕ) → is_aside view e ≡ false) → ((e : ℕ) → is_aside t e ≡ ends e) → ((a : Addr) → id_at t a ≡ id_at view a) → ((e : ℕ) → train_of t.trains.trains e ≡ train_of view.trains.trains e) → Stays view t None ends
stays_phased view t ends free aside ids homes = record {
  forth = λ id a still left at. (record { kept = aside a.car ∙ left; here = ids a ∙ at.here }, homes a.car);
  back = λ id a still at. (record { kept = free a.car; here = sym (ids a) ∙ at.here }, sym (homes a.car));
}

module _ (view : SpaceView) where
  pub stays_itself : Stays view view None none
  stays_itself = stays_same view view (λ e. refl) (λ a. refl) (λ e. refl)

  pub selected_stays : (train : ℕ) → IsSelecting view train → Stays view (selected view train) None none
  selected_stays train is = by_case (train == youngest view.trains.trains)
    where
      free : (e : ℕ) → is_aside view e ≡ false
      free e = ap (λ p. aside_in p view.trains.trains e) is.idle

      by_case : (b : Bool) → Stays view (record view { trains = if b then record { trains = rotated view.trains.trains; births = 0 } else view.trains; phase = Draining train }) None none
      by_case true = stays_phased view _ none free (λ e. refl) (λ a. refl) (λ e. home_rotated e (youngest view.trains.trains + 1) view.trains.trains)
      by_case false = stays_phased view _ none free (λ e. refl) (λ a. refl) (λ e. refl)

  pub doomed_stays : (train : ℕ) → HeapLaw view → IsDrained view train None → Stays view (doomed view train) None (is_aside (doomed view train))
  doomed_stays train law is = stays_phased view (doomed view train) (is_aside (doomed view train)) (drained_aside view train None law is) (λ e. refl) (λ a. refl) (λ e. refl)

  pub started_stays : (car picked : ℕ) (a : Addr) → HeapLaw view → IsStarting view car a → Stays view (started view car a picked) None none
  started_stays car picked a law is = stays_phased view (started view car a picked) none (drained_aside view is.train (Some a) law is.drained) (λ e. refl) (λ a. refl) (λ e. refl)

  pub finished_stays : (car : ℕ) → HeapLaw view → IsFinishing view car → Stays view (finished view car) None (is_aside (finished view car))
  finished_stays car law is = stays_phased view (finished view car) (is_aside (finished view car)) (emptied_aside view car None law is.emptied) (λ e. refl) (λ a. refl) (λ e. refl)

  pub applied_stays : (car : ℕ) → Stays view (applied_in view car) None none
  applied_stays car = by_queue (queue_of view car)
    where
      by_queue : (q : List Change) → Stays view (applied_front view car q) None none
      by_queue [] = stays_itself
      by_queue (c ∷ cs) = stays_same view _ (λ e. refl) (λ a. refl) (λ e. refl)

  pub fixed_stays : (car : ℕ) (x : RefSource) (to : Addr) → Stays view (fixed view car x to) None none
  fixed_stays car x to =
      let same = reshaped_spread view x (Some to) in
      stays_same view (fixed view car x to) (aside_same view (spread view x (Some to)) same) (id_same view (spread view x (Some to)) same) (λ e. ap (λ (s : Trains). train_of s.trains e) same.trains)

  -- a slot of another car
  other_slot : (cars : Cars) (n : ℕ) (o : Option Car) (change : Car → Car) (a : Addr) → (n == a.car) ≡ false → slot_at (put_car cars n o change) a ≡ slot_at cars a
  other_slot cars n None change a apart = refl
  other_slot cars n (Some car) change a apart = ap (λ o. slot_of o a.slot) (at_insert cars n (change car) a.car ∙ cond-false _ _ _ apart)

  pub swept_stays : (at : Addr) → IsSweeping view at → Stays view (swept view at) None none
  swept_stays at is = by_object (object_at view.cars at)
    where
      by_object : (o : Option Object) → Stays view (swept_some view at o) None none
      by_object None = stays_itself
      by_object (Some object) = record {
        forth = λ id a still ends stands. (record { kept = stands.kept; here = same a stands.kept ∙ stands.here }, refl);
        back = λ id a still stands. (record { kept = stands.kept; here = sym (same a stands.kept) ∙ stands.here }, refl);
      }
        where
          same : (a : Addr) → is_aside view a.car ≡ false → id_at (swept_some view at (Some object)) a ≡ id_at view a
          same a free =
              ap (λ o. option_map (λ (o : Object). o.id) (object_of o))
              (other_slot view.cars at.car (get view.cars at.car) (λ car. without_slot car at.slot) a
              (false_from_ne_true (at.car == a.car) (λ one. both_ways (is_aside view a.car) free (ap (is_aside view) (sym (eqb-true at.car a.car one)) ∙ swept_aside view at.car is.swept))))
