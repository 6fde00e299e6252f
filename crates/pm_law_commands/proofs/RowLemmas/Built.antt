-- A space whose cars and objects keep their shape stays built as the heap law says.
use Rattle.std.proofs.Common.{◌≡◌, ◌≢◌, ℕ, ◌+◌, ◌<◌, ◌≤◌, cond, refl, ap, sym, subst, ◌∙◌, Option, Some, None, is_some}
use Rattle.std.specs.List.{sum_by}
use Rattle.std.specs.FinMap.{get}
use Rattle.pm_types.specs.declared.limits.TheConstants.{FIELDS, OBJECT_BYTES, CAR_BYTES, LAST_SLOT}
use Rattle.pm_types.specs.declared.address.Addr.{Addr}
use Rattle.pm_types.specs.declared.object.Object.{Object}
use Rattle.pm_cars.specs.Cars.{Car, IsSoundCar, look_of}
use Rattle.pm_trains.specs.Sound as line
use Rattle.pm_trains.specs.Trains.{Trains, cars_at, train_of, oldest, youngest}
use Rattle.pm_view.specs.View.{SpaceView}
use Rattle.pm_view.specs.Reading.{slot_at, object_at, cars_of, aside_in, from_in, is_aside, is_from}
use Rattle.pm_view.specs.Counts.{live_in, standing_in}
use Rattle.pm_view.specs.Law.{IsCar, IsObject, IsBuilt, IsPhaseOf, IsAnchor}
use Rattle.pm_law_commands.proofs.RowLemmas.Shapes.{IsShaped, IsShapedCar, IsShapedAt, AreShaped}

-- t is a space with the cars, trains and sets of another; only what is in fields and bytes, in queues, and under names
-- and in registers may differ
pub record IsReshaped (view t : SpaceView) : Type 0 where
  pub trains : t.trains ≡ view.trains
  pub sets : t.sets ≡ view.sets
  pub queues : (car : ℕ) → is_some (get t.queues car) ≡ is_some (get view.queues car)
  pub phase : t.phase ≡ view.phase
  pub anchor : t.anchor ≡ view.anchor
  pub next : t.next ≡ view.next
  pub cars : AreShaped view.cars t.cars
  pub objects : (a : Addr) (p : Object) → object_at t.cars a ≡ Some p → (o : Object) × (object_at view.cars a ≡ Some o) × IsShaped o p
  pub some : (a : Addr) → is_some (object_at t.cars a) ≡ is_some (object_at view.cars a)
  pub look : (a : Addr) → look_of (slot_at t.cars a) ≡ look_of (slot_at view.cars a)

shaped_some : (o p : Option Car) → IsShapedAt o p → is_some p ≡ is_some o
shaped_some None None shaped = refl
shaped_some None (Some d) shaped = absurd shaped
shaped_some (Some c) None shaped = absurd shaped
shaped_some (Some c) (Some d) shaped = refl

shaped_live : (o p : Option Car) → IsShapedAt o p → live_in p ≡ live_in o
shaped_live None None shaped = refl
shaped_live None (Some d) shaped = absurd shaped
shaped_live (Some c) None shaped = absurd shaped
shaped_live (Some c) (Some d) shaped = shaped.live

shaped_from : (o : Option Car) (d : Car) → IsShapedAt o (Some d) → (c : Car) × (o ≡ Some c) × IsShapedCar c d
shaped_from None d shaped = absurd shaped
shaped_from (Some c) d shaped = (c, refl, shaped)

sound_still : (c d : Car) → IsShapedCar c d → IsSoundCar c → IsSoundCar d
sound_still c d shaped sound = record {
  room = subst (λ n. n ≤ CAR_BYTES) (sym shaped.room) sound.room;
  next = subst (λ n. n ≤ LAST_SLOT + 1) (sym shaped.next) sound.next;
  below = λ slot after. shaped.gone slot (sound.below slot (subst (λ n. n ≤ slot) shaped.next after));
}

module _ (view t : SpaceView) (same : IsReshaped view t) where
  pub aside_same : (e : ℕ) → is_aside t e ≡ is_aside view e
  aside_same e = λ i. aside_in (same.phase i) (same.trains i).trains e

  pub from_same : (e : ℕ) → is_from t e ≡ is_from view e
  from_same e = λ i. from_in (same.phase i) e

  pub stand_same : (e : ℕ) → is_some (get t.cars e) ≡ is_some (get view.cars e)
  stand_same e = shaped_some (get view.cars e) (get t.cars e) (same.cars e)

  standing_same : (e : ℕ) → standing_in t e ≡ standing_in view e
  standing_same e = λ i. cond (aside_same e i) 0 (shaped_live (get view.cars e) (get t.cars e) (same.cars e) i)

  module _ (built : IsBuilt view) where
    car_still : (n : ℕ) (d : Car) → get t.cars n ≡ Some d → IsCar t n d
    car_still n d is =
        let was = shaped_from (get view.cars n) d (subst (IsShapedAt (get view.cars n)) is (same.cars n)) in
        let car = built.cars n was.0 was.1 in
        record {
          numbered = was.2.number ∙ car.numbered;
          from_one = car.from_one;
          sound = sound_still was.0 d was.2 car.sound;
          live = λ from free. subst (λ m. 0 < m) (sym was.2.live) (car.live (sym (from_same n) ∙ from) (sym (aside_same n) ∙ free));
          moved = λ from. was.2.moved ∙ car.moved (sym (from_same n) ∙ from);
        }

    object_still : (a : Addr) (p : Object) → object_at t.cars a ≡ Some p → IsObject t p
    object_still a p is =
        let was = same.objects a p is in
        let object = built.objects a was.0 was.1 in
        record {
          first = subst (λ n. 0 < n) (sym was.2.id) object.first;
          given = subst (λ n. p.id < n) (sym same.next) (subst (λ n. n < view.next) (sym was.2.id) object.given);
          fields = subst (λ n. n ≤ FIELDS) (sym was.2.fields) object.fields;
          bytes = subst (λ n. n ≤ OBJECT_BYTES) (sym was.2.bytes) object.bytes;
        }

    apart_still : (a b : Addr) (o p : Object) → object_at t.cars a ≡ Some o → object_at t.cars b ≡ Some p → o.id ≡ p.id → a ≡ b
    apart_still a b o p at_a at_b ids =
        let was_a = same.objects a o at_a in
        let was_b = same.objects b p at_b in
        built.apart a b was_a.0 was_b.0 was_a.1 was_b.1 (sym was_a.2.id ∙ ids ∙ was_b.2.id)

    births_still : t.trains.births ≤ sum_by (standing_in t) (cars_of t.trains.trains (youngest t.trains.trains))
    births_still =
        subst (λ (f : ℕ → ℕ). t.trains.births ≤ sum_by f (cars_of t.trains.trains (youngest t.trains.trains))) (λ i e. sym (standing_same e) i)
        (subst (λ (s : Trains). s.births ≤ sum_by (standing_in view) (cars_of s.trains (youngest s.trains))) (sym same.trains) built.births)

    -- it stays built as the law says
    pub built_still : IsBuilt t
    built_still = record {
      trains = subst line.AreSoundTrains (sym same.trains) built.trains;
      linked = λ e. ap (λ (s : Trains). is_some (train_of s.trains e)) same.trains ∙ built.linked e ∙ sym (stand_same e);
      sets = λ e. ap (λ s. is_some (get s e)) same.sets ∙ built.sets e ∙ sym (stand_same e);
      queues = λ e. same.queues e ∙ built.queues e ∙ sym (stand_same e);
      cars = car_still;
      objects = object_still;
      apart = apart_still;
      next = subst (λ n. (1 ≤ n) × (n ≤ 4294967296)) (sym same.next) built.next;
      births = births_still;
    }

  anchored_still : (a : Addr) (to : ℕ) → IsAnchor view a to → IsAnchor t a to
  anchored_still a to anchor = record {
    live = same.some a ∙ anchor.live;
    kept = aside_same a.car ∙ anchor.kept;
    old = ap (λ (s : Trains). train_of s.trains a.car) same.trains ∙ anchor.old ∙ ap (λ (s : Trains). oldest s.trains) (sym same.trains);
    stands = ap (λ (s : Trains). is_some (cars_at s.trains to)) same.trains ∙ anchor.stands;
    leaves = subst (λ (s : Trains). oldest s.trains ≢ Some to) (sym same.trains) anchor.leaves;
  }

  -- the phase and the anchor stay as the law says
  pub phase_still : IsPhaseOf view.phase view.trains.trains view.anchor → IsPhaseOf t.phase t.trains.trains t.anchor
  phase_still at = subst (λ p. IsPhaseOf p t.trains.trains t.anchor) (sym same.phase) (subst (λ (s : Trains). IsPhaseOf view.phase s.trains t.anchor) (sym same.trains) (subst (IsPhaseOf view.phase view.trains.trains) (sym same.anchor) at))

  pub anchor_still : ((a : Addr) (to : ℕ) → view.anchor ≡ Some (a, to) → IsAnchor view a to) → (a : Addr) (to : ℕ) → t.anchor ≡ Some (a, to) → IsAnchor t a to
  anchor_still anchor a to is = anchored_still a to (anchor a to (sym same.anchor ∙ is))
