-- A new open train keeps the heap law and what the space stands for.
use Rattle.std.proofs.Common.{◌≡◌, ◌≢◌, ℕ, ◌+◌, ◌<◌, ◌≤◌, ◌==◌, Bool, true, false, cond, refl, ap, sym, subst, ◌∙◌, List, [], ◌∷◌, ◌++◌, length, Option, Some, None, arith, is_some}
use Rattle.std.specs.Option.{IsSome, IsSomeAnd, unwrap_or, option_and_then}
use Rattle.std.specs.List.{slice_get}
use Rattle.std.specs.FinMap.{get}
use Rattle.std.proofs.lemmas.Bool.{eqb-true, false_from_ne_true}
use Rattle.pm_types.specs.declared.address.Addr.{Addr}
use Rattle.pm_trains.specs.Trains.{Train, HasCar, cars_at, is_among, first_car, oldest, youngest, last_number, empty_train, rotated}
use Rattle.pm_trains.specs.Sound as line
use Rattle.pm_trains.proofs.Found.{last_least, last_greatest, last_pushed, cars_rotated}
use Rattle.pm_trains.proofs.Cars.{home_rotated}
use Rattle.pm_trains.proofs.Kept.{sound_rotated}
use Rattle.pm_view.specs.declared.phase.Phase.{Phase}
use Rattle.pm_view.specs.declared.phase.Phase.TheVariants.{Idle, Draining, Moving, Sweeping, Doomed}
use Rattle.pm_view.specs.View.{SpaceView}
use Rattle.pm_types.specs.declared.source.RefSource.{RefSource}
use Rattle.pm_types.specs.declared.source.RefSource.TheVariants.{Root, Handle, Field}
use Rattle.pm_cars.specs.Cars.{Car, look_of}
use Rattle.pm_roots.specs.Bindings.{address_at}
use Rattle.pm_view.specs.Effective.{effective_in}
use Rattle.pm_view.specs.Reading.{slot_at, object_at, field_of, stored, cars_of, aside_in, from_in, is_aside}
use Rattle.pm_view.specs.Seen.{seen, IsTied}
use Rattle.pm_view.specs.Law.{IsCar, IsOldest, IsFront, IsPhaseOf, IsAnchor, HeapLaw}
use Rattle.pm_view.specs.Represents.{Represents}
use Rattle.pm_model.specs.World.{World}
use Rattle.pm_law_commands.proofs.RowLemmas.SpreadMeans.{stands_for}

-- ---- trains

module _ (ts : List Train) (rising : line.Rise 0 ts) where
  next_over : last_number 0 ts < youngest ts + 1
  next_over = omega arith

  pub cars_of_rotated : (m : ℕ) → cars_of (rotated ts) m ≡ cars_of ts m
  cars_of_rotated m = ap (λ o. unwrap_or o []) (cars_rotated 0 (youngest ts + 1) m ts rising next_over) ∙ by_case (m == youngest ts + 1) (cars_at ts m) refl refl
    where
      by_case : (b : Bool) (o : Option (List ℕ)) → (m == youngest ts + 1) ≡ b → cars_at ts m ≡ o → unwrap_or (cond b (Some []) o) [] ≡ unwrap_or o []
      by_case true None same is = refl
      by_case true (Some cars) same is = let low = last_greatest 0 m cars ts rising is in let at_end = eqb-true m (youngest ts + 1) same in absurd (omega (arith, low, at_end))
      by_case false o same is = refl

  pub stands_rotated : (m : ℕ) → IsSome (cars_at ts m) → IsSome (cars_at (rotated ts) m)
  stands_rotated m some = ap is_some (cars_rotated 0 (youngest ts + 1) m ts rising next_over) ∙ by_case (m == youngest ts + 1)
    where
      by_case : (b : Bool) → is_some (cond b (Some []) (cars_at ts m)) ≡ true
      by_case true = refl
      by_case false = some

  pub cars_at_rotated : (m : ℕ) (cars : List ℕ) → cars_at ts m ≡ Some cars → cars_at (rotated ts) m ≡ Some cars
  cars_at_rotated m cars is = cars_rotated 0 (youngest ts + 1) m ts rising next_over ∙ by_case (m == youngest ts + 1) refl
    where
      by_case : (b : Bool) → (m == youngest ts + 1) ≡ b → cond b (Some []) (cars_at ts m) ≡ Some cars
      by_case true same = let low = last_greatest 0 m cars ts rising is in let at_end = eqb-true m (youngest ts + 1) same in absurd (omega (arith, low, at_end))
      by_case false same = is

  pub youngest_rotated : youngest (rotated ts) ≡ youngest ts + 1
  youngest_rotated = last_pushed 0 (youngest ts + 1) ts

oldest_either : (b : Bool) (n : ℕ) (o p : Option ℕ) → o ≡ p → cond b o (Some n) ≡ cond b p (Some n)
oldest_either true n o p is = is
oldest_either false n o p is = refl

oldest_pushed : (ts : List Train) (n : ℕ) → oldest (ts ++ empty_train n ∷ []) ≡ oldest ts
oldest_pushed [] n = refl
oldest_pushed (t ∷ ts) n = oldest_either (length t.cars == 0) t.number _ _ (oldest_pushed ts n)

pub oldest_rotated : (ts : List Train) → oldest (rotated ts) ≡ oldest ts
oldest_rotated ts = oldest_pushed ts (youngest ts + 1)

-- the oldest train with a car is not younger than the youngest
oldest_low : (low n : ℕ) (ts : List Train) → line.Rise low ts → oldest ts ≡ Some n → n ≤ last_number low ts
oldest_low low n [] rising is = cc
oldest_low low n (t ∷ ts) rising is = by_case (length t.cars == 0) is (oldest_low t.number n ts rising.1)
  where
    by_case : (b : Bool) → cond b (oldest ts) (Some t.number) ≡ Some n → (oldest ts ≡ Some n → n ≤ last_number t.number ts) → n ≤ last_number t.number ts
    by_case true is later = later is
    by_case false is later = let same : t.number ≡ n = cc in subst (λ m. m ≤ last_number t.number ts) same (last_least t.number ts rising.1)

-- ---- the phase and the anchor

pub oldest_still : (ts : List Train) (n : ℕ) → line.Rise 0 ts → IsOldest ts n → IsOldest (rotated ts) n
oldest_still ts n rising at = (
  oldest_rotated ts ∙ at.0,
  false_from_ne_true (n == youngest (rotated ts)) (λ same.
      let low = oldest_low 0 n ts rising at.0 in
      let last : n ≡ youngest ts + 1 = eqb-true n (youngest (rotated ts)) same ∙ youngest_rotated ts rising in
      omega (arith, low, last)),
)

front_still : (ts : List Train) (car : ℕ) → line.Rise 0 ts → IsFront ts car → IsFront (rotated ts) car
front_still ts car rising at = by_case (oldest ts) refl at
  where
    first_still : (n : ℕ) (o : Option (List ℕ)) → cars_at ts n ≡ o → option_and_then (λ cars. slice_get cars 0) o ≡ Some car → first_car (rotated ts) n ≡ Some car
    first_still n None is first = cc
    first_still n (Some cars) is first = ap (option_and_then (λ (cars : List ℕ). slice_get cars 0)) (cars_at_rotated ts rising n cars is) ∙ first

    by_case : (o : Option ℕ) → oldest ts ≡ o → IsSomeAnd o (λ n. IsOldest ts n × (first_car ts n ≡ Some car)) → IsFront (rotated ts) car
    by_case None is at = absurd at
    by_case (Some n) is at =
        subst (λ o. IsSomeAnd o (λ n. IsOldest (rotated ts) n × (first_car (rotated ts) n ≡ Some car))) (sym (oldest_rotated ts ∙ is))
        (oldest_still ts n rising at.0, first_still n (cars_at ts n) refl at.1)

phase_rotated : (p : Phase) (ts : List Train) (anchor : Option (Addr × ℕ)) → line.Rise 0 ts → IsPhaseOf p ts anchor → IsPhaseOf p (rotated ts) anchor
phase_rotated Idle ts anchor rising at = tt
phase_rotated (Draining n) ts anchor rising at = oldest_still ts n rising at
phase_rotated (Moving car) ts anchor rising at = front_still ts car rising at
phase_rotated (Sweeping car) ts anchor rising at = front_still ts car rising at
phase_rotated (Doomed n) ts anchor rising at = (oldest_still ts n rising at.0, at.1)

aside_rotated : (p : Phase) (ts : List Train) → line.Rise 0 ts → (e : ℕ) → aside_in p (rotated ts) e ≡ aside_in p ts e
aside_rotated Idle ts rising e = refl
aside_rotated (Draining n) ts rising e = refl
aside_rotated (Moving car) ts rising e = refl
aside_rotated (Sweeping car) ts rising e = refl
aside_rotated (Doomed n) ts rising e = ap (is_among e) (cars_of_rotated ts rising n)

-- ---- the row

-- a space with other trains, which set aside the same cars, is seen as the same
pub seen_alike : (view t : SpaceView) → ((e : ℕ) → is_aside t e ≡ is_aside view e) → t.cars ≡ view.cars → t.sets ≡ view.sets → t.queues ≡ view.queues → t.roots ≡ view.roots → t.registers ≡ view.registers → t.phase ≡ view.phase → seen t ≡ seen view
seen_alike view t aside cars sets queues roots registers phase = λ i. record {
  stored = stored_along i;
  aside = λ e. aside e i;
  look = λ a. look_of (slot_at (cars i) a);
  from = λ e. from_in (phase i) e;
  effective = λ e x. effective_in (get (sets i) e) (get (queues i) e) x;
}
  where
    stored_along : stored t ≡ stored view
    stored_along = λ i x. same x i
      where
        same : (x : RefSource) → stored t x ≡ stored view x
        same (Root k) = ap (λ m. address_at m k) roots
        same (Handle c r) = ap (λ m. get m (c, r)) registers
        same (Field a i) = ap (λ m. field_of (object_at m a) i) cars

module _ (view : SpaceView) (law : HeapLaw view) (has : HasCar view.trains.trains (youngest view.trains.trains)) where
  abbrev ts : List Train
  ts = view.trains.trains

  abbrev pub opened : SpaceView
  opened = record view { trains = record { trains = rotated ts; births = 0 } }

  rising : line.Rise 0 ts
  rising = law.built.trains.rising

  pub aside_opened : (e : ℕ) → is_aside opened e ≡ is_aside view e
  aside_opened e = aside_rotated view.phase ts rising e

  car_opened : (n : ℕ) (car : Car) → IsCar view n car → IsCar opened n car
  car_opened n car was = record {
    numbered = was.numbered;
    from_one = was.from_one;
    sound = was.sound;
    live = λ from free. was.live from (sym (aside_opened n) ∙ free);
    moved = was.moved;
  }

  anchor_opened : (a : Addr) (to : ℕ) → IsAnchor view a to → IsAnchor opened a to
  anchor_opened a to was = record {
    live = was.live;
    kept = aside_opened a.car ∙ was.kept;
    old = home_rotated a.car (youngest ts + 1) ts ∙ was.old ∙ sym (oldest_rotated ts);
    stands = stands_rotated ts rising to was.stands;
    leaves = subst (λ o. o ≢ Some to) (sym (oldest_rotated ts)) was.leaves;
  }

  -- a new open train keeps the heap law
  pub opening_keeps_law : HeapLaw opened
  opening_keeps_law = record {
    built = record {
      trains = sound_rotated view.trains law.built.trains has;
      linked = λ car. ap is_some (home_rotated car (youngest ts + 1) ts) ∙ law.built.linked car;
      sets = law.built.sets;
      queues = law.built.queues;
      cars = λ n car is. car_opened n car (law.built.cars n car is);
      objects = λ a object is. let was = law.built.objects a object is in record { first = was.first; given = was.given; fields = was.fields; bytes = was.bytes };
      apart = law.built.apart;
      next = law.built.next;
      births = omega arith;
    };
    named = record { numbers = law.named.numbers; few = law.named.few; registers = law.named.registers };
    tied = subst IsTied (sym (seen_alike view opened aside_opened refl refl refl refl refl refl)) law.tied;
    phase = phase_rotated view.phase ts view.anchor rising law.phase;
    anchor = λ a to is. anchor_opened a to (law.anchor a to is);
  }

  -- and what the space stands for
  pub opening_stands : (world : World) → Represents view world → Represents opened world
  opening_stands world stands = stands_for opened world opening_keeps_law
      (record {
        roots = stands.roots;
        registers = stands.registers;
        objects = λ a object known free is found. stands.objects a object known (sym (aside_opened a.car) ∙ free) is found;
      })
      stands.next
      stands.given
      (λ a object free is none. stands.leftover a object (sym (aside_opened a.car) ∙ free) is none)
