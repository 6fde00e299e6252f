-- Each change of the trains leaves what holds of them.
use Rattle.std.proofs.Common.{◌≡◌, ℕ, ◌+◌, ◌==◌, ◌&&◌, nat_lt, cond, List, [], ◌∷◌, ◌++◌, length, drop, get_or, set, Option, Some, None, IsSome, refl, sym, ap, ◌∙◌, arith, length-append}
use Rattle.std.specs.List.{remove}
use Rattle.pm_trains.specs.Trains.{Train, Trains, cars_at, HasCar, train_of, youngest, appended, without_first, rotated, with_cars, empty_train}
use Rattle.pm_trains.specs.Sound.{AreSoundTrains}
use Rattle.pm_trains.specs.Places.{IsAt}
use Rattle.pm_trains.proofs.Order.{agree}
use Rattle.pm_trains.proofs.Numbers.{cars_read, written, rise_changed, rise_emptied, rise_pushed, length_changed}
use Rattle.pm_trains.proofs.Cars.{single_appended, single_removed, places_rotated, home_appended, home_removed, home_rotated}
use Rattle.pm_trains.proofs.Found.{appended_last, cars_rotated}
use Rattle.pm_trains.proofs.Filling.{filled_appended, filled_emptied, some_emptied, filled_rotated, dropped}

pub sound_appended : (t : Trains) (n car : ℕ) → AreSoundTrains t → train_of t.trains car ≡ None → AreSoundTrains (record t { trains = appended n car t.trains })
sound_appended t n car sound none =
    record {
      standing = omega (arith, sound.standing, length_changed n (λ cars. cars ++ car ∷ []) t.trains);
      rising = rise_changed 0 n _ t.trains sound.rising;
      filled = filled_appended n car t.trains sound.filled;
      single = single_appended n car t.trains none sound.single;
      bounded = sound.bounded;
    }

pub sound_removed : (t : Trains) (n : ℕ) → AreSoundTrains t → AreSoundTrains (record t { trains = without_first n t.trains })
sound_removed t n sound =
    record {
      standing = some_emptied (with_cars n (λ cars. drop 1 cars) t.trains) (omega (arith, sound.standing, length_changed n (λ cars. drop 1 cars) t.trains));
      rising = rise_emptied 0 _ (rise_changed 0 n _ t.trains sound.rising);
      filled = filled_emptied (with_cars n (λ cars. drop 1 cars) t.trains);
      single = single_removed n t.trains sound.single;
      bounded = sound.bounded;
    }

pub sound_rotated : (t : Trains) → AreSoundTrains t → HasCar t.trains (youngest t.trains) → AreSoundTrains (record { trains = rotated t.trains; births = 0 })
sound_rotated t sound car =
    record {
      standing = omega (arith, length-append t.trains (empty_train (youngest t.trains + 1) ∷ []));
      rising = rise_pushed 0 t.trains _ sound.rising (omega arith);
      filled = filled_rotated 0 t.trains _ sound.rising sound.filled (λ _. car);
      single = λ q. omega (arith, places_rotated q (youngest t.trains + 1) t.trains, sound.single q);
      bounded = omega arith;
    }

-- A train that was read at its place and written there, with one more car at its end. `now` and `next`
-- are what the index of cars answers before and after.
module _ (ts : List Train) (births n car place : ℕ) (old new : Train) (sound : AreSoundTrains (record { trains = ts; births = births })) (at : IsAt ts n place) (read : old ≡ get_or ts place old) where
  pub appended_there : new ≡ record old { cars = old.cars ++ car ∷ [] } → set ts place new ≡ appended n car ts
  appended_there is = written 0 ts n place (λ cars. cars ++ car ∷ []) old new sound.rising at read is

  named : old.number ≡ n
  named = ap (λ (t : Train). t.number) read ∙ at.named old

  stands : IsSome (cars_at ts n)
  stands = rw (cars_read 0 ts n place old sound.rising at read) refl

  pub appended_sound : new ≡ record old { cars = old.cars ++ car ∷ [] } → train_of ts car ≡ None → AreSoundTrains (record { trains = set ts place new; births = births })
  appended_sound is none = rw (appended_there is) (sound_appended (record { trains = ts; births = births }) n car sound none)

  pub appended_housed : new ≡ record old { cars = old.cars ++ car ∷ [] } → train_of ts car ≡ None → (now next : ℕ → Option ℕ) → ((q : ℕ) → now q ≡ train_of ts q) → ((q : ℕ) → next q ≡ cond (q == car) (Some old.number) (now q))
      → (q : ℕ) → next q ≡ train_of (set ts place new) q
  appended_housed is none now next housed put q =
      rw (appended_there is, home_appended n car ts stands none q, ← housed q, ← named) (put q)

-- A train that was read at its place and written there without its first car, and was taken away where
-- that left it empty.
module _ (ts : List Train) (births n car place : ℕ) (old new : Train) (sound : AreSoundTrains (record { trains = ts; births = births })) (at : IsAt ts n place) (read : old ≡ get_or ts place old) (first : old.cars ≡ car ∷ new.cars) (number : new.number ≡ old.number) where
  taken : cars_at ts n ≡ Some (car ∷ new.cars)
  taken = cars_read 0 ts n place old sound.rising at read ∙ ap Some first

  shorter : set ts place new ≡ with_cars n (λ cars. drop 1 cars) ts
  shorter = written 0 ts n place (λ cars. drop 1 cars) old new sound.rising at read (λ i. record { number = number i; cars = sym (ap (λ (xs : List ℕ). drop 1 xs) first) i })

  pub removed_there : cond (nat_lt (place + 1) (length (set ts place new)) && (length (get_or (set ts place new) place (empty_train 0)).cars == 0)) (remove (set ts place new) place) (set ts place new) ≡ without_first n ts
  removed_there = rw shorter (dropped 0 ts n place (λ cars. drop 1 cars) (empty_train 0) sound.rising sound.filled at)

  pub removed_sound : (after : List Train) → after ≡ without_first n ts → AreSoundTrains (record { trains = after; births = births })
  removed_sound after is = rw is (sound_removed (record { trains = ts; births = births }) n sound)

  pub removed_housed : (after : List Train) → after ≡ without_first n ts → (now next : ℕ → Option ℕ) → ((q : ℕ) → now q ≡ train_of ts q) → ((q : ℕ) → next q ≡ cond (q == car) None (now q)) → (q : ℕ) → next q ≡ train_of after q
  removed_housed after is now next housed put q =
      rw (is, home_removed n car new.cars ts taken (sound.single car) q, ← housed q) (put q)

-- A train without a car was pushed, whose number is one more than that of the youngest.
module _ (ts : List Train) (births number : ℕ) (new : Train) (after : List Train) (sound : AreSoundTrains (record { trains = ts; births = births })) (last : number ≡ youngest ts) (is : new ≡ empty_train (number + 1)) (pushed : after ≡ ts ++ new ∷ []) where
  rotated_there : after ≡ rotated ts
  rotated_there = pushed ∙ ap (λ (t : Train). ts ++ t ∷ []) (is ∙ ap (λ n. empty_train (n + 1)) last)

  pub rotated_sound : HasCar ts (youngest ts) → AreSoundTrains (record { trains = after; births = 0 })
  rotated_sound car = rw rotated_there (sound_rotated (record { trains = ts; births = births }) sound car)

  pub rotated_housed : (now : ℕ → Option ℕ) → ((q : ℕ) → now q ≡ train_of ts q) → (q : ℕ) → now q ≡ train_of after q
  rotated_housed now housed q = housed q ∙ sym (home_rotated q (youngest ts + 1) ts) ∙ ap (λ (ts : List Train). train_of ts q) (sym rotated_there)

-- A train with this car alone was pushed, whose number is one more than that of the youngest.
module _ (ts : List Train) (births number car : ℕ) (new : Train) (after : List Train) (sound : AreSoundTrains (record { trains = ts; births = births })) (last : number ≡ youngest ts + 1) (is : new ≡ record { number = number; cars = car ∷ [] }) (pushed : after ≡ ts ++ new ∷ []) (none : train_of ts car ≡ None) where
  pub opened_there : after ≡ appended (youngest ts + 1) car (rotated ts)
  opened_there =
      pushed ∙ ap (λ (t : Train). ts ++ t ∷ []) (is ∙ (λ i. record { number = last i; cars = car ∷ [] })) ∙ sym (appended_last 0 (youngest ts + 1) car ts sound.rising (omega arith))

  still_none : train_of (rotated ts) car ≡ None
  still_none = home_rotated car (youngest ts + 1) ts ∙ none

  pub opened_sound : HasCar ts (youngest ts) → AreSoundTrains (record { trains = after; births = 0 })
  opened_sound has =
      rw opened_there (sound_appended (record { trains = rotated ts; births = 0 }) (youngest ts + 1) car (sound_rotated (record { trains = ts; births = births }) sound has) still_none)

  opened_stands : IsSome (cars_at (rotated ts) (youngest ts + 1))
  opened_stands = rw (cars_rotated 0 (youngest ts + 1) (youngest ts + 1) ts sound.rising (omega arith), agree (youngest ts + 1) (youngest ts + 1) refl) refl

  pub opened_housed : (now next : ℕ → Option ℕ) → ((q : ℕ) → now q ≡ train_of ts q) → ((q : ℕ) → next q ≡ cond (q == car) (Some number) (now q)) → (q : ℕ) → next q ≡ train_of after q
  opened_housed now next housed put q =
      rw (opened_there, home_appended (youngest ts + 1) car (rotated ts) opened_stands still_none q, home_rotated q (youngest ts + 1) ts, ← housed q, ← last) (put q)
