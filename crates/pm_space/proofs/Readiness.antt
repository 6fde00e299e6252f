-- Cars that are made ready, and cars that stay so.
use Rattle.std.proofs.Common.{◌≡◌, ℕ, ◌<◌, ◌==◌, ◌||◌, not, arith, Bool, true, false, cond, refl, ap, sym, subst, ◌∙◌, Option, Some, None, IsSomeAnd, is_some, Result, Ok, Err, OnOk, OnErr, max}
use Rattle.std.specs.Ordering.{nat_cmp}
use Rattle.std.specs.Cmp.{nat_cmp_total}
use Rattle.std.specs.FinMap.{FinMap, get, insert, nat_cmp-IsAntisymmetric}
use Rattle.std.specs.FinSet as set
use Rattle.std.specs.FinSet.{FinSet}
use Rattle.std.proofs.lemmas.Bool.{cond-true, eqb-true, eq-eqb}
use Rattle.pm_types.proofs.Mapped.{mapped-insert}
use Rattle.pm_cars.specs.Cars.{CarAndSpare}
use Rattle.pm_types.specs.declared.no_memory.NoMemory.{NoMemory}
use Rattle.pm_snap.specs.Snapped.{Snapped, with_value, without, mark}
use Rattle.pm_snap.proofs.KeySets.{contains_insert}
use Rattle.pm_law_commands.proofs.RowLemmas.News.{at_insert}
use Rattle.pm_space.specs.declared.held.Held.{Held}
use Rattle.pm_space.specs.Shown.{car_of, cars_of, HasBirthRoom, KeepsReady}
use Rattle.pm_space.proofs.HeldCars.{get_car}
use Rattle.pm_space.proofs.Linking.{insert_again}

or_true : (b : Bool) → (b || true) ≡ true
or_true true = refl
or_true false = refl

-- a key that is marked takes no other key's mark away
kept_mark : (frozen : Option (FinMap nat_cmp Held)) (changed : FinSet nat_cmp) (key other : ℕ)
    → (not (is_some frozen) || set.contains changed other) ≡ true → (not (is_some frozen) || set.contains (mark frozen changed key) other) ≡ true
kept_mark None changed key other is = refl
kept_mark (Some values) changed key other is = contains_insert changed key other ∙ ap (λ b. (key == other) || b) is ∙ or_true (key == other)

-- cars that are ready stay so where one is given a value
pub kept_by_value : (table : Snapped Held) (number : ℕ) (held : Held) → KeepsReady table (with_value table number held)
kept_by_value table number held car is = kept_mark table.frozen table.changed number car is

-- and where one is taken out
pub kept_by_taking : (table : Snapped Held) (number : ℕ) → KeepsReady table (without table number)
kept_by_taking table number car is = kept_mark table.frozen table.changed number car is

-- a car that is given the value that it has
pub same_cars : (table : Snapped Held) (number : ℕ) (held : Held) → get table.current number ≡ Some held → (with_value table number held).current ≡ table.current
same_cars table number held is = insert_again table.current number held is

-- a car that is given a value in which the car is the same
pub same_seen : (table : Snapped Held) (number : ℕ) (held w : Held) → get table.current number ≡ Some held → car_of w ≡ car_of held → cars_of (with_value table number w) ≡ cars_of table
same_seen table number held w is same =
    mapped-insert nat_cmp car_of nat_cmp_total nat_cmp-IsAntisymmetric table.current number w
    ∙ ap (insert (cars_of table) number) same
    ∙ insert_again (cars_of table) number (car_of held) (get_car table number (Some held) (sym is))

-- a car that is given a value with room for a birth has it
pub room_given : (table : Snapped Held) (number : ℕ) (w : Held) → 0 < w.car.spare → HasBirthRoom (with_value table number w) number
room_given table number w room =
    subst (λ o. IsSomeAnd o (λ (held : Held). 0 < held.car.spare)) (sym (at_insert table.current number w number ∙ cond-true _ _ _ (eq-eqb number number refl))) room

-- and every other car keeps its own
pub room_kept : (table : Snapped Held) (number : ℕ) (held w : Held) → get table.current number ≡ Some held → (0 < held.car.spare → 0 < w.car.spare)
    → (other : ℕ) → HasBirthRoom table other → HasBirthRoom (with_value table number w) other
room_kept table number held w is grows other has =
    subst (λ o. IsSomeAnd o (λ (held : Held). 0 < held.car.spare)) (sym (at_insert table.current number w other))
    (pick (number == other) (λ here. grows (subst (λ o. IsSomeAnd o (λ (held : Held). 0 < held.car.spare)) (ap (get table.current) (sym (eqb-true number other here)) ∙ is) has)))
  where
    pick : (b : Bool) → (b ≡ true → 0 < w.car.spare) → IsSomeAnd (cond b (Some w) (get table.current other)) (λ (held : Held). 0 < held.car.spare)
    pick true here = here refl
    pick false here = has

-- what a car is after it was given room for a birth, where there was memory or not
module _ (old w : CarAndSpare) where
  pub reserved_car : (result : Result (Unit {0}) NoMemory) → OnOk result (w ≡ record { car = old.car; spare = max 1 old.spare }) → OnErr result (w ≡ old) → w.car ≡ old.car
  reserved_car (Ok u) ok err = ap (λ (it : CarAndSpare). it.car) ok
  reserved_car (Err e) ok err = ap (λ (it : CarAndSpare). it.car) err

  pub reserved_room : (result : Result (Unit {0}) NoMemory) → OnOk result (w ≡ record { car = old.car; spare = max 1 old.spare }) → OnOk result (0 < w.spare)
  reserved_room (Ok u) ok = let is = ap (λ (it : CarAndSpare). it.spare) ok in omega (arith, is)
  reserved_room (Err e) ok = tt

  pub reserved_grows : (result : Result (Unit {0}) NoMemory) → OnOk result (w ≡ record { car = old.car; spare = max 1 old.spare }) → OnErr result (w ≡ old) → 0 < old.spare → 0 < w.spare
  reserved_grows (Ok u) ok err some = let is = ap (λ (it : CarAndSpare). it.spare) ok in omega (arith, is)
  reserved_grows (Err e) ok err some = let is = ap (λ (it : CarAndSpare). it.spare) err in omega (arith, is, some)

-- what holds anyway holds where there was memory
pub on_ok : {P : Type 0} (result : Result (Unit {0}) NoMemory) → P → OnOk result P
on_ok (Ok u) is = is
on_ok (Err e) is = tt

-- a car that was given room for a birth, where there was memory, has it
pub room_where : (table : Snapped Held) (number : ℕ) (w : Held) (result : Result (Unit {0}) NoMemory) → OnOk result (0 < w.car.spare) → OnOk result (HasBirthRoom (with_value table number w) number)
room_where table number w (Ok u) room = room_given table number w room
room_where table number w (Err e) room = tt
