-- A car that is opened.
use Rattle.std.proofs.Common.{◌≡◌, ℕ, ◌+◌, ◌<◌, ◌==◌, ◌||◌, not, arith, Bool, true, false, cond, refl, ap, sym, subst, ◌∙◌, List, [], Option, Some, None, IsSome, IsSomeAnd, is_some, ⊎_elim}
use Rattle.std.specs.Ordering.{nat_cmp}
use Rattle.std.specs.Cmp.{nat_cmp_total}
use Rattle.std.specs.Option.{option_map}
use Rattle.std.specs.FinMap.{FinMap, empty, get, insert, remove, nat_cmp-IsAntisymmetric}
use Rattle.std.specs.FinSet as set
use Rattle.std.proofs.lemmas.Bool.Decides.{nat_tests}
use Rattle.std.proofs.lemmas.Bool.{cases_Bool, cond-true, cond-false, eq-eqb}
use Rattle.pm_types.specs.Mapped.{mapped}
use Rattle.pm_types.proofs.Mapped.{get-mapped, mapped-insert}
use Rattle.pm_cars.specs.Cars.{new_car}
use Rattle.pm_trains.specs.Trains.{Train, Trains, appended, rotated, youngest, cars_at, train_of}
use Rattle.pm_trains.specs.Changes.{cars_with_open}
use Rattle.pm_trains.proofs.Cars.{home_appended}
use Rattle.pm_snap.specs.Snapped.{Snapped, with_value, without, is_ready, mark, IsLowestUnused}
use Rattle.pm_snap.proofs.Shown.{none_is_not_some}
use Rattle.pm_snap.proofs.KeySets.{contains_insert}
use Rattle.pm_law_commands.proofs.RowLemmas.News.{at_insert}
use Rattle.pm_view.specs.View.{Cars, Sets, Queues, SpaceView}
use Rattle.pm_view.specs.Rows.{with_car, IsVacant}
use Rattle.pm_space.specs.declared.held.Held.{Held}
use Rattle.pm_space.specs.Linked.{Linked, set_of, sets_of, HasRoomOf, KeepsRoom}
use Rattle.pm_space.specs.Shown.{car_of, cars_of, empty_held, IsLinked, in_new_train}
use Rattle.pm_space.proofs.HeldCars.{get_car}
use Rattle.pm_space.proofs.Linking.{at_remove, insert_undone}

-- what is not there is none
pub not_some : {X : Type 0} (o : Option X) → is_some o ≡ false → o ≡ None
not_some None is = refl
not_some (Some x) is = absurd cc

-- what is made of a value is there where it is
pub mapped_some : {X Y : Type 0} (f : X → Y) (o : Option X) → is_some (option_map f o) ≡ is_some o
mapped_some f None = refl
mapped_some f (Some x) = refl

-- a number that no car has is free in the map of cars
pub free_car : (table : Snapped Held) (number : ℕ) → get table.current number ≡ None → is_some (get (cars_of table) number) ≡ false
free_car table number none = ap is_some (get_car table number None (sym none))

-- and has no links
pub unlinked : (table : Snapped Held) (links : Linked) → ((car : ℕ) → is_some (get (sets_of links) car) ≡ is_some (get (cars_of table) car)) → (car : ℕ) → get table.current car ≡ None → get links car ≡ None
unlinked table links linked car none =
    not_some (get links car) (sym (mapped_some set_of (get links car)) ∙ sym (ap is_some (get-mapped nat_cmp set_of links car)) ∙ linked car ∙ free_car table car none)

-- a lowest key that is not used is the number of no car
pub lowest_vacant : (table : Snapped Held) (number : ℕ) → IsLowestUnused table.current number → IsVacant (cars_of table) number
lowest_vacant table number lowest = record {
  from_one = lowest.from_one;
  vacant = get_car table number None (sym lowest.unused);
  least = λ other over below. ap is_some (get-mapped nat_cmp car_of table.current other) ∙ mapped_some car_of (get table.current other) ∙ lowest.lower_used other over below;
}

-- a value that was given to a key
pub given : (table : Snapped Held) (number : ℕ) (held : Held) → get (with_value table number held).current number ≡ Some held
given table number held = at_insert table.current number held number ∙ cond-true _ _ _ (eq-eqb number number refl)

-- an empty car that was added has room for a birth
pub has_birth : (table : Snapped Held) (number : ℕ) → IsSomeAnd (get (with_value table number (empty_held number)).current number) (λ (held : Held). 0 < held.car.spare)
has_birth table number = subst (λ o. IsSomeAnd o (λ (held : Held). 0 < held.car.spare)) (sym (given table number (empty_held number))) (omega arith)

-- a key that was given a value is ready
pub ready : (table : Snapped Held) (number : ℕ) (held : Held) → is_ready (with_value table number held) number ≡ true
ready table number held = marked table.frozen
  where
    marked : (frozen : Option (FinMap nat_cmp Held)) → (not (is_some frozen) || set.contains (mark frozen table.changed number) number) ≡ true
    marked None = refl
    marked (Some values) = contains_insert table.changed number number ∙ ap (λ b. b || set.contains table.changed number) (eq-eqb number number refl)

-- cars where one was added, and where it was taken out again
pub cars_added : (table : Snapped Held) (number : ℕ) (held : Held) → cars_of (with_value table number held) ≡ insert (cars_of table) number (car_of held)
cars_added table number held = mapped-insert nat_cmp car_of nat_cmp_total nat_cmp-IsAntisymmetric table.current number held

pub cars_undone : (table : Snapped Held) (number : ℕ) (held : Held) → get table.current number ≡ None → cars_of (without (with_value table number held) number) ≡ cars_of table
cars_undone table number held none = ap (mapped car_of) (insert_undone table.current number held none)

-- a space where a car was opened
pub opened_view : (v : SpaceView) (cars : Cars) (sets : Sets) (queues : Queues) (trains : Trains) (train number : ℕ)
    → cars ≡ insert v.cars number (new_car number) → sets ≡ insert v.sets number empty → queues ≡ insert v.queues number [] → trains ≡ record v.trains { trains = appended train number v.trains.trains }
    → record v { cars = cars; sets = sets; queues = queues; trains = trains } ≡ with_car v train number
opened_view v cars sets queues trains train number cars_are sets_are queues_are trains_are = λ i. record v { cars = cars_are i; sets = sets_are i; queues = queues_are i; trains = trains_are i }

-- a space where nothing changed
pub same_view : (v : SpaceView) (cars : Cars) (sets : Sets) (queues : Queues) (trains : Trains) → cars ≡ v.cars → sets ≡ v.sets → queues ≡ v.queues → trains ≡ v.trains
    → record v { cars = cars; sets = sets; queues = queues; trains = trains } ≡ v
same_view v cars sets queues trains cars_are sets_are queues_are trains_are = λ i. record v { cars = cars_are i; sets = sets_are i; queues = queues_are i; trains = trains_are i }

-- links where those of a car were added keep the room of every other
pub kept_room : (old new : Linked) (number : ℕ) → remove new number ≡ old → KeepsRoom old new
kept_room old new number is = λ car count some room.
    ⊎_elim
    (λ (here : (number == car) ≡ true). absurd (none_is_not_some (get old car) (sym (ap (λ m. get m car) is) ∙ at_remove new number car ∙ cond-true _ _ _ here) some))
    (λ (differs : (number == car) ≡ false). subst (λ o. HasRoomOf o count) (sym (ap (λ m. get m car) is) ∙ at_remove new number car ∙ cond-false _ _ _ differs) room)
    (cases_Bool (number == car))

either_way : (m n : ℕ) → (m == n) ≡ (n == m)
either_way m n = grind (arith, nat_tests)

joined : {X Y : Type 0} (b : Bool) (x : X) (y : Y) (o : Option X) (p : Option Y) → is_some o ≡ is_some p → is_some (cond b (Some x) o) ≡ is_some (cond b (Some y) p)
joined true x y o p same = refl
joined false x y o p same = same

-- where a car was opened, each car that stands is in a train and has links, as before
pub linked_opened : (v : SpaceView) (train number : ℕ) → IsLinked v → IsSome (cars_at v.trains.trains train) → get v.cars number ≡ None → IsLinked (with_car v train number)
linked_opened v train number linked stands free = record {
  trains = λ car.
      ap is_some (home_appended train number v.trains.trains stands (not_some _ (linked.trains number ∙ ap is_some free)) car)
      ∙ ap (λ b. is_some (cond b (Some train) (train_of v.trains.trains car))) (either_way car number)
      ∙ joined (number == car) train (new_car number) (train_of v.trains.trains car) (get v.cars car) (linked.trains car)
      ∙ sym (ap is_some (at_insert v.cars number (new_car number) car));
  sets = λ car.
      ap is_some (at_insert v.sets number empty car)
      ∙ joined (number == car) empty (new_car number) (get v.sets car) (get v.cars car) (linked.sets car)
      ∙ sym (ap is_some (at_insert v.cars number (new_car number) car));
}

-- a new open train stands, and all is linked as before
pub new_train_stands : (ts : List Train) (number : ℕ) → number ≡ youngest ts + 1 → cars_at (rotated ts) number ≡ cars_with_open ts number → IsSome (cars_at (rotated ts) number)
new_train_stands ts number is law = subst IsSome (sym (law ∙ cond-true _ _ _ (eq-eqb number (youngest ts + 1) is))) refl

pub linked_in_new_train : (v : SpaceView) → IsLinked v → ((car : ℕ) → train_of (rotated v.trains.trains) car ≡ train_of v.trains.trains car) → IsLinked (in_new_train v)
linked_in_new_train v linked home = record { trains = λ car. ap is_some (home car) ∙ linked.trains car; sets = linked.sets }
