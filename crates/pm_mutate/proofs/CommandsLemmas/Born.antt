-- An object that is born in the car that was prepared for it.
use Rattle.std.proofs.Common.{◌≡◌, ℕ, ◌+◌, Bool, true, false, nat_le, if◌then◌else◌, refl, ap, subst, ◌∙◌, Option, Some, None}
use Rattle.std.specs.Ordering.{nat_cmp}
use Rattle.std.specs.FinMap.{FinMap, get, insert}
use Rattle.std.proofs.lemmas.Bool.{cond-true, eq-eqb}
use Rattle.pm_types.specs.declared.address.Addr.{Addr}
use Rattle.pm_types.specs.declared.object.Object.{Object}
use Rattle.pm_types.specs.declared.source.RefSource.TheVariants.{Handle}
use Rattle.pm_cars.specs.Cars.{Car, new_car, with_birth, object_room}
use Rattle.pm_trains.specs.Trains.{youngest}
use Rattle.pm_view.specs.View.{Cars, SpaceView}
use Rattle.pm_view.specs.Rows.{put_car, put_in, place_in, next_of, with_car, with_count, with_open_train, spent, spread, born, birthplace, IsVacant}
use Rattle.pm_law_commands.proofs.RowLemmas.News.{at_insert}
use Rattle.pm_space.specs.Shown.{in_new_train}
use Rattle.pm_space.specs.Places.{with_place, place_of}
use Rattle.pm_space.proofs.Linking.{insert_twice}
use Rattle.pm_mutate.specs.Commands.Births.{with_one_born, born_held, IsBornAt}
use Rattle.pm_mutate.specs.Births.Births.{open_tail, IsOpenedFor}

here : {X : Type 0} (m : FinMap nat_cmp X) (k : ℕ) (v : X) → get (insert m k v) k ≡ Some v
here m k v = at_insert m k v k ∙ cond-true _ _ _ (eq-eqb k k refl)

-- a car that was added, and then changed
put_new : (cars : Cars) (number : ℕ) (car : Car) (change : Car → Car) → put_car (insert cars number car) number (get (insert cars number car) number) change ≡ insert cars number (change car)
put_new cars number car change = ap (λ o. put_car (insert cars number car) number o change) (here cars number car) ∙ insert_twice cars number car (change car)

-- an object in the car that is given, or in the new one
placed : (u : SpaceView) (o : Option ℕ) (number : ℕ) (object : Object)
    → with_one_born (with_place u (youngest u.trains.trains) o number) (place_of o number) object ≡ with_count (put_in u (youngest u.trains.trains) o number object)
placed u None number object = λ i. with_count (record (with_car u (youngest u.trains.trains) number) { cars = put_new u.cars number (new_car number) (λ it. with_birth it object) i })
placed u (Some car) number object = refl

abbrev next_place : Cars → ℕ → Addr
next_place cars car = record { car = car; slot = next_of (get cars car) }

place_is : (u : SpaceView) (o : Option ℕ) (number : ℕ) → next_place (with_place u (youngest u.trains.trains) o number).cars (place_of o number) ≡ place_in u.cars o number
place_is u None number = λ i. record { car = number; slot = next_of (here u.cars number (new_car number) i) }
place_is u (Some car) number = refl

-- ---- the next identity was given before or after

put_later : (u : SpaceView) (o : Option ℕ) (number next : ℕ) (object : Object)
    → record (with_count (put_in u (youngest u.trains.trains) o number object)) { next = next } ≡ with_count (put_in (record u { next = next }) (youngest u.trains.trains) o number object)
put_later u None number next object = refl
put_later u (Some car) number next object = refl

abbrev opened_if : SpaceView → Bool → SpaceView
opened_if view b = if b then in_new_train view else view

born_later : (v : SpaceView) (b : Bool) (number : ℕ) (object : Object)
    → record (with_count (put_in (opened_if v b) (youngest (opened_if v b).trains.trains) (open_tail (opened_if v b) (object_room object)) number object)) { next = v.next + 1 }
    ≡ with_count (put_in (opened_if (spent v) b) (youngest (opened_if (spent v) b).trains.trains) (open_tail (opened_if (spent v) b) (object_room object)) number object)
born_later v true number object = put_later (in_new_train v) (open_tail (in_new_train v) (object_room object)) number (v.next + 1) object
born_later v false number object = put_later v (open_tail v (object_room object)) number (v.next + 1) object

at_later : (v : SpaceView) (b : Bool) (number : ℕ) (object : Object)
    → place_in (opened_if v b).cars (open_tail (opened_if v b) (object_room object)) number ≡ place_in (opened_if (spent v) b).cars (open_tail (opened_if (spent v) b) (object_room object)) number
at_later v true number object = refl
at_later v false number object = refl

cars_kept : (v : SpaceView) (b : Bool) → (opened_if v b).cars ≡ v.cars
cars_kept v true = refl
cars_kept v false = refl

registers_kept : (v : SpaceView) (b : Bool) (o : Option ℕ) (number : ℕ) (object : Object) → (with_count (put_in (opened_if v b) (youngest (opened_if v b).trains.trains) o number object)).registers ≡ v.registers
registers_kept v true None number object = refl
registers_kept v true (Some car) number object = refl
registers_kept v false None number object = refl
registers_kept v false (Some car) number object = refl

-- a birth leaves the registers
pub registers_born : (v : SpaceView) (number : ℕ) (object : Object) → (born v number object).registers ≡ v.registers
registers_born v number object = registers_kept v (nat_le 1024 v.trains.births) (open_tail (with_open_train v) (object_room object)) number object

-- the answer and the space after a birth
abbrev pub born_at : SpaceView → ℕ → Object → Addr × SpaceView
born_at v number object = (birthplace v number object, born v number object)

-- an object that is born in the car that was prepared for it is born as the row says
module _ (v w : SpaceView) (car : ℕ) (object : Object) (opened : IsOpenedFor (with_open_train v) (object_room object) w car) where
  abbrev open_view : SpaceView
  open_view = with_open_train v

  is_born : with_one_born w car object ≡ born v opened.number object
  is_born = (λ i. with_one_born (opened.space i) (opened.place i) object) ∙ placed open_view (open_tail open_view (object_room object)) opened.number object

  is_at : next_place w.cars car ≡ birthplace v opened.number object
  is_at = (λ i. next_place (opened.space i).cars (opened.place i)) ∙ place_is open_view (open_tail open_view (object_room object)) opened.number

  -- the number of the new car was that of no car before
  is_vacant : IsVacant v.cars opened.number
  is_vacant = subst (λ cars. IsVacant cars opened.number) (cars_kept v (nat_le 1024 v.trains.births)) opened.vacant

  pub born_so : (x : SpaceView) (at : Addr) → x ≡ with_one_born w car object → at ≡ next_place w.cars car → IsBornAt v object (at, x)
  born_so x at space place = let born = space ∙ is_born in let there = place ∙ is_at in (opened.number, is_vacant, λ i. (there i, born i))

-- the next identity was given before, and a register holds the object
pub born_seen : (v x : SpaceView) (client register reg number : ℕ) (object : Object) (at : Addr) → (at, x) ≡ born_at v number object → register ≡ reg
    → spread (record x { next = v.next + 1 }) (Handle client register) (Some at) ≡ born_held v client reg object number
born_seen v x client register reg number object at born same =
    let space = ap (λ (g : Addr × SpaceView). record g.1 { next = v.next + 1 }) born ∙ born_later v (nat_le 1024 v.trains.births) number object in
    let there = ap (λ (g : Addr × SpaceView). g.0) born ∙ at_later v (nat_le 1024 v.trains.births) number object in
    λ i. spread (space i) (Handle client (same i)) (Some (there i))
