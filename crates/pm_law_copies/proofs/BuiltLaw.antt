-- A space that is built keeps the heap law.
use Rattle.std.proofs.Common.{◌≡◌, ℕ, suc, ◌+◌, ◌<◌, ◌≤◌, ◌==◌, Bool, true, false, cond, refl, ap, sym, subst, ◌∙◌, List, [], ◌∷◌, map, length, Option, Some, None, arith, is_some}
use Rattle.std.specs.Option.{option_and_then, option_map}
use Rattle.std.specs.List.{AllByRecursion, count_by, sum_by, slice_get}
use Rattle.std.specs.Ordering.{nat_cmp, eq_by_cmp}
use Rattle.std.specs.FinMap.{FinMap, get, entries, get-entries, get-empty, len, len-empty, len-insert, from_entries, get-from_entries, contains_key, nat_cmp-IsAntisymmetric}
use Rattle.std.specs.FinMap.Entries.{find, is_some-find}
use Rattle.std.proofs.lemmas.Cmp.{nat_cmp_total}
use Rattle.std.proofs.lemmas.Bool.{eqb-true}
use Rattle.std.proofs.lemmas.Map.Views.{tells_apart}
use Rattle.std.proofs.lemmas.List.Sums.{sum_by-cons}
use Rattle.std.proofs.lemmas.Option.{same_Some}
use Rattle.pm_types.proofs.Mapped.{get-mapped, len-mapped}
use Rattle.pm_types.specs.Orders.{name_cmp, place_cmp}
use Rattle.pm_types.proofs.Orders.{names_total}
use Rattle.pm_types.specs.declared.address.Addr.{Addr}
use Rattle.pm_types.specs.declared.object.Object.{Object}
use Rattle.pm_types.specs.declared.object.Slot.{Slot}
use Rattle.pm_types.specs.declared.object.Slot.TheVariants.{Live, Moved}
use Rattle.pm_types.specs.declared.source.RefSource.{RefSource}
use Rattle.pm_types.specs.declared.source.RefSource.TheVariants.{Root, Handle, Field}
use Rattle.pm_cars.specs.Cars.{Car, one_moved, look_of, object_of}
use Rattle.pm_cars.specs.declared.look.Look.TheVariants as looks
use Rattle.pm_trains.specs.Trains.{Trains, is_among, train_of}
use Rattle.pm_trains.specs.Sound as line
use Rattle.pm_view.specs.View.{SpaceView}
use Rattle.pm_view.specs.Reading.{slot_at, object_at, field_of, stored}
use Rattle.pm_view.specs.Law.{IsCar, HeapLaw}
use Rattle.pm_law_commands.proofs.RowLemmas.Numbers.{owner}
use Rattle.pm_copies.specs.Built.{Placed, built_cars, place_of, CarsDiffer, IsFull, MayBuild, IsBuiltOf}
use Rattle.pm_law_copies.proofs.Fresh.{IsMade, fresh_law}
use Rattle.pm_law_copies.proofs.OpenedLaw.{all_found, flat_from}
use Rattle.pm_law_copies.proofs.OpenedTrains.{cars_in, among_keys, in_trains, line_sound}

-- the cars as entries of a map
abbrev rows : List Placed → List (ℕ × Car)
rows placed = map (λ (one : Placed). (one.1.number, one.1)) placed

-- ---- cars

-- a car that is found has its number, and is one of these
car_from : (P : Car → Type 0) (placed : List Placed) (n : ℕ) (car : Car) → AllByRecursion (λ (one : Placed). P one.1) placed → find nat_cmp n (rows placed) ≡ Some car → (car.number ≡ n) × P car
car_from P [] n car all is = cc
car_from P (one ∷ placed) n car all is = elim (eq_by_cmp nat_cmp n one.1.number) as (λ b. eq_by_cmp nat_cmp n one.1.number ≡ b → cond b (Some one.1) (find nat_cmp n (rows placed)) ≡ Some car → (car.number ≡ n) × P car) [
  | true ↦ λ tied is.
      let same = same_Some one.1 car is in
      (ap (λ (car : Car). car.number) (sym same) ∙ sym (tells_apart nat_cmp-IsAntisymmetric n one.1.number tied), subst P same all.0)
  | false ↦ λ apart is. car_from P placed n car all.1 is
] refl is

same_numbers : (placed : List Placed) → map (λ (e : ℕ × Car). e.0) (rows placed) ≡ cars_in (map place_of placed)
same_numbers [] = refl
same_numbers (one ∷ placed) = ap (λ rest. one.1.number ∷ rest) (same_numbers placed)

none_placed : (n : ℕ) (placed : List Placed) → AllByRecursion (λ (other : Placed). (other.1.number == n) ≡ false) placed → count_by (λ c. c == n) (cars_in (map place_of placed)) ≡ 0
none_placed n [] all = refl
none_placed n (one ∷ placed) all =
    sum_by-cons (λ c. cond (c == n) 1 0) one.1.number (cars_in (map place_of placed))
    ∙ (λ i. cond (all.0 i) 1 0 + none_placed n placed all.1 i)

once_placed : (placed : List Placed) → CarsDiffer placed → (n : ℕ) → count_by (λ c. c == n) (cars_in (map place_of placed)) ≤ 1
once_placed [] differ n = omega arith
once_placed (one ∷ placed) differ n = subst (λ m. m ≤ 1) (sym (sum_by-cons (λ c. cond (c == n) 1 0) one.1.number (cars_in (map place_of placed)))) (elim (one.1.number == n) as (λ b. (one.1.number == n) ≡ b → cond b 1 0 + count_by (λ c. c == n) (cars_in (map place_of placed)) ≤ 1) [
  | true ↦ λ here. let none = ap (λ m. count_by (λ c. c == m) (cars_in (map place_of placed))) (sym (eqb-true one.1.number n here)) ∙ none_placed one.1.number placed differ.0 in omega (arith, none)
  | false ↦ λ there. let rest = once_placed placed differ.1 n in omega (arith, rest)
] refl)

-- ---- slots

moved_counted : (es : List (ℕ × Slot)) (s : ℕ) (b : Addr) → find nat_cmp s es ≡ Some (Moved b) → 1 ≤ sum_by one_moved (map (λ (e : ℕ × Slot). e.1) es)
moved_counted [] s b is = cc
moved_counted (e ∷ es) s b is = subst (λ n. 1 ≤ n) (sym (sum_by-cons one_moved e.1 (map (λ (e : ℕ × Slot). e.1) es))) (elim (eq_by_cmp nat_cmp s e.0) as (λ c. cond c (Some e.1) (find nat_cmp s es) ≡ Some (Moved b) → 1 ≤ one_moved e.1 + sum_by one_moved (map (λ (e : ℕ × Slot). e.1) es)) [
  | true ↦ λ is. let one = ap one_moved (same_Some e.1 (Moved b) is) in omega (arith, one)
  | false ↦ λ is. let later = moved_counted es s b is in omega (arith, later)
] is)

moved_from : (o : Option Slot) (b : Addr) → look_of o ≡ looks.Moved b → (to : Addr) × (o ≡ Some (Moved to))
moved_from None b is = cc
moved_from (Some (Live object)) b is = cc
moved_from (Some (Moved to)) b is = (to, refl)

live_from : (o : Option Slot) → is_some (object_of o) ≡ true → look_of o ≡ looks.Live
live_from None some = cc
live_from (Some (Live object)) some = refl
live_from (Some (Moved to)) some = cc

-- ---- maps of entries

few_entries : {X : Type 0} (es : List (List ℕ × X)) → len (from_entries {R = name_cmp} es) ≤ length es
few_entries {X = X} [] = let none = len-empty name_cmp X in omega (arith, none)
few_entries (e ∷ es) = subst (λ n. n ≤ suc (length es)) (sym (len-insert names_total (from_entries {R = name_cmp} es) e.0 e.1)) (one_more (contains_key (from_entries {R = name_cmp} es) e.0) (len (from_entries {R = name_cmp} es)) (length es) (few_entries es))
  where
    one_more : (b : Bool) (n m : ℕ) → n ≤ m → cond b n (n + 1) ≤ suc m
    one_more true n m few = omega (arith, few)
    one_more false n m few = omega (arith, few)

-- ---- the law

module _ (placed : List Placed) (named : List (List ℕ × Addr)) (next_id : ℕ) (view : SpaceView) (may : MayBuild placed named next_id) (built : IsBuiltOf placed named next_id view) where
  car_there : (n : ℕ) (car : Car) → get view.cars n ≡ Some car → (car.number ≡ n) × IsFull car
  car_there n car is = car_from IsFull placed n car may.cars (sym (get-from_entries nat_cmp_total (rows placed) n) ∙ ap (λ cars. get cars n) (sym built.cars) ∙ is)

  car_is : (n : ℕ) (car : Car) → get view.cars n ≡ Some car → IsCar view n car
  car_is n car is =
      let there = car_there n car is in
      record {
        numbered = there.0;
        from_one = subst (λ m. 0 < m) there.0 there.1.from_one;
        sound = there.1.sound;
        live = λ not_from free. there.1.live;
        moved = λ not_from. there.1.moved;
      }

  linked : (n : ℕ) → is_some (train_of view.trains.trains n) ≡ is_some (get view.cars n)
  linked n =
      ap (λ (trains : Trains). is_some (train_of trains.trains n)) built.trains
      ∙ in_trains (map place_of placed) n
      ∙ ap (is_among n) (sym (same_numbers placed))
      ∙ sym (ap (λ cars. is_some (get cars n)) built.cars
      ∙ ap is_some (get-from_entries nat_cmp_total (rows placed) n)
      ∙ is_some-find nat_cmp n (rows placed)
      ∙ among_keys n (map (λ (e : ℕ × Car). e.0) (rows placed)))

  object_same : (a : Addr) → object_at view.cars a ≡ object_at (built_cars placed) a
  object_same a = ap (λ cars. object_at cars a) built.cars

  live_here : (a : Addr) → is_some (object_at (built_cars placed) a) ≡ true → look_of (slot_at view.cars a) ≡ looks.Live
  live_here a some = live_from (slot_at view.cars a) (ap is_some (object_same a) ∙ some)

  root_here : (name : List ℕ) (bound : ℕ × Addr) → get view.roots name ≡ Some bound → look_of (slot_at view.cars bound.1) ≡ looks.Live
  root_here name bound is =
      let found = sym (get-from_entries names_total named name) ∙ ap (λ (m : FinMap name_cmp Addr). get m name) (sym built.roots) ∙ get-mapped name_cmp (λ (bound : ℕ × Addr). bound.1) view.roots name ∙ ap (option_map (λ (bound : ℕ × Addr). bound.1)) is in
      live_here bound.1 (all_found (λ a. is_some (object_at (built_cars placed) a) ≡ true) named name bound.1 may.roots found)

  field_here : (b : Addr) (i : ℕ) (a : Addr) (o : Option Object) → object_at view.cars b ≡ o → field_of o i ≡ Some a → look_of (slot_at view.cars a) ≡ looks.Live
  field_here b i a None is field = cc
  field_here b i a (Some object) is field = live_here a (may.fields b object i a (sym (object_same b) ∙ is) (flat_from (slice_get object.fields i) a field))

  stored_here : (x : RefSource) (a : Addr) → stored view x ≡ Some a → look_of (slot_at view.cars a) ≡ looks.Live
  stored_here (Root number) a is = let name = owner view.roots number a is in root_here name.0 (number, a) name.1
  stored_here (Handle client register) a is = let clash : None ≡ Some a = sym (ap (λ registers. get registers (client, register)) built.fresh.registers ∙ get-empty place_cmp (client, register)) ∙ is in cc
  stored_here (Field b i) a is = field_here b i a (object_at view.cars b) refl is

  none_moved : (a b : Addr) → look_of (slot_at view.cars a) ≡ looks.Moved b → ⊥
  none_moved a b is = in_car (get view.cars a.car) refl is
    where
      in_car : (o : Option Car) → get view.cars a.car ≡ o → look_of (option_and_then (λ (car : Car). get car.slots a.slot) o) ≡ looks.Moved b → ⊥
      in_car None here is = let clash : looks.Gone ≡ looks.Moved b = is in cc
      in_car (Some car) here is =
          let to = moved_from (get car.slots a.slot) b is in
          let one = moved_counted (entries car.slots) a.slot to.0 (sym (get-entries car.slots a.slot) ∙ to.1) in
          let none = (car_there a.car car here).1.moved in
          omega (arith, one, none)

  AreSound : Trains → Type 0
  AreSound trains = line.AreSoundTrains trains

  made : IsMade next_id view
  unfolding AreSound
  made = record {
    trains = subst AreSound (sym built.trains) (line_sound (map place_of placed) (once_placed placed may.differ));
    births = ap (λ (trains : Trains). trains.births) built.trains;
    linked = linked;
    cars = car_is;
    objects = λ a object is.
        let given = may.objects a object (sym (object_same a) ∙ is) in
        record { first = given.first; given = subst (λ n. object.id < n) (sym built.fresh.next) given.given; fields = given.fields; bytes = given.bytes };
    apart = λ a b o p at_a at_b same. may.apart a b o p (sym (object_same a) ∙ at_a) (sym (object_same b) ∙ at_b) same;
    next = may.next;
    few =
        let same = sym (len-mapped name_cmp (λ (bound : ℕ × Addr). bound.1) view.roots) ∙ ap (λ (m : FinMap name_cmp Addr). len m) built.roots in
        let few = few_entries named in
        let most = may.few in
        omega (arith, same, few, most);
    here = stored_here;
    still = none_moved;
  }

  -- a space that is built of such cars and roots keeps the heap law
  pub built_law : HeapLaw view
  built_law = fresh_law next_id view built.fresh made
