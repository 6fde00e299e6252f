-- The anchor of two objects that name each other over two cars.
use Rattle.std.proofs.Common.{◌≡◌, ℕ, ◌+◌, ◌*◌, ◌==◌, ◌&&◌, nat_le, if◌then◌else◌, false, cond, not, refl, ap, ◌∙◌, List, [], ◌∷◌, ◌++◌, map, length, Option, Some, None, is_some}
use Rattle.std.specs.Option.{unwrap_or, option_map, option_and_then}
use Rattle.std.specs.List.{find, filter, list_any, sum_by}
use Rattle.std.specs.Ordering.{nat_cmp}
use Rattle.std.specs.Cmp.{nat_cmp_total}
use Rattle.std.specs.FinMap.{get, insert, empty, entries, get-insert, entries-insert, nat_cmp-IsAntisymmetric}
use Rattle.std.specs.FinMap.Entries.{put}
use Rattle.pm_types.specs.declared.limits.TheConstants.{CAR_HEAD_BYTES, CAR_BYTES, LAST_SLOT}
use Rattle.pm_types.proofs.Orders.{sources_total, sources_antisymmetric}
use Rattle.pm_types.specs.declared.address.Addr.{Addr}
use Rattle.pm_types.specs.declared.object.Object.{Object}
use Rattle.pm_types.specs.declared.object.Slot.{Slot}
use Rattle.pm_types.specs.declared.object.Slot.TheVariants.{Live, Moved}
use Rattle.pm_types.specs.declared.source.RefSource.{RefSource}
use Rattle.pm_types.specs.declared.source.RefSource.TheVariants.{Root, Field}
use Rattle.pm_cars.specs.Cars.{Car, slot_room, object_room, object_of, new_car, with_birth}
use Rattle.pm_trains.specs.Trains.{Train, cars_at, is_among}
use Rattle.pm_view.specs.Sources.{lies_in}
use Rattle.pm_view.specs.View.{Cars, Sources, SpaceView}
use Rattle.pm_view.specs.Reading.{slot_at, object_at, resolve}
use Rattle.pm_view.specs.Rows.{with_slot_at, put_object, has_room, tail_for, place_in}
use Rattle.pm_view.specs.Collecting.{put_away, settled, moved_some}
use Rattle.pm_view.specs.Candidates.{set_of, queue_of, is_beyond, is_bare, least_outside}
use Rattle.pm_view.specs.Events.{start, move_anchor, move_on, has_change, changed_car, named_in, to_note, went, has_gone, to_fix, anchor_in, first_of, least, draining_row, moving_row, next_row, after, ways_out}
use Rattle.pm_law_commands.specs.Row.Examples.{at}
use Rattle.pm_law_commands.proofs.RowLemmas.Places.{slot_after, object_has_car}
use Rattle.pm_law_collect.specs.Traces.Traces.{with_one_field, bare_object, three, drained, second_pass}
use Rattle.pm_law_collect.proofs.TracesLemmas.Maps.{one_entry, two_entries}

-- the first object of a car of three
first_of_three : (n : ℕ) (to : Addr) (bytes : List ℕ) → get (three n to bytes).slots 0 ≡ Some (Live (with_one_field n to bytes))
first_of_three n to bytes =
    get-insert nat_cmp_total (insert (insert empty 0 (Live (with_one_field n to bytes))) 1 (Live (bare_object (n + 1) bytes))) 2 (Live (bare_object (n + 2) bytes)) 0
    ∙ get-insert nat_cmp_total (insert empty 0 (Live (with_one_field n to bytes))) 1 (Live (bare_object (n + 1) bytes)) 0
    ∙ get-insert nat_cmp_total empty 0 (Live (with_one_field n to bytes)) 0

-- what a space tells of a train that is collected, by what its maps give
module _ (view : SpaceView) (train : ℕ) where
  outside_in : (car : ℕ) (es : List (RefSource × ℕ)) → entries (set_of view car) ≡ es → least_outside view train car ≡ find (λ (e : RefSource × ℕ). is_beyond view.trains.trains train e.0) es
  outside_in car es is = ap (find (λ (e : RefSource × ℕ). is_beyond view.trains.trains train e.0)) is

-- a car that remembers one source, for a place that holds an object
module _ (view : SpaceView) (car : ℕ) (x : RefSource) (slot : ℕ) (w : Slot) (set : entries (set_of view car) ≡ (x, slot) ∷ []) (there : slot_at view.cars (record { car = car; slot = slot }) ≡ Some w) (stays : has_gone (went (Some w)) ≡ false) where
  pub nothing_stale : to_fix view car ≡ None
  nothing_stale =
      ap (λ es. option_and_then (λ (e : RefSource × ℕ). option_map (λ to. (e.0, to)) (went (slot_at view.cars (named_in car e)))) (find (λ (e : RefSource × ℕ). has_gone (went (slot_at view.cars (named_in car e)))) es)) set
      ∙ ap (λ b. option_and_then (λ (e : RefSource × ℕ). option_map (λ to. (e.0, to)) (went (slot_at view.cars (named_in car e)))) (cond b (Some (x, slot)) None)) (ap (λ o. has_gone (went o)) there ∙ stays)

  least_is : least view car ≡ Some (x, slot)
  least_is = ap first_of set

-- ---- the first pass

module _ (bytes : List ℕ) where
  abbrev now : SpaceView
  now = drained bytes

  abbrev one_set : Sources
  one_set = insert empty (Field (at 2 0) 0) 0

  abbrev two_set : Sources
  two_set = insert (insert empty (Field (at 1 0) 0) 0) (Root 0) 0

  no_queue_one : queue_of now 1 ≡ []
  no_queue_one = ap (λ o. unwrap_or o []) (get-insert nat_cmp_total (insert empty 1 []) 2 [] 1 ∙ get-insert nat_cmp_total empty 1 [] 1)

  no_queue_two : queue_of now 2 ≡ []
  no_queue_two = ap (λ o. unwrap_or o []) (get-insert nat_cmp_total (insert empty 1 []) 2 [] 2)

  set_one : entries (set_of now 1) ≡ (Field (at 2 0) 0, 0) ∷ []
  set_one =
      ap (λ o. entries (unwrap_or o empty)) (get-insert nat_cmp_total (insert empty 1 one_set) 2 two_set 1 ∙ get-insert nat_cmp_total empty 1 one_set 1)
      ∙ one_entry sources_total sources_antisymmetric (Field (at 2 0) 0) 0

  set_two : entries (set_of now 2) ≡ (Root 0, 0) ∷ (Field (at 1 0) 0, 0) ∷ []
  set_two =
      ap (λ o. entries (unwrap_or o empty)) (get-insert nat_cmp_total (insert empty 1 one_set) 2 two_set 2)
      ∙ two_entries sources_total sources_antisymmetric (Field (at 1 0) 0) (Root 0) 0 0

  none_changed : changed_car now 1 ≡ None
  none_changed = λ i. cond (has_change (no_queue_one i)) (Some 1) (cond (has_change (no_queue_two i)) (Some 2) None)

  outside_one : least_outside now 1 1 ≡ None
  outside_one = outside_in now 1 1 ((Field (at 2 0) 0, 0) ∷ []) set_one

  outside_two : least_outside now 1 2 ≡ Some (Root 0, 0)
  outside_two = outside_in now 1 2 ((Root 0, 0) ∷ (Field (at 1 0) 0, 0) ∷ []) set_two

  note : to_note now 1 ≡ Some (at 2 0)
  note =
      (λ i. option_and_then (λ car. option_map (named_in car) (least_outside now 1 car)) (cond (is_some (outside_one i)) (Some 1) (cond (is_some (outside_two i)) (Some 2) None)))
      ∙ ap (option_map (named_in 2)) outside_two

  pub noted : next_row now ≡ start 1 (at 2 0)
  noted = λ i. draining_row 1 (Some 1) (none_changed i) (note i)

  -- by which trains an object is named, by the entries of its car
  abbrev ways_by : List (RefSource × ℕ) → List ℕ
  ways_by es =
      let naming = map (λ (other : Train). other.number) (filter (λ (other : Train). not (other.number == 1) && list_any (λ (e : RefSource × ℕ). (e.1 == 0) && lies_in (λ car. is_among car other.cars) e.0) es) now.trains.trains) in
      if list_any (λ (e : RefSource × ℕ). (e.1 == 0) && is_bare e.0) es && not (is_among 2 naming) then naming ++ 2 ∷ [] else naming

  pub one_way : ways_out now (at 2 0) ≡ 2 ∷ []
  one_way = ap ways_by set_two

  abbrev begun : SpaceView
  begun = after now 2 0 (start 1 (at 2 0))

  object_one : slot_at now.cars (at 1 0) ≡ Some (Live (with_one_field 1 (at 2 0) bytes))
  object_one =
      ap (option_and_then (λ (car : Car). get car.slots 0))
      (get-insert nat_cmp_total (insert empty 1 (three 1 (at 2 0) bytes)) 2 (record (three 4 (at 1 0) bytes) { number = 2 }) 1 ∙ get-insert nat_cmp_total empty 1 (three 1 (at 2 0) bytes) 1)
      ∙ first_of_three 1 (at 2 0) bytes

  pub goes_on : next_row begun ≡ move_on (at 1 0) 1
  goes_on = λ i. moving_row 1 1 (no_queue_one i) (nothing_stale begun 1 (Field (at 2 0) 0) 0 (Live (with_one_field 1 (at 2 0) bytes)) set_one object_one refl i) None (outside_one i) (least_is begun 1 (Field (at 2 0) 0) 0 (Live (with_one_field 1 (at 2 0) bytes)) set_one object_one refl i)

  -- ---- the object goes to a new car, since the last car of its train is full

  abbrev first_object : Object
  first_object = with_one_field 1 (at 2 0) bytes

  abbrev last_car : Car
  last_car = record (three 4 (at 1 0) bytes) { number = 2 }

  car_two : get now.cars 2 ≡ Some last_car
  car_two = get-insert nat_cmp_total (insert empty 1 (three 1 (at 2 0) bytes)) 2 last_car 2

  slots_two : entries last_car.slots ≡ (0, Live (with_one_field 4 (at 1 0) bytes)) ∷ (1, Live (bare_object 5 bytes)) ∷ (2, Live (bare_object 6 bytes)) ∷ []
  slots_two =
      entries-insert nat_cmp_total (insert (insert empty 0 (Live (with_one_field 4 (at 1 0) bytes))) 1 (Live (bare_object 5 bytes))) 2 (Live (bare_object 6 bytes))
      ∙ ap (put nat_cmp 2 (Live (bare_object 6 bytes))) (two_entries nat_cmp_total nat_cmp-IsAntisymmetric 0 1 (Live (with_one_field 4 (at 1 0) bytes)) (Live (bare_object 5 bytes)))

  no_room : length bytes ≡ 4096 → tail_for begun 1 (object_room first_object) ≡ None
  no_room is =
      ap (option_and_then (λ (car : Car). if has_room car (object_room first_object) then Some 2 else None)) car_two
      ∙ ap (λ es. if nat_le (CAR_HEAD_BYTES + sum_by slot_room (map (λ (e : ℕ × Slot). e.1) es) + object_room first_object) CAR_BYTES && nat_le 3 LAST_SLOT then Some 2 else None) slots_two
      ∙ ap (λ n. if nat_le (CAR_HEAD_BYTES + (0 + (17 + 12 * 1 + n) + (17 + 12 * 0 + n) + (17 + 12 * 0 + n)) + (17 + 12 * 1 + n)) CAR_BYTES && nat_le 3 LAST_SLOT then Some 2 else None) is

  object_there : object_at now.cars (at 1 0) ≡ Some first_object
  object_there = ap object_of object_one

  -- the space after it, by the tail that is found
  abbrev away : Option ℕ → SpaceView
  away d = settled (put_away begun (at 1 0) d 1 3 first_object) (at 1 0) (place_in begun.cars d 3) first_object

  is_away : length bytes ≡ 4096 → after begun 0 3 (move_on (at 1 0) 1) ≡ away None
  is_away is = ap (moved_some begun (at 1 0) 1 3) object_there ∙ ap away (no_room is)

  pub new_last_car : length bytes ≡ 4096 → cars_at (after begun 0 3 (move_on (at 1 0) 1)).trains.trains 1 ≡ Some (1 ∷ 2 ∷ 3 ∷ [])
  new_last_car is = ap (λ (v : SpaceView). cars_at v.trains.trains 1) (is_away is)

  -- its slot tells where it went
  abbrev put_cars : Cars
  put_cars = insert now.cars 3 (with_birth (new_car 3) first_object)

  car_one : get put_cars 1 ≡ Some (three 1 (at 2 0) bytes)
  car_one =
      get-insert nat_cmp_total now.cars 3 (with_birth (new_car 3) first_object) 1
      ∙ get-insert nat_cmp_total (insert empty 1 (three 1 (at 2 0) bytes)) 2 last_car 1 ∙ get-insert nat_cmp_total empty 1 (three 1 (at 2 0) bytes) 1

  apart_slot : (cars : Cars) (change : Object → Object) (o : Option Object) → object_at cars (at 3 0) ≡ o → slot_at (put_object cars (at 3 0) o change) (at 1 0) ≡ slot_at cars (at 1 0)
  apart_slot cars change None there = refl
  apart_slot cars change (Some object) there = slot_after cars (at 3 0) (Live (change object)) (object_has_car cars (at 3 0) object there) (at 1 0)

  pub slot_tells : length bytes ≡ 4096 → slot_at (after begun 0 3 (move_on (at 1 0) 1)).cars (at 1 0) ≡ Some (Moved (at 3 0))
  slot_tells is =
      let cars = with_slot_at put_cars (at 1 0) (Moved (at 3 0)) in
      ap (λ (v : SpaceView). slot_at v.cars (at 1 0)) (is_away is)
      ∙ apart_slot cars (λ it. record it { fields = map (option_map (resolve (put_away begun (at 1 0) None 1 3 first_object))) first_object.fields }) (object_at cars (at 3 0)) refl
      ∙ slot_after put_cars (at 1 0) (Moved (at 3 0)) (ap is_some car_one) (at 1 0)

-- ---- the second pass

module _ (bytes : List ℕ) (anchor : Option (Addr × ℕ)) where
  abbrev later : SpaceView
  later = second_pass bytes anchor

  abbrev second_set : Sources
  second_set = insert empty (Field (at 3 0) 0) 0

  abbrev third_set : Sources
  third_set = insert (insert empty (Field (at 2 0) 0) 0) (Root 0) 0

  no_queue : queue_of later 2 ≡ []
  no_queue = ap (λ o. unwrap_or o []) (get-insert nat_cmp_total (insert empty 2 []) 3 [] 2 ∙ get-insert nat_cmp_total empty 2 [] 2)

  set_is : entries (set_of later 2) ≡ (Field (at 3 0) 0, 0) ∷ []
  set_is =
      ap (λ o. entries (unwrap_or o empty)) (get-insert nat_cmp_total (insert empty 2 second_set) 3 third_set 2 ∙ get-insert nat_cmp_total empty 2 second_set 2)
      ∙ one_entry sources_total sources_antisymmetric (Field (at 3 0) 0) 0

  abbrev third_car : Car
  third_car = record { number = 3; slots = insert empty 0 (Live (with_one_field 1 (at 2 0) bytes)); next = 1 }

  object_four : slot_at later.cars (at 2 0) ≡ Some (Live (with_one_field 4 (at 3 0) bytes))
  object_four =
      ap (option_and_then (λ (car : Car). get car.slots 0))
      (get-insert nat_cmp_total (insert empty 2 (record (three 4 (at 3 0) bytes) { number = 2 })) 3 third_car 2 ∙ get-insert nat_cmp_total empty 2 (record (three 4 (at 3 0) bytes) { number = 2 }) 2)
      ∙ first_of_three 4 (at 3 0) bytes

  second_row : next_row later ≡ moving_row 2 1 [] None (anchor_in 2 anchor) None (Some (Field (at 3 0) 0, 0))
  second_row = λ i. moving_row 2 1 (no_queue i) (nothing_stale later 2 (Field (at 3 0) 0) 0 (Live (with_one_field 4 (at 3 0) bytes)) set_is object_four refl i) (anchor_in 2 anchor)
      (outside_in later 1 2 ((Field (at 3 0) 0, 0) ∷ []) set_is i) (least_is later 2 (Field (at 3 0) 0) 0 (Live (with_one_field 4 (at 3 0) bytes)) set_is object_four refl i)

pub anchor_leaves : (bytes : List ℕ) → next_row (second_pass bytes (Some (at 2 0, 2))) ≡ move_anchor (at 2 0) 2
anchor_leaves bytes = second_row bytes (Some (at 2 0, 2))

pub without_anchor : (bytes : List ℕ) → next_row (second_pass bytes None) ≡ move_on (at 2 0) 1
without_anchor bytes = second_row bytes None
