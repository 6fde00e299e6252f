-- The reports of two spaces, computed.
use Rattle.std.proofs.Common.{◌≡◌, ℕ, ◌+◌, List, [], ◌∷◌, ◌++◌, refl, ap, sym, ◌∙◌, length, map, codes, decimal, lit<, lit≤, Option, Some, arith}
use Rattle.std.specs.List.{sum_by}
use Rattle.std.specs.Option.{unwrap_or}
use Rattle.std.specs.declared.cmp.Ordering.{Ordering}
use Rattle.std.specs.Cmp.{IsTotalOrder, nat_cmp_total}
use Rattle.std.specs.Cmp.Lexicographic.{nat_list_cmp_total}
use Rattle.std.specs.FinMap.{get, len, insert, empty, entries, get-insert, len-empty, len-entries, entries-insert}
use Rattle.std.specs.FinMap.Entries.{put}
use Rattle.std.proofs.lemmas.Fmt.{decimal_digit, decimal_step}
use Rattle.pm_types.proofs.Orders.{sources_total}
use Rattle.pm_types.specs.declared.object.Slot.{Slot}
use Rattle.pm_types.specs.declared.object.Slot.TheVariants.{Live}
use Rattle.pm_types.specs.declared.source.RefSource.TheVariants.{Root}
use Rattle.pm_cars.specs.Cars.{one_live, one_moved, slot_room, live_count, moved_count, used}
use Rattle.pm_law_commands.specs.Row.Examples.{at}
use Rattle.pm_view.specs.View.{Sources}
use Rattle.pm_view.specs.Candidates.{set_of, queue_of}
use Rattle.pm_view.specs.Counts.{live_in}
use Rattle.pm_inspect.specs.Report.{line_of_car, car_line}
use Rattle.pm_inspect.specs.Example.{first_object, first_car, one_object}

pub zero_text : decimal 0 ≡ codes "0"
zero_text = decimal_digit 0 (lit< tt)

pub one_text : decimal 1 ≡ codes "1"
one_text = decimal_digit 1 (lit< tt)

pub two_text : decimal 2 ≡ codes "2"
two_text = decimal_digit 2 (lit< tt)

fifty_seven_text : decimal 57 ≡ codes "57"
fifty_seven_text = decimal_step 57 (lit≤ tt) (lit< tt) ∙ ap (λ (w : List ℕ). w ++ codes "7") (decimal_digit 5 (lit< tt))

no_length : {A : Type 0} (xs : List A) → length xs ≡ 0 → xs ≡ []
no_length [] is = refl
no_length (x ∷ xs) is = absurd (omega (arith, is))

module _ {K X : Type 0} {R : K → K → Ordering} (total : IsTotalOrder R) where
  no_entries : entries (empty {X = X} {R = R}) ≡ []
  no_entries = no_length (entries (empty {X = X} {R = R})) (sym (len-entries (empty {X = X} {R = R})) ∙ len-empty R X)

  -- the entries of a map of one entry
  one_entry : (k : K) (v : X) → entries (insert (empty {X = X} {R = R}) k v) ≡ (k, v) ∷ []
  one_entry k v = entries-insert total empty k v ∙ ap (put R k v) no_entries

  one_long : (k : K) (v : X) → len (insert (empty {X = X} {R = R}) k v) ≡ 1
  one_long k v = len-entries (insert (empty {X = X} {R = R}) k v) ∙ ap length (one_entry k v)

-- a sum over the slots of the car
summed : (f : Slot → ℕ) → sum_by f (map (λ e. e.1) (entries first_car.slots)) ≡ 0 + f (Live first_object)
summed f = ap (λ es. sum_by f (map (λ e. e.1) es)) (one_entry nat_cmp_total 0 (Live first_object))

is_live : live_count first_car ≡ 1
is_live = summed one_live

is_moved : moved_count first_car ≡ 0
is_moved = summed one_moved

is_used : used first_car ≡ 57
is_used = ap (λ n. 14 + n) (summed slot_room)

there : get one_object.cars 1 ≡ Some first_car
there = get-insert nat_cmp_total empty 1 first_car 1

remembers : len (set_of one_object 1) ≡ 1
remembers = ap (λ (o : Option Sources). len (unwrap_or o empty)) (get-insert nat_cmp_total empty 1 (insert empty (Root 0) 0) 1) ∙ one_long sources_total (Root 0) 0

waits : length (queue_of one_object 1) ≡ 0
waits = ap (λ o. length (unwrap_or o [])) (get-insert nat_cmp_total empty 1 [] 1)

-- the line of the car
pub first_line : car_line one_object 1 ≡ codes "car 1 1 0 57 1 0\n"
first_line = ap (line_of_car one_object 1) there ∙ rw (is_live, is_moved, is_used, remembers, waits, one_text, zero_text, fifty_seven_text) refl

-- its objects
pub first_live : live_in (get one_object.cars 1) ≡ 1
first_live = ap live_in there ∙ is_live

-- the names
pub first_names : len one_object.roots ≡ 1
first_names = one_long nat_list_cmp_total (codes "a") (0, at 1 0)
