-- A number that is used again while the train of its old car is doomed.
use Rattle.std.proofs.Common.{◌≡◌, ℕ, refl, ap, sym, ◌∙◌, [], ◌∷◌, Option, Some, None}
use Rattle.std.specs.Option.{unwrap_or, option_map, option_and_then}
use Rattle.std.specs.List.{find}
use Rattle.std.specs.Cmp.{nat_cmp_total}
use Rattle.std.specs.FinMap.{get, insert, empty, entries, get-insert, get-remove, get-empty, nat_cmp-IsAntisymmetric}
use Rattle.pm_types.specs.Orders.{source_cmp}
use Rattle.pm_types.proofs.Orders.{sources_total}
use Rattle.pm_types.specs.declared.object.Object.{Object}
use Rattle.pm_types.specs.declared.object.Slot.{Slot}
use Rattle.pm_types.specs.declared.object.Slot.TheVariants.{Live}
use Rattle.pm_types.specs.declared.source.RefSource.TheVariants.{Handle, Field}
use Rattle.pm_types.specs.declared.source.Change.{Change}
use Rattle.pm_cars.specs.Cars.{Car, object_of, without_slot}
use Rattle.pm_cars.specs.Entries.{holds_object}
use Rattle.pm_view.specs.View.{Sources, SpaceView}
use Rattle.pm_view.specs.Sources.{slot_in}
use Rattle.pm_view.specs.Law.{HeapLaw}
use Rattle.pm_view.specs.Reading.{field_of, object_at, slot_at}
use Rattle.pm_view.specs.Effective.{effective, effective_in}
use Rattle.pm_view.specs.Barrier.{pushed}
use Rattle.pm_view.specs.Rows.{put_car}
use Rattle.pm_view.specs.Candidates.{queue_of}
use Rattle.pm_view.specs.Collecting.{swept_some}
use Rattle.pm_view.specs.Events.{sweep, doomed_row, next_row, after}
use Rattle.pm_law_commands.specs.Row.Examples.{at}
use Rattle.pm_law_collect.specs.Traces.Wrong.{misled}
use Rattle.pm_law_collect.specs.Traces.Traces.{changed, with_one_field, bare_object, used_again}
use Rattle.pm_law_collect.proofs.TracesLemmas.Maps.{one_entry}

abbrev old_object : Object
old_object = with_one_field 3 (at 1 0) []

abbrev old_car : Car
old_car = record { number = 2; slots = insert empty 0 (Live old_object); next = 1 }

abbrev new_car : Car
new_car = record { number = 1; slots = insert empty 0 (Live (bare_object 5 [])); next = 1 }

abbrev held_set : Sources
held_set = insert empty (Handle 0 0) 0

abbrev withdrawal : Change
withdrawal = changed (Field (at 2 0) 0) None

old_there : get used_again.cars 2 ≡ Some old_car
old_there = get-insert nat_cmp_total (insert empty 2 old_car) 1 new_car 2 ∙ get-insert nat_cmp_total empty 2 old_car 2

set_there : get used_again.sets 1 ≡ Some held_set
set_there = get-insert nat_cmp_total (insert empty 2 empty) 1 held_set 1

queue_there : get used_again.queues 1 ≡ Some []
queue_there = get-insert nat_cmp_total (insert empty 2 []) 1 [] 1

object_there : object_at used_again.cars (at 2 0) ≡ Some old_object
object_there = ap (λ o. object_of (option_and_then (λ (car : Car). get car.slots 0) o)) old_there ∙ ap object_of (get-insert nat_cmp_total empty 0 (Live old_object) 0)

-- the object of the doomed car comes next
pub comes_next : next_row used_again ≡ sweep (at 2 0)
comes_next =
    ap (λ o. doomed_row 1 2 (option_and_then (λ (it : Car). option_map (λ (e : ℕ × Slot). e.0) (find (λ (e : ℕ × Slot). holds_object e.1) (entries it.slots))) o)) old_there
    ∙ ap (λ es. doomed_row 1 2 (option_map (λ (e : ℕ × Slot). e.0) (find (λ (e : ℕ × Slot). holds_object e.1) es))) (one_entry nat_cmp_total nat_cmp-IsAntisymmetric 0 (Live old_object))

-- the space after it
abbrev then_is : SpaceView
then_is = record used_again { cars = insert used_again.cars 2 (without_slot old_car 0); queues = insert used_again.queues 1 (withdrawal ∷ []) }

is_then : after used_again 0 0 (sweep (at 2 0)) ≡ then_is
is_then =
    ap (swept_some used_again (at 2 0)) object_there
    ∙ (λ i. record used_again { cars = put_car used_again.cars 2 (old_there i) (λ car. without_slot car 0); queues = pushed used_again.queues 1 (queue_there i) withdrawal })

queue_then : get then_is.queues 1 ≡ Some (withdrawal ∷ [])
queue_then = get-insert nat_cmp_total used_again.queues 1 (withdrawal ∷ []) 1

pub is_told : queue_of (after used_again 0 0 (sweep (at 2 0))) 1 ≡ withdrawal ∷ []
is_told = ap (λ (v : SpaceView). queue_of v 1) is_then ∙ ap (λ o. unwrap_or o []) queue_then

pub none_before : effective used_again 1 (Field (at 2 0) 0) ≡ None
none_before =
    (λ i. effective_in (set_there i) (queue_there i) (Field (at 2 0) 0))
    ∙ get-insert sources_total empty (Handle 0 0) 0 (Field (at 2 0) 0) ∙ get-empty source_cmp (Field (at 2 0) 0)

pub none_after : effective (after used_again 0 0 (sweep (at 2 0))) 1 (Field (at 2 0) 0) ≡ None
none_after =
    ap (λ (v : SpaceView). effective v 1 (Field (at 2 0) 0)) is_then
    ∙ (λ i. effective_in (set_there i) (queue_then i) (Field (at 2 0) 0))
    ∙ get-remove sources_total held_set (Field (at 2 0) 0) (Field (at 2 0) 0)

pub held_after : effective (after used_again 0 0 (sweep (at 2 0))) 1 (Handle 0 0) ≡ Some 0
held_after =
    ap (λ (v : SpaceView). effective v 1 (Handle 0 0)) is_then
    ∙ (λ i. effective_in (set_there i) (queue_then i) (Handle 0 0))
    ∙ get-remove sources_total held_set (Field (at 2 0) 0) (Handle 0 0)
    ∙ get-insert sources_total empty (Handle 0 0) 0 (Handle 0 0)

pub gone_after : slot_at (after used_again 0 0 (sweep (at 2 0))).cars (at 2 0) ≡ None
gone_after =
    ap (λ (v : SpaceView). slot_at v.cars (at 2 0)) is_then
    ∙ ap (option_and_then (λ (car : Car). get car.slots 0)) (get-insert nat_cmp_total used_again.cars 2 (without_slot old_car 0) 2)
    ∙ get-remove nat_cmp_total old_car.slots 0 0

-- ---- where the new car is told that the field names a slot

pub misled_breaks : HeapLaw misled → ⊥
misled_breaks law = absurd (none_some (sym (ap (λ o. slot_in 1 (field_of (object_of o) 0)) gone) ∙ (law.tied.holds 1 (Field (at 2 0) 0) 0 refl told).1))
  where
    told : effective misled 1 (Field (at 2 0) 0) ≡ Some 0
    told =
        (λ i. effective_in (set_there i) (get-insert nat_cmp_total used_again.queues 1 (changed (Field (at 2 0) 0) (Some 0) ∷ []) 1 i) (Field (at 2 0) 0))
        ∙ get-insert sources_total held_set (Field (at 2 0) 0) 0 (Field (at 2 0) 0)

    gone : slot_at misled.cars (at 2 0) ≡ None
    gone =
        ap (λ o. slot_at (put_car used_again.cars 2 o (λ car. without_slot car 0)) (at 2 0)) old_there
        ∙ ap (option_and_then (λ (car : Car). get car.slots 0)) (get-insert nat_cmp_total used_again.cars 2 (without_slot old_car 0) 2)
        ∙ get-remove nat_cmp_total old_car.slots 0 0

    none_some : ◌≡◌ {A = Option ℕ} None (Some 0) → ⊥
    none_some is = cc
