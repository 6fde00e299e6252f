-- Events that come too early.
use Rattle.std.proofs.Common.{◌≡◌, ℕ, refl, ap, sym, subst, ◌∙◌, [], ◌∷◌, Option, Some, None, is_some, arith}
use Rattle.std.specs.Option.{unwrap_or, option_map, option_and_then}
use Rattle.std.specs.Cmp.{nat_cmp_total}
use Rattle.std.specs.FinMap.{get, insert, empty, entries, get-insert}
use Rattle.std.proofs.lemmas.Bool.{true≢false}
use Rattle.pm_types.specs.Orders.{place_cmp}
use Rattle.pm_types.proofs.Orders.{places_total, sources_total, sources_antisymmetric}
use Rattle.pm_types.specs.declared.address.Addr.{Addr}
use Rattle.pm_types.specs.declared.object.Object.{Object}
use Rattle.pm_types.specs.declared.object.Slot.TheVariants.{Live, Moved}
use Rattle.pm_types.specs.declared.source.RefSource.TheVariants.{Handle}
use Rattle.pm_cars.specs.Cars.{Car, object_of, new_car, with_birth}
use Rattle.pm_model.specs.World.{World}
use Rattle.pm_view.specs.View.{Cars, SpaceView}
use Rattle.pm_view.specs.Reading.{slot_at, object_at, followed}
use Rattle.pm_view.specs.Law.{HeapLaw}
use Rattle.pm_view.specs.Represents.{names, Represents}
use Rattle.pm_view.specs.Rows.{with_slot_at, put_object, place_in}
use Rattle.pm_view.specs.Candidates.{set_of, queue_of, least_outside}
use Rattle.pm_view.specs.Collecting.{finished, fixed, put_away, settled, moved_some}
use Rattle.pm_view.specs.Events.{apply, move_anchor, move_out, to_fix, least, moving_row, next_row, after}
use Rattle.pm_law_commands.specs.Row.Examples.{at}
use Rattle.pm_law_commands.proofs.RowLemmas.Places.{slot_after, object_has_car}
use Rattle.pm_law_collect.specs.Traces.Traces.{bare_object, changed}
use Rattle.pm_law_collect.specs.Traces.Wrong.{single, unheard, anchored, newer}
use Rattle.pm_law_collect.proofs.TracesLemmas.Maps.{one_entry}
use Rattle.pm_law_collect.proofs.TracesLemmas.Futile.{nothing_stale}

-- ---- a car that is swept while a change is queued for it

unheard_queue : queue_of unheard 1 ≡ changed (Handle 0 0) (Some 0) ∷ []
unheard_queue = ap (λ o. unwrap_or o []) (get-insert nat_cmp_total empty 1 (changed (Handle 0 0) (Some 0) ∷ []) 1)

pub hears_first : next_row unheard ≡ apply 1
hears_first = ap (λ q. moving_row 1 1 q (to_fix unheard 1) None (least_outside unheard 1 1) (least unheard 1)) unheard_queue

held : get (insert (empty {R = place_cmp}) (0, 0) (at 1 0)) (0, 0) ≡ Some (at 1 0)
held = get-insert places_total empty (0, 0) (at 1 0) (0, 0)

pub swept_too_early : HeapLaw (finished unheard 1) → ⊥
swept_too_early law = true≢false (law.tied.leads (Handle 0 0) (at 1 0) refl held).0

-- ---- a source that is fixed while a change is queued

abbrev two : Car
two = record { number = 2; slots = insert (insert empty 0 (Live (bare_object 1 []))) 1 (Live (bare_object 2 [])); next = 2 }

abbrev one : Car
one = record { number = 1; slots = insert empty 0 (Moved (at 2 0)); next = 1 }

newer_queue : queue_of newer 1 ≡ changed (Handle 0 0) None ∷ []
newer_queue =
    ap (λ o. unwrap_or o [])
    (get-insert nat_cmp_total (insert empty 1 (changed (Handle 0 0) None ∷ [])) 2 (changed (Handle 0 0) (Some 1) ∷ []) 1 ∙ get-insert nat_cmp_total empty 1 (changed (Handle 0 0) None ∷ []) 1)

pub newer_first : next_row newer ≡ apply 1
newer_first = ap (λ q. moving_row 1 1 q (to_fix newer 1) None (least_outside newer 1 1) (least newer 1)) newer_queue

car_two : get newer.cars 2 ≡ Some two
car_two = get-insert nat_cmp_total (insert empty 1 one) 2 two 2

first_slot : slot_at newer.cars (at 2 0) ≡ Some (Live (bare_object 1 []))
first_slot =
    ap (option_and_then (λ (car : Car). get car.slots 0)) car_two
    ∙ get-insert nat_cmp_total (insert empty 0 (Live (bare_object 1 []))) 1 (Live (bare_object 2 [])) 0 ∙ get-insert nat_cmp_total empty 0 (Live (bare_object 1 [])) 0

second_slot : slot_at newer.cars (at 2 1) ≡ Some (Live (bare_object 2 []))
second_slot =
    ap (option_and_then (λ (car : Car). get car.slots 1)) car_two
    ∙ get-insert nat_cmp_total (insert empty 0 (Live (bare_object 1 []))) 1 (Live (bare_object 2 [])) 1

-- the identity to which an address of a Live slot leads
live_name : (a : Addr) (object : Object) → slot_at newer.cars a ≡ Some (Live object) → names newer (Some a) ≡ Some object.id
live_name a object is =
    ap (λ o. option_map (λ (o : Object). o.id) (object_of (slot_at newer.cars (followed o a)))) is
    ∙ ap (λ o. option_map (λ (o : Object). o.id) (object_of o)) is

names_two : names newer (get newer.registers (0, 0)) ≡ Some 2
names_two = ap (names newer) (get-insert places_total empty (0, 0) (at 2 1) (0, 0)) ∙ live_name (at 2 1) (bare_object 2 []) second_slot

abbrev written : SpaceView
written = fixed newer 1 (Handle 0 0) (at 2 0)

names_one : names written (get written.registers (0, 0)) ≡ Some 1
names_one = ap (names newer) (get-insert places_total newer.registers (0, 0) (at 2 0) (0, 0)) ∙ live_name (at 2 0) (bare_object 1 []) first_slot

pub written_over : (world : World) → Represents newer world → Represents written world → ⊥
written_over world was now =
    let same : ◌≡◌ {A = Option ℕ} (Some 2) (Some 1) = sym names_two ∙ sym (was.registers (0, 0)) ∙ now.registers (0, 0) ∙ names_one in
    let numbers : ◌≡◌ {A = ℕ} 2 1 = ap (λ o. unwrap_or o 0) same in
    absurd (omega (arith, numbers))

-- ---- an anchor whose object moves by another event

abbrev object : Object
object = bare_object 1 []

anchored_queue : queue_of anchored 1 ≡ []
anchored_queue = ap (λ o. unwrap_or o []) (get-insert nat_cmp_total empty 1 [] 1)

anchored_set : entries (set_of anchored 1) ≡ (Handle 0 0, 0) ∷ []
anchored_set =
    ap (λ o. entries (unwrap_or o empty)) (get-insert nat_cmp_total empty 1 (insert empty (Handle 0 0) 0) 1)
    ∙ one_entry sources_total sources_antisymmetric (Handle 0 0) 0

car_one : get anchored.cars 1 ≡ Some single
car_one = get-insert nat_cmp_total empty 1 single 1

object_slot : slot_at anchored.cars (at 1 0) ≡ Some (Live object)
object_slot = ap (option_and_then (λ (car : Car). get car.slots 0)) car_one ∙ get-insert nat_cmp_total empty 0 (Live object) 0

pub anchor_first : next_row anchored ≡ move_anchor (at 1 0) 2
anchor_first = λ i. moving_row 1 1 (anchored_queue i) (nothing_stale anchored 1 (Handle 0 0) 0 (Live object) anchored_set object_slot refl i) (Some (at 1 0, 2)) (least_outside anchored 1 1) (least anchored 1)

abbrev away : SpaceView
away = settled (put_away anchored (at 1 0) None 2 2 object) (at 1 0) (place_in anchored.cars None 2) object

is_away : after anchored 2 2 (move_out (at 1 0)) ≡ away
is_away = ap (moved_some anchored (at 1 0) 2 2) (ap object_of object_slot)

abbrev put_cars : Cars
put_cars = insert anchored.cars 2 (with_birth (new_car 2) object)

apart_slot : (cars : Cars) (change : Object → Object) (o : Option Object) → object_at cars (at 2 0) ≡ o → slot_at (put_object cars (at 2 0) o change) (at 1 0) ≡ slot_at cars (at 1 0)
apart_slot cars change None there = refl
apart_slot cars change (Some it) there = slot_after cars (at 2 0) (Live (change it)) (object_has_car cars (at 2 0) it there) (at 1 0)

gone : object_at away.cars (at 1 0) ≡ None
gone =
    let cars = with_slot_at put_cars (at 1 0) (Moved (at 2 0)) in
    ap object_of
    (apart_slot cars (λ it. record it { fields = [] }) (object_at cars (at 2 0)) refl
    ∙ slot_after put_cars (at 1 0) (Moved (at 2 0)) (ap is_some (get-insert nat_cmp_total anchored.cars 2 (with_birth (new_car 2) object) 1 ∙ car_one)) (at 1 0))

pub left_behind : HeapLaw (after anchored 2 2 (move_out (at 1 0))) → ⊥
left_behind law =
    let now = subst HeapLaw is_away law in
    true≢false (sym (now.anchor (at 1 0) 2 refl).live ∙ ap is_some gone)
