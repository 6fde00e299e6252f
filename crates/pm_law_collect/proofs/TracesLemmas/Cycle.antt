-- The events of two objects in a cycle.
use Rattle.std.proofs.Common.{◌≡◌, ℕ, true, cond, refl, ap, sym, subst, ◌∙◌, List, [], ◌∷◌, Some, None, is_some, arith}
use Rattle.std.specs.Option.{unwrap_or, option_map, option_and_then}
use Rattle.std.specs.List.{find}
use Rattle.std.specs.Ordering.{nat_cmp, eq_by_cmp}
use Rattle.std.specs.Cmp.{nat_cmp_total}
use Rattle.std.specs.FinMap.{get, insert, remove, empty, entries, get-insert, nat_cmp-IsAntisymmetric}
use Rattle.std.proofs.lemmas.Map.Views.{tells_apart}
use Rattle.pm_types.specs.Orders.{source_cmp}
use Rattle.pm_types.proofs.Orders.{sources_total, sources_antisymmetric}
use Rattle.pm_types.specs.declared.object.Object.{Object}
use Rattle.pm_types.specs.declared.object.Slot.{Slot}
use Rattle.pm_types.specs.declared.object.Slot.TheVariants.{Live}
use Rattle.pm_types.specs.declared.source.RefSource.{RefSource}
use Rattle.pm_types.specs.declared.source.RefSource.TheVariants.{Root, Handle, Field}
use Rattle.pm_types.specs.declared.source.Change.{Change}
use Rattle.pm_cars.specs.Cars.{Car, Slots, object_of, without_slot}
use Rattle.pm_cars.specs.Entries.{holds_object}
use Rattle.pm_trains.specs.Trains.{Trains}
use Rattle.pm_view.specs.declared.phase.Phase.{Phase}
use Rattle.pm_view.specs.declared.phase.Phase.TheVariants.{Draining, Doomed}
use Rattle.pm_view.specs.View.{Sources, SpaceView}
use Rattle.pm_view.specs.Effective.{with_source}
use Rattle.pm_view.specs.Rows.{put_car}
use Rattle.pm_view.specs.Candidates.{is_beyond}
use Rattle.pm_view.specs.Collecting.{applied_front, swept_some}
use Rattle.pm_view.specs.Events.{Row, select, apply, doom, sweep, free_doomed, has_change, to_note, draining_row, doomed_row, next_row, after, named_in}
use Rattle.pm_law_commands.specs.Row.Examples.{at}
use Rattle.pm_law_collect.specs.Traces.Traces.{Run, cycle, collected, changed, with_one_field}
use Rattle.pm_law_collect.proofs.TracesLemmas.Maps.{no_entries, one_entry, two_entries, again, taken, first_taken}

abbrev two_trains : Trains
two_trains = record { trains = record { number = 1; cars = 1 ∷ [] } ∷ record { number = 2; cars = [] } ∷ []; births = 0 }

-- car 1 with these slots, this remembered set and these queued changes, in this phase
abbrev moment : Slots → Sources → List Change → Phase → SpaceView
moment slots set queue phase = record cycle { cars = insert empty 1 (record { number = 1; slots = slots; next = 2 }); sets = insert empty 1 set; queues = insert empty 1 queue; trains = two_trains; phase = phase }

abbrev first : Object
first = with_one_field 1 (at 1 1) []

abbrev second : Object
second = with_one_field 2 (at 1 0) []

abbrev both : Slots
both = insert (insert empty 0 (Live first)) 1 (Live second)

abbrev only : Slots
only = insert empty 1 (Live second)

module _ (slots : Slots) (set : Sources) (queue : List Change) where
  here_queue : (phase : Phase) → get (moment slots set queue phase).queues 1 ≡ Some queue
  here_queue phase = get-insert nat_cmp_total empty 1 queue 1

  here_set : get (insert (empty {R = nat_cmp}) 1 set) 1 ≡ Some set
  here_set = get-insert nat_cmp_total empty 1 set 1

-- ---- changes are applied

module _ (set : Sources) (c : Change) (cs : List Change) where
  abbrev draining : SpaceView
  draining = moment both set (c ∷ cs) (Draining 1)

  applies : next_row draining ≡ apply 1
  applies = ap (λ o. draining_row 1 (Some 1) (cond (has_change (unwrap_or o [])) (Some 1) None) (to_note draining 1)) (here_queue both set (c ∷ cs) (Draining 1))

  is_applied : after draining 0 0 (apply 1) ≡ moment both (with_source set c.source c.slot) cs (Draining 1)
  is_applied =
      ap (λ o. applied_front draining 1 (unwrap_or o [])) (here_queue both set (c ∷ cs) (Draining 1))
      ∙ (λ i. record draining { sets = insert draining.sets 1 (with_source (unwrap_or (here_set both set (c ∷ cs) i) empty) c.source c.slot); queues = insert draining.queues 1 cs })
      ∙ (λ i. record draining { sets = again nat_cmp_total nat_cmp-IsAntisymmetric empty 1 set (with_source set c.source c.slot) i; queues = again nat_cmp_total nat_cmp-IsAntisymmetric empty 1 (c ∷ cs) cs i })

  step : (rows : List Row) (end : SpaceView) → Run (moment both (with_source set c.source c.slot) cs (Draining 1)) rows end → Run draining (apply 1 ∷ rows) end
  step rows end later = (applies, subst (λ v. Run v rows end) (sym is_applied) later)

-- the registers were filled and emptied, so nothing is remembered
emptied_set : remove (remove (insert (insert (empty {X = ℕ} {R = source_cmp}) (Handle 0 1) 0) (Handle 0 2) 1) (Handle 0 1)) (Handle 0 2) ≡ empty
emptied_set =
    ap (λ (m : Sources). remove m (Handle 0 2)) (first_taken sources_total sources_antisymmetric (Handle 0 1) (Handle 0 2) 0 1 apart)
    ∙ taken sources_total sources_antisymmetric (Handle 0 2) 1
  where
    apart : (q : RefSource) → eq_by_cmp source_cmp q (Handle 0 1) ≡ true → eq_by_cmp source_cmp q (Handle 0 2) ≡ true → ⊥
    apart q one two =
        let same : ◌≡◌ {A = RefSource} (Handle 0 1) (Handle 0 2) = sym (tells_apart sources_antisymmetric q (Handle 0 1) one) ∙ tells_apart sources_antisymmetric q (Handle 0 2) two in
        let numbers : ◌≡◌ {A = ℕ} 1 2 = ap (λ s. elim s as (λ _. ℕ) [ Root n ↦ 0 | Handle c r ↦ r | Field a i ↦ 0 ]) same in
        absurd (omega (arith, numbers))

-- ---- the train is doomed

abbrev applied_all : SpaceView
applied_all = moment both empty [] (Draining 1)

no_change : next_row applied_all ≡ doom 1
no_change =
    ap (λ o. draining_row 1 (Some 1) (cond (has_change (unwrap_or o [])) (Some 1) None) (to_note applied_all 1)) (here_queue both empty [] (Draining 1))
    ∙ ap (λ es. draining_row 1 (Some 1) None (option_and_then (λ car. option_map (named_in car) (find (λ (e : RefSource × ℕ). is_beyond applied_all.trains.trains 1 e.0) (entries (unwrap_or (get applied_all.sets car) empty)))) (cond (is_some (find (λ (e : RefSource × ℕ). is_beyond applied_all.trains.trains 1 e.0) es)) (Some 1) None))) set_is
  where
    set_is : entries (unwrap_or (get applied_all.sets 1) empty) ≡ []
    set_is = ap (λ o. entries (unwrap_or o empty)) (here_set both empty []) ∙ no_entries sources_total sources_antisymmetric

-- ---- objects are swept, and the car goes

module _ (slots : Slots) where
  abbrev sweeping : SpaceView
  sweeping = moment slots empty [] (Doomed 1)

  here_car : get sweeping.cars 1 ≡ Some (record { number = 1; slots = slots; next = 2 })
  here_car = get-insert nat_cmp_total empty 1 (record { number = 1; slots = slots; next = 2 }) 1

  lowest : (es : List (ℕ × Slot)) → entries slots ≡ es → next_row sweeping ≡ doomed_row 1 1 (option_map (λ (e : ℕ × Slot). e.0) (find (λ (e : ℕ × Slot). holds_object e.1) es))
  lowest es is =
      ap (λ o. doomed_row 1 1 (option_and_then (λ (it : Car). option_map (λ (e : ℕ × Slot). e.0) (find (λ (e : ℕ × Slot). holds_object e.1) (entries it.slots))) o)) here_car
      ∙ ap (λ es. doomed_row 1 1 (option_map (λ (e : ℕ × Slot). e.0) (find (λ (e : ℕ × Slot). holds_object e.1) es))) is

  -- an object is swept that names a place of its own car
  is_swept : (slot id other : ℕ) (rest : Slots) → get slots slot ≡ Some (Live (with_one_field id (at 1 other) [])) → remove slots slot ≡ rest → after sweeping 0 0 (sweep (at 1 slot)) ≡ moment rest empty [] (Doomed 1)
  is_swept slot id other rest there left =
      ap (swept_some sweeping (at 1 slot)) (ap (λ o. object_of (option_and_then (λ (car : Car). get car.slots slot) o)) here_car ∙ ap object_of there)
      ∙ (λ i. record sweeping { cars = put_car sweeping.cars 1 (here_car i) (λ car. without_slot car slot) })
      ∙ (λ i. record sweeping { cars = again nat_cmp_total nat_cmp-IsAntisymmetric empty 1 (record { number = 1; slots = slots; next = 2 }) (record { number = 1; slots = left i; next = 2 }) i })

  is_freed : after sweeping 0 0 (free_doomed 1 1) ≡ collected
  is_freed = λ i. record collected {
    cars = taken nat_cmp_total nat_cmp-IsAntisymmetric 1 (record { number = 1; slots = slots; next = 2 }) i;
    sets = taken nat_cmp_total nat_cmp-IsAntisymmetric 1 empty i;
    queues = taken nat_cmp_total nat_cmp-IsAntisymmetric 1 [] i;
  }

first_place : get both 0 ≡ Some (Live first)
first_place = get-insert nat_cmp_total (insert empty 0 (Live first)) 1 (Live second) 0 ∙ get-insert nat_cmp_total empty 0 (Live first) 0

second_place : get only 1 ≡ Some (Live second)
second_place = get-insert nat_cmp_total empty 1 (Live second) 1

one_left : remove both 0 ≡ only
one_left = first_taken nat_cmp_total nat_cmp-IsAntisymmetric 0 1 (Live first) (Live second) apart
  where
    apart : (q : ℕ) → eq_by_cmp nat_cmp q 0 ≡ true → eq_by_cmp nat_cmp q 1 ≡ true → ⊥
    apart q one two =
        let same : ◌≡◌ {A = ℕ} 0 1 = sym (tells_apart nat_cmp-IsAntisymmetric q 0 one) ∙ tells_apart nat_cmp-IsAntisymmetric q 1 two in
        absurd (omega (arith, same))

none_left : remove only 1 ≡ empty
none_left = taken nat_cmp_total nat_cmp-IsAntisymmetric 1 (Live second)

last_run : Run (moment empty empty [] (Doomed 1)) (free_doomed 1 1 ∷ []) collected
last_run = (lowest empty [] (no_entries nat_cmp_total nat_cmp-IsAntisymmetric), is_freed empty)

second_run : Run (moment only empty [] (Doomed 1)) (sweep (at 1 1) ∷ free_doomed 1 1 ∷ []) collected
second_run = (
  lowest only ((1, Live second) ∷ []) (one_entry nat_cmp_total nat_cmp-IsAntisymmetric 1 (Live second)),
  subst (λ v. Run v (free_doomed 1 1 ∷ []) collected) (sym (is_swept only 1 2 0 empty second_place none_left)) last_run,
)

first_run : Run (moment both empty [] (Doomed 1)) (sweep (at 1 0) ∷ sweep (at 1 1) ∷ free_doomed 1 1 ∷ []) collected
first_run = (
  lowest both ((0, Live first) ∷ (1, Live second) ∷ []) (two_entries nat_cmp_total nat_cmp-IsAntisymmetric 0 1 (Live first) (Live second)),
  subst (λ v. Run v (sweep (at 1 1) ∷ free_doomed 1 1 ∷ []) collected) (sym (is_swept both 0 1 1 only first_place one_left)) second_run,
)

abbrev ends : List Row
ends = doom 1 ∷ sweep (at 1 0) ∷ sweep (at 1 1) ∷ free_doomed 1 1 ∷ []

doom_run : Run (moment both empty [] (Draining 1)) ends collected
doom_run = (no_change, first_run)

pub cycle_goes : Run cycle (select 1 ∷ apply 1 ∷ apply 1 ∷ apply 1 ∷ apply 1 ∷ ends) collected
cycle_goes = (
  refl,
  step empty (changed (Handle 0 1) (Some 0)) (changed (Handle 0 2) (Some 1) ∷ changed (Handle 0 1) None ∷ changed (Handle 0 2) None ∷ []) (apply 1 ∷ apply 1 ∷ apply 1 ∷ ends) collected
      (step (insert empty (Handle 0 1) 0) (changed (Handle 0 2) (Some 1)) (changed (Handle 0 1) None ∷ changed (Handle 0 2) None ∷ []) (apply 1 ∷ apply 1 ∷ ends) collected
      (step (insert (insert empty (Handle 0 1) 0) (Handle 0 2) 1) (changed (Handle 0 1) None) (changed (Handle 0 2) None ∷ []) (apply 1 ∷ ends) collected
      (step (remove (insert (insert empty (Handle 0 1) 0) (Handle 0 2) 1) (Handle 0 1)) (changed (Handle 0 2) None) [] ends collected
      (subst (λ set. Run (moment both set [] (Draining 1)) ends collected) (sym emptied_set) doom_run)))),
)
