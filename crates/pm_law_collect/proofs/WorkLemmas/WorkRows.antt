-- Each event that does not complete a collection lowers the work that is left.
use Rattle.std.proofs.Common.{◌≡◌, ⊎_elim, ℕ, ◌+◌, ◌-◌, ◌<◌, ◌≤◌, ◌==◌, Bool, true, false, cond, refl, ap, sym, subst, ◌∙◌, List, [], ◌∷◌, length, Option, Some, None, is_some, arith}
use Rattle.std.specs.Option.{IsSome, unwrap_or}
use Rattle.std.specs.FinMap.{get, remove, len, entries, empty, len-insert, len-remove, len-entries, get-entries}
use Rattle.std.specs.FinMap.Entries as map_entries
use Rattle.std.proofs.lemmas.Bool.{eqb-true, eq-eqb, true≢false}
use Rattle.pm_types.specs.Orders.{source_cmp}
use Rattle.pm_types.proofs.Orders.{sources_total}
use Rattle.pm_types.specs.declared.address.Addr.{Addr}
use Rattle.pm_types.specs.declared.source.RefSource.{RefSource}
use Rattle.pm_types.specs.declared.source.Change.{Change}
use Rattle.pm_trains.specs.Trains.{cars_at, is_among}
use Rattle.pm_view.specs.declared.phase.Phase.TheVariants.{Draining, Moving}
use Rattle.pm_view.specs.View.{Sources, SpaceView}
use Rattle.pm_view.specs.Reading.{cars_of}
use Rattle.pm_view.specs.Effective.{with_source}
use Rattle.pm_view.specs.Law.{HeapLaw}
use Rattle.pm_view.specs.Candidates.{set_of, queue_of}
use Rattle.pm_view.specs.Collecting.{doomed, started, finished, applied_front, applied_in, fixed}
use Rattle.pm_view.specs.Events.{has_change, changed_car}
use Rattle.pm_view.specs.Work.{queued, remembered, objects_in, front_car, work_in, work}
use Rattle.pm_law_commands.proofs.RowLemmas.News.{at_insert}
use Rattle.pm_law_commands.proofs.RowLemmas.Sums.{grown}
use Rattle.pm_law_collect.proofs.PhasesLemmas.Finds.{found_passes}
use Rattle.pm_law_collect.proofs.PhasesLemmas.Comes.{IsDrained, IsStarting, IsEmptied, IsFinishing, IsChanged}
use Rattle.pm_law_collect.proofs.PhasesLemmas.PhaseRows.{drained_queue}
use Rattle.pm_law_collect.proofs.ChangesLemmas.FixRow.{fix_queue, fix_set, fix_held, fix_live, fix_phase}
use Rattle.pm_law_collect.proofs.MovesLemmas.MoveRow.{IsLighter}
use Rattle.pm_law_collect.proofs.PhasesLemmas.Fronts.{first_among, first_cars}

-- ---- sizes of remembered sets

-- a set that gives something has an entry
some_entry : (set : Sources) (x : RefSource) → IsSome (get set x) → 0 < len set
some_entry set x some = subst (λ n. 0 < n) (sym (len-entries set)) (by_list (entries set) (ap is_some (sym (get-entries set x)) ∙ some))
  where
    by_list : (es : List (RefSource × ℕ)) → is_some (map_entries.find source_cmp x es) ≡ true → 0 < length es
    by_list [] some = absurd (true≢false (sym some))
    by_list (e ∷ es) some = omega arith

one_more : (b : Bool) (n : ℕ) → cond b n (n + 1) ≤ n + 1
one_more true n = omega arith
one_more false n = omega arith

one_less : (b : Bool) (n : ℕ) → cond b (n - 1) n ≤ n + 1
one_less true n = omega arith
one_less false n = omega arith

grows_by_one : (set : Sources) (x : RefSource) (slot : Option ℕ) → len (with_source set x slot) ≤ len set + 1
grows_by_one set x None = subst (λ n. n ≤ len set + 1) (sym (len-remove sources_total set x)) (one_less _ (len set))
grows_by_one set x (Some slot) = subst (λ n. n ≤ len set + 1) (sym (len-insert sources_total set x slot)) (one_more _ (len set))

falls_by_one : (set : Sources) (x : RefSource) → IsSome (get set x) → len (remove set x) + 1 ≡ len set
falls_by_one set x some = by_length (len (remove set x)) (len-remove sources_total set x ∙ ap (λ b. cond b (len set - 1) (len set)) some) (some_entry set x some)
  where
    by_length : (n : ℕ) → n ≡ len set - 1 → 0 < len set → n + 1 ≡ len set
    by_length n is over = omega (arith, is, over)

-- ---- a queued change is applied

module _ (view : SpaceView) (car : ℕ) (change : Change) (changes : List Change) (is : queue_of view car ≡ change ∷ changes) where
  abbrev t : SpaceView
  t = applied_front view car (change ∷ changes)

  queue_then : (e : ℕ) (b : Bool) → (car == e) ≡ b → queue_of t e ≡ cond b changes (queue_of view e)
  queue_then e b same = ap (λ o. unwrap_or o []) (at_insert view.queues car changes e ∙ ap (λ b. cond b (Some changes) (get view.queues e)) same) ∙ by_case b
    where
      by_case : (b : Bool) → unwrap_or (cond b (Some changes) (get view.queues e)) [] ≡ cond b changes (queue_of view e)
      by_case true = refl
      by_case false = refl

  queue_here : queued t car + 1 ≡ queued view car
  queue_here =
      let now : queued t car ≡ length changes = ap length (queue_then car true (eq-eqb car car refl)) in
      let was : queued view car ≡ length changes + 1 = ap length is ∙ omega arith in
      omega (arith, now, was)

  queue_most : (e : ℕ) → queued t e ≤ queued view e
  queue_most e = by_case (car == e) refl
    where
      by_case : (b : Bool) → (car == e) ≡ b → queued t e ≤ queued view e
      by_case true same = subst (λ e. queued t e ≤ queued view e) (eqb-true car e same) (let here = queue_here in omega (arith, here))
      by_case false same = let still = ap length (queue_then e false same) in omega (arith, still)

  set_most : (e : ℕ) → remembered t e ≤ remembered view e + 1
  set_most e = subst (λ o. len (unwrap_or o empty) ≤ remembered view e + 1) (sym (at_insert view.sets car (with_source (set_of view car) change.source change.slot) e)) (by_case (car == e) refl)
    where
      by_case : (b : Bool) → (car == e) ≡ b → len (unwrap_or (cond b (Some (with_source (set_of view car) change.source change.slot)) (get view.sets e)) empty) ≤ remembered view e + 1
      by_case true same = subst (λ e. len (with_source (set_of view car) change.source change.slot) ≤ remembered view e + 1) (eqb-true car e same) (grows_by_one (set_of view car) change.source change.slot)
      by_case false same = omega arith

  in_train : (train : ℕ) → is_among car (cars_of view.trains.trains train) ≡ true → work_in t (Draining train) + 1 ≤ work_in view (Draining train)
  in_train train among =
      let q = grown (queued t) (queued view) car (cars_of view.trains.trains train) queue_most (let here = queue_here in omega (arith, here)) among in
      let e = set_most (front_car view train) in
      omega (arith, q, e)

  in_car : work_in t (Moving car) + 1 ≤ work_in view (Moving car)
  in_car = let q = queue_here in let e = set_most car in omega (arith, q, e)

module _ (view : SpaceView) (car : ℕ) (is : IsChanged view car) where
  in_phase : (change : Change) (changes : List Change) → queue_of view car ≡ change ∷ changes → work (applied_front view car (change ∷ changes)) + 1 ≤ work view
  in_phase change changes queue =
      ⊎_elim
      (λ (drained : (train : ℕ) × (view.phase ≡ Draining train) × (changed_car view train ≡ Some car)).
      subst (λ p. work_in (applied_front view car (change ∷ changes)) p + 1 ≤ work_in view p) (sym drained.1)
      (in_train view car change changes queue drained.0 (found_passes (λ car. has_change (queue_of view car)) (cars_of view.trains.trains drained.0) car drained.2).1))
      (λ (moving : (view.phase ≡ Moving car) × (has_change (queue_of view car) ≡ true)).
      subst (λ p. work_in (applied_front view car (change ∷ changes)) p + 1 ≤ work_in view p) (sym moving.0) (in_car view car change changes queue))
      is

  has_one : has_change (queue_of view car) ≡ true
  has_one =
      ⊎_elim
      (λ (drained : (train : ℕ) × (view.phase ≡ Draining train) × (changed_car view train ≡ Some car)). (found_passes (λ car. has_change (queue_of view car)) (cars_of view.trains.trains drained.0) car drained.2).0)
      (λ (moving : (view.phase ≡ Moving car) × (has_change (queue_of view car) ≡ true)). moving.1)
      is

  by_queue : (q : List Change) → queue_of view car ≡ q → has_change q ≡ true → work (applied_front view car q) + 1 ≤ work view
  by_queue [] queue some = absurd (true≢false (sym some))
  by_queue (c ∷ cs) queue some = in_phase c cs queue

  pub applied_lowers : work (applied_in view car) + 1 ≤ work view
  applied_lowers = by_queue (queue_of view car) refl has_one

-- ---- phases

pub doomed_lowers : (view : SpaceView) (train : ℕ) → IsDrained view train None → work (doomed view train) + 4 ≤ work view
doomed_lowers view train is = subst (λ p. work (doomed view train) + 4 ≤ work_in view p) (sym is.draining) (omega arith)

pub started_lowers : (view : SpaceView) (car picked : ℕ) (a : Addr) → IsStarting view car a → work (started view car a picked) + 3 ≤ work view
started_lowers view car picked a is =
    let T = is.train in
    let cars = first_cars (cars_at view.trains.trains T) car is.first in
    let front : front_car view T ≡ car = ap (λ o. unwrap_or o 0) is.first in
    let list : cars_of view.trains.trains T ≡ car ∷ cars.0 = ap (λ o. unwrap_or o []) cars.1 in
    let some : 1 ≤ length (cars_of view.trains.trains T) = subst (λ xs. 1 ≤ length xs) (sym list) (omega arith) in
    let none : queued view car ≡ 0 = ap length (drained_queue view T (Some a) is.drained car (first_among (cars_at view.trains.trains T) car is.first)) in
    let e = ap (remembered view) front in
    let u = ap (objects_in view) front in
    subst (λ p. work (started view car a picked) + 3 ≤ work_in view p) (sym is.drained.draining) (omega (arith, some, none, e, u))

pub finished_lowers : (view : SpaceView) (car : ℕ) → IsFinishing view car → work (finished view car) + 1 ≤ work view
finished_lowers view car is = subst (λ p. work (finished view car) + 1 ≤ work_in view p) (sym is.emptied.moving) (omega arith)

-- ---- a source is fixed, and an object moves

pub fixed_lowers : (view : SpaceView) (car : ℕ) (x : RefSource) (to : Addr) → HeapLaw view → IsEmptied view car (Some (x, to)) → work (fixed view car x to) + 2 ≤ work view
fixed_lowers view car x to law is =
    let q = ap length (fix_queue view car x to law is) in
    let e : remembered (fixed view car x to) car + 1 ≡ remembered view car = ap (λ (s : Sources). len s + 1) (fix_set view car x to law is) ∙ falls_by_one (set_of view car) x (fix_held view car x to law is) in
    let u = fix_live view car x to law is in
    let now : work (fixed view car x to) ≡ work_in (fixed view car x to) (Moving car) = ap (work_in (fixed view car x to)) (fix_phase view car x to law is ∙ is.moving) in
    let was : work view ≡ work_in view (Moving car) = ap (work_in view) is.moving in
    omega (arith, q, e, u, now, was)

pub moved_lowers : (view t : SpaceView) (a : Addr) → view.phase ≡ Moving a.car → queue_of view a.car ≡ [] → IsLighter view a t → work t + 3 ≤ work view
moved_lowers view t a moving none is =
    let q : queued t a.car ≤ 255 = is.queue none in
    let e : remembered t a.car ≡ remembered view a.car = ap (λ (s : Sources). len s) is.set in
    let u : objects_in t a.car + 1 ≡ objects_in view a.car = is.objects in
    let now : work t ≡ work_in t (Moving a.car) = ap (work_in t) (is.phase ∙ moving) in
    let was : work view ≡ work_in view (Moving a.car) = ap (work_in view) moving in
    omega (arith, q, e, u, now, was)
