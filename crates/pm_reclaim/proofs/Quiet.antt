-- The front of a train in which no change waits.
use Rattle.std.proofs.Common.{◌≡◌, ℕ, Bool, true, false, cond, List, [], ◌∷◌, take, Option, Some, None, refl, sym, ap, subst, ◌∙◌}
use Rattle.std.specs.List.{find}
use Rattle.std.specs.Cmp.{nat_cmp_total}
use Rattle.std.specs.Option.{unwrap_or}
use Rattle.std.specs.FinMap.{get, insert, get-insert}
use Rattle.std.proofs.lemmas.Bool.{true≢false, eqb-true}
use Rattle.std.proofs.lemmas.Option.{none-some, same_Some}
use Rattle.std.specs.Ordering.{nat_cmp, eq_by_cmp}
use Rattle.pm_model.proofs.Unused.{tied_nat}
use Rattle.pm_types.specs.declared.address.Addr.{Addr}
use Rattle.pm_trains.specs.Trains.{first_car}
use Rattle.pm_types.specs.declared.source.Change.{Change}
use Rattle.pm_types.specs.declared.event.Step.{Step}
use Rattle.pm_view.specs.declared.phase.Phase.TheVariants.{Draining}
use Rattle.pm_view.specs.View.{SpaceView}
use Rattle.pm_view.specs.Reading.{cars_of}
use Rattle.pm_view.specs.Candidates.{queue_of}
use Rattle.pm_view.specs.Collecting.{applied_front, applied_in}
use Rattle.pm_view.specs.Events.{nothing, apply, after, has_change, changed_car, to_note, draining_row, row_in, next_row}
use Rattle.pm_space.specs.Quiet.{IsQuiet}
use Rattle.pm_evac.specs.Steps.{IsEvent}

-- ---- lists

-- what fails where another test fails is not found where that is not
none_too : (test other : ℕ → Bool) (xs : List ℕ) → ((x : ℕ) → test x ≡ false → other x ≡ false) → find test xs ≡ None → find other xs ≡ None
none_too test other [] fails none = refl
none_too test other (x ∷ xs) fails none =
    elim (test x) as (λ b. test x ≡ b → cond b (Some x) (find test xs) ≡ None → cond (other x) (Some x) (find other xs) ≡ None) [
      | true ↦ λ is here. absurd (none-some x (sym here))
      | false ↦ λ is there. ap (λ (b : Bool). cond b (Some x) (find other xs)) (fails x is) ∙ none_too test other xs fails there
    ] refl none

-- ---- the front of a train

-- what is found passes
passes : (test : ℕ → Bool) (xs : List ℕ) (car : ℕ) → find test xs ≡ Some car → test car ≡ true
passes test [] car is = absurd (none-some car is)
passes test (x ∷ xs) car is =
    elim (test x) as (λ b. test x ≡ b → cond b (Some x) (find test xs) ≡ Some car → test car ≡ true) [
      | true ↦ λ it here. subst (λ (c : ℕ). test c ≡ true) (same_Some x car here) it
      | false ↦ λ it there. passes test xs car there
    ] refl is

-- another car's queue is as it was
others_wait : (view : SpaceView) (car : ℕ) (changes : List Change) (x : ℕ) → has_change (queue_of view car) ≡ true → has_change (queue_of view x) ≡ false → has_change (unwrap_or (get (insert view.queues car changes) x) []) ≡ false
others_wait view car changes x waits none =
    ap (λ (q : Option (List Change)). has_change (unwrap_or q [])) (get-insert nat_cmp_total view.queues car changes x)
    ∙ elim (eq_by_cmp nat_cmp x car) as (λ b. eq_by_cmp nat_cmp x car ≡ b → has_change (unwrap_or (cond b (Some changes) (get view.queues x)) []) ≡ false) [
      | true ↦ λ tied. absurd (true≢false (sym waits ∙ sym (ap (λ (c : ℕ). has_change (queue_of view c)) (eqb-true x car (sym (tied_nat x car) ∙ tied))) ∙ none))
      | false ↦ λ apart. none
    ] refl

front_quiet : (view : SpaceView) (car count : ℕ) (q : List Change) → queue_of view car ≡ q → has_change q ≡ true → IsQuiet view count → IsQuiet (applied_front view car q) count
front_quiet view car count [] is waits quiet = absurd (true≢false (sym waits))
front_quiet view car count (change ∷ changes) is waits quiet = λ train at.
    none_too (λ c. has_change (queue_of view c)) (λ c. has_change (unwrap_or (get (insert view.queues car changes) c) [])) (take count (cars_of view.trains.trains train))
    (λ x none. others_wait view car changes x (ap has_change is) none) (quiet train at)

drained_front : (view : SpaceView) (train car count : ℕ) (first : Option ℕ) (noted : Option Addr) (changed : Option ℕ) → draining_row train first changed noted ≡ apply car → changed ≡ Some car
drained_front view train car count first noted (Some c) is = ap Some (cc is)
drained_front view train car count first None None is = cc is
drained_front view train car count None (Some a) None is = cc is
drained_front view train car count (Some c) (Some a) None is = cc is

-- where the front change of a car goes into its set, the front in which none waits stays
pub applied_quiet : (view : SpaceView) (car count : ℕ) → next_row view ≡ apply car → IsQuiet view count → IsQuiet (applied_in view car) count
applied_quiet view car count row quiet train at =
    let was = same_phase (queue_of view car) at in
    let here : row_in view (Draining train) ≡ apply car = ap (row_in view) (sym was) ∙ row in
    let found = drained_front view train car count (first_car view.trains.trains train) (to_note view train) (changed_car view train) here in
    front_quiet view car count (queue_of view car) refl (passes (λ c. has_change (queue_of view c)) (cars_of view.trains.trains train) car found) quiet train at
  where
    same_phase : (q : List Change) → (applied_front view car q).phase ≡ Draining train → view.phase ≡ Draining train
    same_phase [] is = is
    same_phase (change ∷ changes) is = is

pub quiet_after_change : (old new : SpaceView) (step : Step) (car count : ℕ) → next_row old ≡ apply car → IsQuiet old count → IsEvent old new step → IsQuiet new count
quiet_after_change old new step car count row quiet event =
    subst (λ (v : SpaceView). IsQuiet v count) (sym (event.after ∙ ap (after old event.picked event.number) row)) (applied_quiet old car count row quiet)

-- and where no event comes
pub quiet_after_none : (old new : SpaceView) (step : Step) (count : ℕ) → next_row old ≡ nothing → IsQuiet old count → IsEvent old new step → IsQuiet new count
quiet_after_none old new step count row quiet event =
    subst (λ (v : SpaceView). IsQuiet v count) (sym (event.after ∙ ap (after old event.picked event.number) row)) quiet
