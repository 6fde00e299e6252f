-- What the walk meets is what is joined, or what the registers reach; and small facts of whole nurseries.
use Rattle.std.proofs.Common.{◌≡◌, ⊎_elim, inl, inr, ℕ, ◌≤◌, true, List, [], ◌∷◌, Some, Result, Ok, Err, sym, ap, subst, ◌∙◌, arith}
use Rattle.std.specs.List.{Contains, list_any}
use Rattle.std.specs.Option.{IsSome}
use Rattle.std.specs.Result.{OnOk, OnErr}
use Rattle.std.specs.Ordering.{nat_cmp}
use Rattle.std.specs.FinMap.{get, len, empty, get-empty, len-empty}
use Rattle.std.specs.BTreeMap.{is_at}
use Rattle.std.specs.BTreeSet.{BTreeSet, contains}
use Rattle.pm_types.specs.Orders.{place_cmp}
use Rattle.pm_model.specs.Heap.{Object, Heap, Holds}
use Rattle.pm_model.specs.World.{Registers}
use Rattle.pm_model.specs.Reachability.{Leads}
use Rattle.pm_model.proofs.Members.{at_first, in_none, first_or_rest}
use Rattle.pm_nursery.specs.Young.{NurseryView, IsNursery}
use Rattle.pm_nursery.specs.Sweeping.{among, AreReached}
use Rattle.pm_nursery.specs.Joined.{Touches, Joins, AreJoined}
use Rattle.pm_nursery.specs.Holding.{AreHeld}
use Rattle.pm_nursery.specs.Walking.{AreHeldBy, AreMet, Goes, Steps}
use Rattle.pm_nursery.proofs.Parts.{holder, is_there, none_some}

-- ---- what is joined

module _ (objects : Heap) (pairs : BTreeSet (ℕ × ℕ)) (beside : AreHeldBy objects pairs) (closed : (from to : ℕ) → Holds objects from to → IsSome (get objects to)) where
  step_touches : (from to : ℕ) → Steps objects pairs from to → Touches objects from to
  step_touches from to (inl holds) = inl holds
  step_touches from to (inr held) = inr (beside.each to from held)

  touches_step : (from to : ℕ) → Touches objects from to → Steps objects pairs from to
  touches_step from to (inl holds) = inl holds
  touches_step from to (inr held) = inr (beside.all to from held)

  goes_joins : (from : ℕ) (path : List ℕ) (to : ℕ) → Goes objects pairs from path to → Joins objects from path to
  goes_joins from [] to goes = goes
  goes_joins from (next ∷ path) to goes = (step_touches from next goes.0, goes_joins next path to goes.1)

  there : (from to : ℕ) → Touches objects from to → IsSome (get objects to)
  there from to (inl holds) = closed from to holds
  there from to (inr held) = let found = holder objects to from held in is_there (get objects to) found.0 found.1

  met_along : (starts ids : List ℕ) → AreMet objects pairs starts ids → (from : ℕ) (path : List ℕ) (to : ℕ) → among ids from ≡ true → Joins objects from path to → among ids to ≡ true
  met_along starts ids met from [] to inside joins = subst (λ x. among ids x ≡ true) joins inside
  met_along starts ids met from (next ∷ path) to inside joins = met_along starts ids met next path to (met.next from next inside (touches_step from next joins.0) (there from next joins.0)) joins.1

  only : (id x : ℕ) → Contains (id ∷ []) x → id ≡ x
  only id x within = ⊎_elim (λ (same : id ≡ x). same) (λ (never : Contains [] x). absurd (in_none x never)) (first_or_rest id x [] within)

  pub joined_met : (id : ℕ) (starts ids : List ℕ) → starts ≡ id ∷ [] → IsSome (get objects id) → AreMet objects pairs starts ids → AreJoined objects id ids
  joined_met id starts ids is young met = record {
    each = λ other inside.
        let arrives = met.each other inside in
        let first = only id arrives.0 (subst (λ xs. Contains xs arrives.0) is arrives.2) in
        (arrives.1, subst (λ x. Joins objects x arrives.1 other) (sym first) (goes_joins arrives.0 arrives.1 other arrives.3));
    all = λ other joined. met_along starts ids met id joined.0 other (met.begun id (subst (λ xs. Contains xs id) (sym is) (at_first id [])) young) joined.1;
  }

-- ---- what the registers reach

module _ (nursery : NurseryView) (sound : IsNursery nursery) (pairs : BTreeSet (ℕ × ℕ)) (none : pairs.keys ≡ []) (starts ids : List ℕ) (held : AreHeld nursery.registers starts) (met : AreMet nursery.objects pairs starts ids) where
  no_pair : (p : ℕ × ℕ) → contains place_cmp pairs p ≡ true → ⊥
  no_pair p has = let never : list_any (is_at (place_cmp p)) [] ≡ true = subst (λ (ks : List (ℕ × ℕ)). list_any (is_at (place_cmp p)) ks ≡ true) none has in cc never

  step_holds : (from to : ℕ) → Steps nursery.objects pairs from to → Holds nursery.objects from to
  step_holds from to (inl holds) = holds
  step_holds from to (inr beside) = absurd (no_pair (from, to) beside)

  goes_leads : (from : ℕ) (path : List ℕ) (to : ℕ) → Goes nursery.objects pairs from path to → Leads nursery.objects from path to
  goes_leads from [] to goes = goes
  goes_leads from (next ∷ path) to goes = (step_holds from next goes.0, goes_leads next path to goes.1)

  reached_along : (from : ℕ) (path : List ℕ) (to : ℕ) → among ids from ≡ true → Leads nursery.objects from path to → among ids to ≡ true
  reached_along from [] to inside leads = subst (λ x. among ids x ≡ true) leads inside
  reached_along from (next ∷ path) to inside leads = reached_along next path to (met.next from next inside (inl leads.0) (sound.closed from next leads.0)) leads.1

  pub reached_met : AreReached nursery ids
  reached_met = record {
    each = λ id inside.
        let arrives = met.each id inside in
        (arrives.0, arrives.1, held.each arrives.0 arrives.2, goes_leads arrives.0 arrives.1 id arrives.3);
    all = λ id path. reached_along path.0 path.1 id (met.begun path.0 (held.all path.2.0 path.0 path.2.1) (sound.held path.0 path.2)) path.3;
  }

-- ---- whole nurseries

-- one with nothing in it
pub nothing_sound : (objects : Heap) (registers : Registers) → objects ≡ empty → registers ≡ empty → IsNursery (record { objects = objects; registers = registers })
nothing_sound objects registers no_objects no_registers = record {
  few = subst (λ (heap : Heap). len heap ≤ 256) (sym no_objects) (let none = len-empty nat_cmp Object in omega (arith, none));
  small = λ id object here. absurd (never id object here);
  closed = λ from to holds. let found = holder objects from to holds in absurd (never from found.0 found.1);
  places = λ place id here. absurd (unheld place id here);
  held = λ id here. absurd (unheld here.0 id here.1);
}
  where
    never : (id : ℕ) (object : Object) → get objects id ≡ Some object → ⊥
    never id object here = none_some (get objects id) object (ap (λ (heap : Heap). get heap id) no_objects ∙ get-empty nat_cmp id) here

    unheld : (place : ℕ × ℕ) (id : ℕ) → get registers place ≡ Some id → ⊥
    unheld place id here = none_some (get registers place) id (ap (λ (r : Registers). get r place) no_registers ∙ get-empty place_cmp place) here

-- what holds of a value after a call that did what it says, or failed and changed nothing
pub either_way : {A E X : Type 0} (P : X → Type 0) (r : Result A E) (old done after : X) → OnOk r (after ≡ done) → OnErr r (after ≡ old) → P done → P old → P after
either_way P (Ok x) old done after ok err now was = subst P (sym ok) now
either_way P (Err e) old done after ok err now was = subst P (sym err) was
