-- What a walk finds first is found by a shortest path.
use Rattle.std.proofs.Common.{◌≡◌, inl, inr, ℕ, zero, suc, ◌+◌, ◌<◌, ◌≤◌, refl, ap, sym, subst, ◌∙◌, List, [], ◌∷◌, length, Option, Some, None, arith}
use Rattle.std.specs.List.{slice_get}
use Rattle.std.specs.Option.{IsSomeAnd, IfSome, option_map}
use Rattle.std.specs.FinMap.{get}
use Rattle.std.proofs.lemmas.Bool.{cases_lt}
use Rattle.std.proofs.lemmas.Option.{same_Some}
use Rattle.pm_types.specs.declared.address.Addr.{Addr}
use Rattle.pm_types.specs.declared.object.Object as placed
use Rattle.pm_types.specs.declared.source.RefSource.TheVariants.{Field}
use Rattle.pm_view.specs.View.{SpaceView}
use Rattle.pm_view.specs.Reading.{object_at, stored, resolve, named_by}
use Rattle.pm_view.specs.Law.{HeapLaw}
use Rattle.pm_walk.specs.declared.walk.Found.{Found}
use Rattle.pm_walk.specs.declared.walk.Walk.{Walk}
use Rattle.pm_walk.specs.Walked.{LeadsTo, IsSoundWalk, IsPlaceOf, turn, IsMetBy, IsBroadWalk}
use Rattle.pm_walk.specs.declared.paths.path.PathStep.{PathStep}
use Rattle.pm_walk.specs.Paths.Paths.{Path, LeadsOn, LeadsFrom, IsShortestPath}
use Rattle.pm_walk.specs.Paths.ReadBack.{IsDeep}
use Rattle.pm_walk.proofs.PathsLemmas.Graph.{opened}
use Rattle.pm_walk.proofs.PathsLemmas.Back.{deep_once, deep_named}

object_of : (o : Option placed.Object) (id : ℕ) → option_map (λ (o : placed.Object). o.id) o ≡ Some id → (object : placed.Object) × (o ≡ Some object) × (object.id ≡ id)
object_of None id is = cc
object_of (Some object) id is = (object, refl, cc)

none_after : (n : ℕ) → n + 1 ≤ 0 → ⊥
none_after n small = omega (arith, small)

below_next : (a b : ℕ) → a + 1 ≤ b + 1 → a ≤ b
below_next a b small = omega (arith, small)

at_most_next : (a b : ℕ) → a ≤ b → suc a ≤ suc b
at_most_next a b small = omega (arith, small)

module _ (view : SpaceView) (law : HeapLaw view) (walk : Walk) (sound : IsSoundWalk view walk) (last : ℕ) (broad : IsBroadWalk view walk last) where
  abbrev found : List Found
  found = walk.found.items

  -- what was found later is not less deep
  deep_rises : (n m place later : ℕ) → place ≤ later → IsDeep found n place → IsDeep found m later → n ≤ m
  deep_rises zero m place later before deep deeper = omega arith
  deep_rises (suc n) zero place later before deep deeper =
      let one = opened (λ one. (holder : ℕ) × (one.from ≡ Some holder) × IsDeep found n holder) (slice_get found place) deep in
      let two = opened (λ (one : Found). one.from ≡ None) (slice_get found later) deeper in
      let order = broad.rise place later one.0 two.0 before one.1 two.1 in
      absurd (none_after one.2.0 (subst (λ (p : ℕ × ℕ). p.0 ≤ p.1) (λ i. (turn (one.2.1 i), turn (two.2 i))) order))
  deep_rises (suc n) (suc m) place later before deep deeper =
      let one = opened (λ one. (holder : ℕ) × (one.from ≡ Some holder) × IsDeep found n holder) (slice_get found place) deep in
      let two = opened (λ one. (holder : ℕ) × (one.from ≡ Some holder) × IsDeep found m holder) (slice_get found later) deeper in
      let order = broad.rise place later one.0 two.0 before one.1 two.1 in
      let holders : one.2.0 ≤ two.2.0 = below_next one.2.0 two.2.0 (subst (λ (p : ℕ × ℕ). p.0 ≤ p.1) (λ i. (turn (one.2.1 i), turn (two.2.1 i))) order) in
      at_most_next n m (deep_rises n m one.2.0 two.2.0 holders one.2.2 two.2.2)

  -- each object that was found is so deep
  each_deep : (fuel place : ℕ) (one : Found) → place < fuel → slice_get found place ≡ Some one → (n : ℕ) × IsDeep found n place
  each_deep zero place one below is = absurd (no below)
    where
      no : place < 0 → ⊥
      no below = omega (arith, below)
  each_deep (suc fuel) place one below is = of (λ holder h before here. each_deep fuel holder h (less holder before) here) one.from refl
    where
      less : (holder : ℕ) → holder < place → holder < fuel
      less holder before = omega (arith, before, below)

      of : ((holder : ℕ) (h : Found) → holder < place → slice_get found holder ≡ Some h → (n : ℕ) × IsDeep found n holder) → (o : Option ℕ) → one.from ≡ o → (n : ℕ) × IsDeep found n place
      of earlier None from = (0, deep_named view walk sound place one is from)
      of earlier (Some holder) from =
          let led : LeadsTo view found place (Some holder) one.index one.at = subst (λ o. LeadsTo view found place o one.index one.at) from (sound.each place one is).led in
          let there = opened (λ h. IsSomeAnd (stored view (Field h.at one.index)) (λ to. resolve view to ≡ one.at)) (slice_get found holder) led.1 in
          let deep = earlier holder there.0 led.0 there.1 in
          (suc deep.0, deep_once view walk sound place holder deep.0 one is from deep.1)

  -- what is held by an object that was found is at most one deeper
  next_deep : (place next : ℕ) (n m : ℕ) (one : Found) → slice_get found next ≡ Some one → turn one.from ≤ place + 1 → IsDeep found n place → IsDeep found m next → m ≤ n + 1
  next_deep place next n zero one is by deep deeper = omega arith
  next_deep place next n (suc m) one is by deep deeper =
      let two = opened (λ one. (holder : ℕ) × (one.from ≡ Some holder) × IsDeep found m holder) (slice_get found next) deeper in
      let same : two.0 ≡ one = same_Some two.0 one (sym two.1 ∙ is) in
      let from : one.from ≡ Some two.2.0 = ap (λ (f : Found). f.from) (sym same) ∙ two.2.1 in
      let holder : two.2.0 ≤ place = below_next two.2.0 place (subst (λ o. turn o ≤ place + 1) from by) in
      suc_next m n (deep_rises m n two.2.0 place holder two.2.2 deep)
    where
      suc_next : (m n : ℕ) → m ≤ n → suc m ≤ n + 1
      suc_next m n small = omega (arith, small)

  -- what was met lies where the address leads
  met_at : (count : ℕ) (to : Addr) (id : ℕ) → named_by view to ≡ Some id → IsMetBy view found count to → (place : ℕ) × (one : Found) × (slice_get found place ≡ Some one) × (one.id ≡ id) × (turn one.from ≤ count) × (resolve view to ≡ one.at)
  met_at count to id named met =
      let there = subst (λ (o : Option ℕ). IfSome o (λ id. (place : ℕ) × IsSomeAnd (slice_get found place) (λ one. (one.id ≡ id) × (turn one.from ≤ count)))) named met in
      let one = opened (λ (one : Found). (one.id ≡ id) × (turn one.from ≤ count)) (slice_get found there.0) there.1 in
      let it = sound.each there.0 one.0 one.1 in
      let object = object_of (object_at view.cars (resolve view to)) id named in
      (there.0, one.0, one.1, one.2.0, one.2.1, law.built.apart (resolve view to) one.0.at object.0 it.object object.1 it.kept.here (object.2 ∙ sym one.2.0 ∙ it.identity))

  module _ (id : ℕ) (is_last : IsPlaceOf walk id last) (depth : ℕ) (deep_last : IsDeep found depth last) where
    same_deep : (n place : ℕ) → last ≤ place → IsDeep found n place → depth ≤ n
    same_deep n place behind deep = deep_rises depth n last place behind deep_last deep

    -- steps from an object that was found are not fewer than how much deeper the last one is
    not_fewer : (steps : List PathStep) (place n count : ℕ) (one : Found) → slice_get found place ≡ Some one → IsDeep found n place → n ≤ count → LeadsOn view one.at one.id steps id → depth ≤ count + length steps
    not_fewer [] place n count one is deep few leads =
        let goal = opened (λ (one : Found). one.id ≡ id) (slice_get found last) is_last in
        let same : last ≡ place = sound.once last place goal.0 one goal.1 is (goal.2 ∙ sym leads) in
        plain (same_deep n place (subst (λ p. last ≤ p) same (least last)) deep)
      where
        least : (p : ℕ) → p ≤ p
        least p = omega arith

        plain : depth ≤ n → depth ≤ count + 0
        plain small = omega (arith, small, few)
    not_fewer (step ∷ steps) place n count one is deep few leads = elim (cases_lt place last) [
      | inl before ↦
          let to = opened (λ to. (named_by view to ≡ Some step.id) × (resolve view to ≡ leads.0)) (stored view (Field one.at step.index)) leads.1 in
          let met = met_at (place + 1) to.0 step.id to.2.0 (broad.fields place one step.index to.0 before is to.1) in
          let here : leads.0 ≡ met.1.at = sym to.2.1 ∙ met.5 in
          let deeper = each_deep (suc met.0) met.0 met.1 (next_to met.0) met.2 in
          let onward : LeadsOn view met.1.at met.1.id steps id = subst (λ (p : Addr × ℕ). LeadsOn view p.0 p.1 steps id) (λ i. (here i, sym met.3 i)) leads.2 in
          moved (not_fewer steps met.0 deeper.0 (count + 1) met.1 met.2 deeper.1 (one_more deeper.0 (next_deep place met.0 n deeper.0 met.1 met.2 met.4 deep deeper.1)) onward)
      | inr behind ↦ plain (same_deep n place behind deep)
    ]
      where
        next_to : (p : ℕ) → p < suc p
        next_to p = omega arith

        one_more : (m : ℕ) → m ≤ n + 1 → m ≤ count + 1
        one_more m small = omega (arith, small, few)

        moved : depth ≤ (count + 1) + length steps → depth ≤ count + suc (length steps)
        moved small = omega (arith, small)

        plain : depth ≤ n → depth ≤ count + suc (length steps)
        plain small = omega (arith, small, few)

    from_name : (name : List ℕ) (bound : ℕ × Addr) (steps : List PathStep) → get view.roots name ≡ Some bound → LeadsFrom view bound.1 steps id → depth + 1 ≤ length steps
    from_name name bound [] is leads = absurd leads
    from_name name bound (first ∷ steps) is leads =
        let met = met_at 0 bound.1 first.id leads.1 (broad.names name bound is) in
        let onward : LeadsOn view met.1.at met.1.id steps id = subst (λ (p : Addr × ℕ). LeadsOn view p.0 p.1 steps id) (λ i. (met.5 i, sym met.3 i)) leads.2 in
        let named : met.1.from ≡ None = no_turn met.1.from met.4 in
        next (not_fewer steps met.0 0 0 met.1 met.2 (deep_named view walk sound met.0 met.1 met.2 named) none onward)
      where
        none : 0 ≤ 0
        none = omega arith

        next : depth ≤ 0 + length steps → depth + 1 ≤ suc (length steps)
        next small = omega (arith, small)

        no_turn : (o : Option ℕ) → turn o ≤ 0 → o ≡ None
        no_turn None small = refl
        no_turn (Some holder) small = absurd (none_after holder small)

    -- a path of so many steps is a shortest one
    pub shortest : (path : Path) → length path.steps ≡ depth + 1 → IsShortestPath view id path
    shortest path long other is =
        let bound = opened (λ bound. LeadsFrom view bound.1 other.steps id) (get view.roots other.name) is in
        subst (λ n. n ≤ length other.steps) (sym long) (from_name other.name bound.0 other.steps bound.1 bound.2)
