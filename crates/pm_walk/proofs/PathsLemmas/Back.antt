-- A path that is read back from a walk.
use Rattle.std.proofs.Common.{◌≡◌, ℕ, suc, ◌+◌, ◌<◌, refl, ap, sym, subst, ◌∙◌, List, [], ◌∷◌, ◌++◌, length, reverse, Some, None, arith}
use Rattle.std.specs.List.{slice_get}
use Rattle.std.specs.Option.{IsSomeAnd, option_map}
use Rattle.std.specs.FinMap.{get, entries}
use Rattle.std.proofs.lemmas.List.{reverse-append, length-append}
use Rattle.std.proofs.lemmas.Option.{same_Some, slice_get_within}
use Rattle.pm_types.specs.declared.address.Addr.{Addr}
use Rattle.pm_types.specs.declared.object.Object as placed
use Rattle.pm_types.specs.declared.source.RefSource.TheVariants.{Field}
use Rattle.pm_view.specs.View.{SpaceView}
use Rattle.pm_view.specs.Reading.{object_at, stored, resolve, named_by}
use Rattle.pm_walk.specs.declared.walk.Found.{Found}
use Rattle.pm_walk.specs.declared.walk.Walk.{Walk}
use Rattle.pm_walk.specs.Walked.{LeadsTo, IsSoundWalk, IsPlaceOf}
use Rattle.pm_walk.proofs.Steps.{name_bound}
use Rattle.pm_walk.specs.declared.paths.path.PathStep.{PathStep}
use Rattle.pm_walk.specs.Paths.Paths.{IsStep, LeadsOn, LeadsFrom, IsPath}
use Rattle.pm_walk.specs.Paths.ReadBack.{IsDeep}
use Rattle.pm_walk.proofs.PathsLemmas.Graph.{opened, some_with}

-- the object is there, and is the one
pub place_within : (walk : Walk) (id place : ℕ) → IsPlaceOf walk id place → place < length walk.found.items
place_within walk id place is = let one = opened (λ (one : Found). one.id ≡ id) (slice_get walk.found.items place) is in slice_get_within walk.found.items place one.0 one.1

pub none_more : (n : ℕ) → 0 + n ≡ n
none_more n = omega arith

-- one step more is one holder less
pub one_longer : (old new : List PathStep) (step : PathStep) (n : ℕ) → new ≡ old ++ step ∷ [] → suc n + length old ≡ n + length new
one_longer old new step n is =
    let longer : length new ≡ length old + 1 = ap length is ∙ length-append old (step ∷ []) in
    omega (arith, longer)

module _ (view : SpaceView) (walk : Walk) (sound : IsSoundWalk view walk) where
  abbrev found : List Found
  found = walk.found.items

  -- what leads to where an object was found names it
  pub names_found : (place : ℕ) (one : Found) (to : Addr) → slice_get found place ≡ Some one → resolve view to ≡ one.at → named_by view to ≡ Some one.id
  names_found place one to is there =
      let it = sound.each place one is in
      ap (λ a. option_map (λ (o : placed.Object). o.id) (object_at view.cars a)) there ∙ ap (option_map (λ (o : placed.Object). o.id)) it.kept.here ∙ ap Some (sym it.identity)

  -- the holder of what was found stands before it
  pub holder_before : (place holder : ℕ) (one : Found) → slice_get found place ≡ Some one → one.from ≡ Some holder → holder < place
  holder_before place holder one is from =
      let led : LeadsTo view found place (Some holder) one.index one.at = subst (λ o. LeadsTo view found place o one.index one.at) from (sound.each place one is).led in
      led.0

  pub holder_there : (place holder : ℕ) (one : Found) → slice_get found place ≡ Some one → one.from ≡ Some holder → holder < length found
  holder_there place holder one is from =
      let led : LeadsTo view found place (Some holder) one.index one.at = subst (λ o. LeadsTo view found place o one.index one.at) from (sound.each place one is).led in
      let there = opened (λ h. IsSomeAnd (stored view (Field h.at one.index)) (λ to. resolve view to ≡ one.at)) (slice_get found holder) led.1 in
      slice_get_within found holder there.0 there.1

  -- a step from the holder
  pub step_from : (place holder : ℕ) (one before : Found) → slice_get found place ≡ Some one → one.from ≡ Some holder → slice_get found holder ≡ Some before → IsStep view before.at (record { index = one.index; id = one.id }) one.at
  step_from place holder one before is from here =
      let led : LeadsTo view found place (Some holder) one.index one.at = subst (λ o. LeadsTo view found place o one.index one.at) from (sound.each place one is).led in
      let there = opened (λ h. IsSomeAnd (stored view (Field h.at one.index)) (λ to. resolve view to ≡ one.at)) (slice_get found holder) led.1 in
      let same : there.0 ≡ before = same_Some there.0 before (sym there.1 ∙ here) in
      let to = opened (λ to. resolve view to ≡ one.at) (stored view (Field before.at one.index)) (subst (λ (h : Found). IsSomeAnd (stored view (Field h.at one.index)) (λ to. resolve view to ≡ one.at)) same there.2) in
      some_with (λ t. (named_by view t ≡ Some one.id) × (resolve view t ≡ one.at)) (stored view (Field before.at one.index)) to.0 to.1 (names_found place one to.0 is to.2, to.2)

  -- one step more
  pub back_once : (place holder : ℕ) (one before : Found) (steps : List PathStep) (id : ℕ) → slice_get found place ≡ Some one → one.from ≡ Some holder → slice_get found holder ≡ Some before → LeadsOn view one.at one.id (reverse steps) id
      → LeadsOn view before.at before.id (reverse (steps ++ record { index = one.index; id = one.id } ∷ [])) id
  back_once place holder one before steps id is from here leads =
      subst (λ ss. LeadsOn view before.at before.id ss id) (sym (reverse-append steps (record { index = one.index; id = one.id } ∷ []))) (one.at, step_from place holder one before is from here, leads)

  pub deep_once : (place holder count : ℕ) (one : Found) → slice_get found place ≡ Some one → one.from ≡ Some holder → IsDeep found count holder → IsDeep found (suc count) place
  deep_once place holder count one is from deep = some_with (λ one. (holder : ℕ) × (one.from ≡ Some holder) × IsDeep found count holder) (slice_get found place) one is (holder, from, deep)

  pub deep_named : (place : ℕ) (one : Found) → slice_get found place ≡ Some one → one.from ≡ None → IsDeep found 0 place
  deep_named place one is from = some_with (λ one. one.from ≡ None) (slice_get found place) one is from

  -- what was found by a name, and the name
  pub named_within : (place : ℕ) (first : Found) → slice_get found place ≡ Some first → first.from ≡ None → first.index < length (entries view.roots)
  named_within place first is from =
      let led : LeadsTo view found place None first.index first.at = subst (λ o. LeadsTo view found place o first.index first.at) from (sound.each place first is).led in
      let e = opened (λ e. resolve view e.1.1 ≡ first.at) (slice_get (entries view.roots) first.index) led in
      slice_get_within (entries view.roots) first.index e.0 e.1

  pub path_back : (place : ℕ) (first : Found) (steps : List PathStep) (id : ℕ) (name : List ℕ) (bound : ℕ × Addr) → slice_get found place ≡ Some first → first.from ≡ None → LeadsOn view first.at first.id (reverse steps) id → slice_get (entries view.roots) first.index ≡ Some (name, bound)
      → IsPath view id (record { name = name; steps = reverse (steps ++ record { index = 0; id = first.id } ∷ []) })
  path_back place first steps id name bound is from leads named =
      let led : LeadsTo view found place None first.index first.at = subst (λ o. LeadsTo view found place o first.index first.at) from (sound.each place first is).led in
      let e = opened (λ e. resolve view e.1.1 ≡ first.at) (slice_get (entries view.roots) first.index) led in
      let same : e.0 ≡ (name, bound) = same_Some e.0 (name, bound) (sym e.1 ∙ named) in
      let there : resolve view bound.1 ≡ first.at = subst (λ (e : List ℕ × (ℕ × Addr)). resolve view e.1.1 ≡ first.at) same e.2 in
      let from_name : LeadsFrom view bound.1 (record { index = 0; id = first.id } ∷ reverse steps) id =
      (refl, names_found place first bound.1 is there, subst (λ a. LeadsOn view a first.id (reverse steps) id) (sym there) leads) in
      some_with (λ bound. LeadsFrom view bound.1 (reverse (steps ++ record { index = 0; id = first.id } ∷ [])) id) (get view.roots name) bound (name_bound view.roots first.index (name, bound) named)
      (subst (λ ss. LeadsFrom view bound.1 ss id) (sym (reverse-append steps (record { index = 0; id = first.id } ∷ []))) from_name)
