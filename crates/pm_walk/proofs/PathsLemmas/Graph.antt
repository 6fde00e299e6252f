-- The paths of a space are those of its copy, and lead to what the copy has.
use Rattle.std.proofs.Common.{◌≡◌, ◌↔◌, ℕ, refl, ap, sym, subst, ◌∙◌, List, [], ◌∷◌, map, Option, Some, None, is_some}
use Rattle.std.specs.List.{Contains, slice_get}
use Rattle.std.specs.Option.{IsSome, IsSomeAnd, option_and_then, option_map}
use Rattle.std.specs.FinMap.{get}
use Rattle.std.proofs.lemmas.Option.{same_Some, slice_get-map, slice_get_within, slice_get-get_or, get_or_from_slice_get}
use Rattle.pm_types.specs.declared.address.Addr.{Addr}
use Rattle.pm_types.specs.declared.object.Object as placed
use Rattle.pm_types.specs.declared.source.RefSource.TheVariants.{Field}
use Rattle.pm_model.specs.Heap.{Object, Heap, field_of}
use Rattle.pm_model.specs.Reachability.{Leads}
use Rattle.pm_model.proofs.Reached.{copied_kept, copied_again}
use Rattle.pm_image.specs.Graphs.{heap_of, roots_of}
use Rattle.pm_view.specs.View.{SpaceView}
use Rattle.pm_view.specs.Reading.{stored, resolve, named_by}
use Rattle.pm_view.specs.Law.{HeapLaw}
use Rattle.pm_view.specs.Represents.{names}
use Rattle.pm_copies.specs.Listed.{listed_cars, root_entries, copy_in}
use Rattle.pm_law_copies.specs.Walks.Kept.{IsKeptAt}
use Rattle.pm_law_copies.proofs.WalksLemmas.Walked.{names_led, root_kept, field_kept, holds}
use Rattle.pm_walk.proofs.Steps.{field_stored, stored_field}
use Rattle.pm_walk.specs.declared.paths.path.PathStep.{PathStep}
use Rattle.pm_walk.specs.Paths.Paths.{Path, IsStep, LeadsOn, LeadsFrom, IsPath, IsHeldOn, IsHeldFrom, IsPathOf, IsReached}

-- ---- options and lists

-- a value that is there, with what holds of it
pub opened : {A : Type 0} (P : A → Type 0) (o : Option A) → IsSomeAnd o P → (x : A) × (o ≡ Some x) × P x
opened P None and = absurd and
opened P (Some x) and = (x, refl, and)

pub some_with : {A : Type 0} (P : A → Type 0) (o : Option A) (x : A) → o ≡ Some x → P x → IsSomeAnd o P
some_with P o x is holds = subst (λ o. IsSomeAnd o P) (sym is) holds

at_place : {X : Type 0} (xs : List X) (index : ℕ) (x : X) → slice_get xs index ≡ Some x → Contains xs x
at_place xs index x is = (index, slice_get_within xs index x is, get_or_from_slice_get xs index x x is)

place_of : {X : Type 0} (xs : List X) (x : X) → Contains xs x → (index : ℕ) × (slice_get xs index ≡ Some x)
place_of xs x within = (within.0, slice_get-get_or xs within.0 x within.1 ∙ ap Some within.2)

pub none_some : {A : Type 0} (o : Option A) → o ≡ None → IsSome o → ⊥
none_some None is some = cc some
none_some (Some x) is some = cc is

some_is : {A : Type 0} (o : Option A) → IsSome o → (x : A) × (o ≡ Some x)
some_is None is = cc is
some_is (Some x) is = (x, refl)

-- a field that stands for an identity has an address that leads to it
led_by : (view : SpaceView) (id : ℕ) (o : Option (Option Addr)) → option_map (names view) o ≡ Some (Some id) → (to : Addr) × (o ≡ Some (Some to)) × (named_by view to ≡ Some id)
led_by view id None is = cc
led_by view id (Some None) is = cc
led_by view id (Some (Some to)) is = (to, refl, cc)

-- a name that stands for an identity is bound to an address that leads to it
bound_by : (view : SpaceView) (id : ℕ) (o : Option (ℕ × Addr)) → option_and_then (λ (bound : ℕ × Addr). named_by view bound.1) o ≡ Some id → (bound : ℕ × Addr) × (o ≡ Some bound) × (named_by view bound.1 ≡ Some id)
bound_by view id None is = cc
bound_by view id (Some bound) is = (bound, refl, is)

-- ---- what is held in a heap

-- a field that holds an identity
field_holds : (o : Option Object) (index id : ℕ) → field_of o index ≡ Some (Some id) → IsSomeAnd o (λ object. Contains object.fields (Some id))
field_holds None index id is = cc
field_holds (Some object) index id is = at_place object.fields index (Some id) is

holds_field : (o : Option Object) (id : ℕ) → IsSomeAnd o (λ object. Contains object.fields (Some id)) → (index : ℕ) × (field_of o index ≡ Some (Some id))
holds_field None id and = absurd and
holds_field (Some object) id and = place_of object.fields (Some id) and

-- the identities of steps
abbrev ids : List PathStep → List ℕ
ids steps = map (λ (step : PathStep). step.id) steps

held_leads : (heap : Heap) (here : ℕ) (steps : List PathStep) (id : ℕ) → IsHeldOn heap here steps id → Leads heap here (ids steps) id
held_leads heap here [] id held = held
held_leads heap here (step ∷ steps) id held = (field_holds (get heap here) step.index step.id held.0, held_leads heap step.id steps id held.1)

leads_held : (heap : Heap) (here : ℕ) (path : List ℕ) (id : ℕ) → Leads heap here path id → (steps : List PathStep) × IsHeldOn heap here steps id
leads_held heap here [] id leads = ([], leads)
leads_held heap here (next ∷ path) id leads =
    let field = holds_field (get heap here) next leads.0 in
    let rest = leads_held heap next path id leads.1 in
    (record { index = field.0; id = next } ∷ rest.0, (field.1, rest.1))

module _ (view : SpaceView) (law : HeapLaw view) where
  abbrev heap : Heap
  heap = (copy_in view).heap

  -- ---- one step

  -- a step from an object of the copy leads to one of the copy, whose identity the object holds
  stepped : (at : Addr) (object : placed.Object) (step : PathStep) (next : Addr) → IsKeptAt view at object → IsStep view at step next → (held : placed.Object) × IsKeptAt view next held × (held.id ≡ step.id) × (field_of (get heap object.id) step.index ≡ Some (Some step.id))
  stepped at object step next kept is =
      let to = opened (λ to. (named_by view to ≡ Some step.id) × (resolve view to ≡ next)) (stored view (Field at step.index)) is in
      let field : slice_get object.fields step.index ≡ Some (Some to.0) = stored_field view at object step.index to.0 kept.here to.1 in
      let held = field_kept view law at object step.index to.0 kept field in
      let same : held.0.id ≡ step.id = same_Some held.0.id step.id (sym (ap (option_map (λ (o : placed.Object). o.id)) held.1.here) ∙ to.2.0) in
      (held.0, subst (λ a. IsKeptAt view a held.0) to.2.1 held.1, same, holds view at object step.index (Some to.0) kept field ∙ ap Some to.2.0)

  -- where the object holds an identity, a step leads there
  steps_to : (at : Addr) (object : placed.Object) (step : PathStep) → IsKeptAt view at object → field_of (get heap object.id) step.index ≡ Some (Some step.id) → (next : Addr) × IsStep view at step next
  steps_to at object step kept held =
      let there : slice_get (map (names view) object.fields) step.index ≡ Some (Some step.id) = sym (ap (λ o. field_of o step.index) kept.kept) ∙ held in
      let to = led_by view step.id (slice_get object.fields step.index) (sym (slice_get-map (names view) object.fields step.index) ∙ there) in
      (resolve view to.0, some_with (λ a. (named_by view a ≡ Some step.id) × (resolve view a ≡ resolve view to.0)) (stored view (Field at step.index)) to.0 (field_stored view at object step.index to.0 kept.here to.1) (to.2, refl))

  -- ---- steps from an object of the copy

  on_held : (at : Addr) (object : placed.Object) (steps : List PathStep) (id : ℕ) → IsKeptAt view at object → LeadsOn view at object.id steps id → IsHeldOn heap object.id steps id
  on_held at object [] id kept leads = leads
  on_held at object (step ∷ steps) id kept leads =
      let next = stepped at object step leads.0 kept leads.1 in
      (next.3, subst (λ n. IsHeldOn heap n steps id) next.2 (on_held leads.0 next.0 steps id next.1 (subst (λ n. LeadsOn view leads.0 n steps id) (sym next.2) leads.2)))

  held_on : (at : Addr) (object : placed.Object) (steps : List PathStep) (id : ℕ) → IsKeptAt view at object → IsHeldOn heap object.id steps id → LeadsOn view at object.id steps id
  held_on at object [] id kept held = held
  held_on at object (step ∷ steps) id kept held =
      let way = steps_to at object step kept held.0 in
      let next = stepped at object step way.0 kept way.1 in
      (way.0, way.1, subst (λ n. LeadsOn view way.0 n steps id) next.2 (held_on way.0 next.0 steps id next.1 (subst (λ n. IsHeldOn heap n steps id) (sym next.2) held.1)))

  end_kept : (at : Addr) (object : placed.Object) (steps : List PathStep) (id : ℕ) → IsKeptAt view at object → LeadsOn view at object.id steps id → IsSome (get heap id)
  end_kept at object [] id kept leads = ap is_some (ap (get heap) (sym leads) ∙ kept.kept)
  end_kept at object (step ∷ steps) id kept leads =
      let next = stepped at object step leads.0 kept leads.1 in
      end_kept leads.0 next.0 steps id next.1 (subst (λ n. LeadsOn view leads.0 n steps id) (sym next.2) leads.2)

  -- ---- paths

  -- the object of a name
  pub named_kept : (name : List ℕ) (bound : ℕ × Addr) (id : ℕ) → get view.roots name ≡ Some bound → named_by view bound.1 ≡ Some id → (object : placed.Object) × IsKeptAt view (resolve view bound.1) object × (object.id ≡ id)
  named_kept name bound id is named =
      let there = root_kept view law name bound is in
      (there.0, there.1, same_Some there.0.id id (sym (ap (option_map (λ (o : placed.Object). o.id)) there.1.here) ∙ named))

  from_held : (name : List ℕ) (bound : ℕ × Addr) (steps : List PathStep) (id : ℕ) → get view.roots name ≡ Some bound → LeadsFrom view bound.1 steps id → IsHeldFrom heap (get (copy_in view).roots name) steps id
  from_held name bound [] id is leads = leads
  from_held name bound (first ∷ steps) id is leads =
      let object = named_kept name bound first.id is leads.1 in (
        leads.0,
        names_led view law name ∙ ap (option_and_then (λ (bound : ℕ × Addr). named_by view bound.1)) is ∙ leads.1,
        subst (λ n. IsHeldOn heap n steps id) object.2 (on_held (resolve view bound.1) object.0 steps id object.1 (subst (λ n. LeadsOn view (resolve view bound.1) n steps id) (sym object.2) leads.2)),
      )

  held_from : (name : List ℕ) (steps : List PathStep) (id : ℕ) → IsHeldFrom heap (get (copy_in view).roots name) steps id → IsSomeAnd (get view.roots name) (λ bound. LeadsFrom view bound.1 steps id)
  held_from name [] id held = absurd held
  held_from name (first ∷ steps) id held =
      let bound = bound_by view first.id (get view.roots name) (sym (names_led view law name) ∙ held.1) in
      let object = named_kept name bound.0 first.id bound.1 bound.2 in
      some_with (λ bound. LeadsFrom view bound.1 (first ∷ steps) id) (get view.roots name) bound.0 bound.1
      (held.0, bound.2, subst (λ n. LeadsOn view (resolve view bound.0.1) n steps id) object.2 (held_on (resolve view bound.0.1) object.0 steps id object.1 (subst (λ n. IsHeldOn heap n steps id) (sym object.2) held.2)))

  pub path_of_copy : (id : ℕ) (path : Path) → IsPath view id path ↔ IsPathOf (copy_in view) id path
  path_of_copy id path = (
    λ is. let bound = opened (λ bound. LeadsFrom view bound.1 path.steps id) (get view.roots path.name) is in from_held path.name bound.0 path.steps id bound.1 bound.2,
    held_from path.name path.steps id,
  )

  held_reached : (name : List ℕ) (steps : List PathStep) (id : ℕ) → IsHeldFrom heap (get (copy_in view).roots name) steps id → IsReached (copy_in view) id
  held_reached name [] id held = absurd held
  held_reached name (first ∷ steps) id held = (first.id, ids steps, (name, held.1), held_leads heap first.id steps id held.2)

  pub path_reached : (id : ℕ) (path : Path) → IsPath view id path → IsReached (copy_in view) id
  path_reached id path is = held_reached path.name path.steps id ((path_of_copy id path).0 is)

  from_kept : (name : List ℕ) (bound : ℕ × Addr) (steps : List PathStep) (id : ℕ) → get view.roots name ≡ Some bound → LeadsFrom view bound.1 steps id → IsSome (get heap id)
  from_kept name bound [] id is leads = absurd leads
  from_kept name bound (first ∷ steps) id is leads =
      let object = named_kept name bound first.id is leads.1 in
      end_kept (resolve view bound.1) object.0 steps id object.1 (subst (λ n. LeadsOn view (resolve view bound.1) n steps id) (sym object.2) leads.2)

  pub path_kept : (id : ℕ) (path : Path) → IsPath view id path → IsSome (get heap id)
  path_kept id path is = let bound = opened (λ bound. LeadsFrom view bound.1 path.steps id) (get view.roots path.name) is in from_kept path.name bound.0 path.steps id bound.1 bound.2

  pub reached_path : (id : ℕ) → IsReached (copy_in view) id → (path : Path) × IsPath view id path
  reached_path id reached =
      let steps = leads_held heap reached.0 reached.1 id reached.3 in
      let path : Path = record { name = reached.2.0; steps = record { index = 0; id = reached.0 } ∷ steps.0 } in
      (path, (path_of_copy id path).1 (refl, reached.2.1, steps.1))

  -- what the copy has its own names reach
  pub kept_reached : (id : ℕ) → IsSome (get heap id) → IsReached (copy_in view) id
  kept_reached id some =
      let object = some_is (get heap id) some in
      let again = copied_again (heap_of (listed_cars view)) (roots_of (listed_cars view) (root_entries view)) view.next in
      (copied_kept heap (copy_in view).roots view.next id object.0 (ap (λ c. get c.heap id) again ∙ object.1)).1
