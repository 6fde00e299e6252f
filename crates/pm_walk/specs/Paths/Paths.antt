-- Paths: what leads from a name, field by field, to an object.
use Rattle.std.specs.Prelude.{◌≡◌, ◌≤◌, ℕ, List, [], ◌∷◌, length, Option, Some, IsSomeAnd}
use Rattle.std.specs.FinMap.{get}
use Rattle.pm_types.specs.declared.address.Addr.{Addr}
use Rattle.pm_types.specs.declared.source.RefSource.TheVariants.{Field}
use Rattle.pm_model.specs.Heap.{Heap, field_of}
use Rattle.pm_model.specs.World.{Copy}
use Rattle.pm_model.specs.Reachability.{IsReachable}
use Rattle.pm_model.specs.Copying.{IsRoot}
use Rattle.pm_view.specs.View.{SpaceView}
use Rattle.pm_view.specs.Reading.{stored, resolve, named_by}
use Rattle.pm_walk.specs.declared.paths.path.PathStep.{PathStep}

-- a path: a name and steps, the first of which has the identity of the name's object under index 0
pub record Path : Type 0 where
  pub name : List ℕ
  pub steps : List PathStep

-- A step from the object at an address: the field of that index leads to an object of that identity, and it lies at the
-- other address.
abbrev pub IsStep : SpaceView → Addr → PathStep → Addr → Type 0
IsStep view at step next = IsSomeAnd (stored view (Field at step.index)) (λ to. (named_by view to ≡ Some step.id) × (resolve view to ≡ next))

-- the steps lead from the object at the address, of the first identity, to the object of the last one
abbrev pub LeadsOn : SpaceView → Addr → ℕ → List PathStep → ℕ → Type 0
LeadsOn view at here [] id = here ≡ id
LeadsOn view at here (step ∷ steps) id = (next : Addr) × IsStep view at step next × LeadsOn view next step.id steps id

-- The steps lead from what a name is bound to: there is a first one, of index 0 and with the identity of the object to
-- which the name leads, and the others lead on.
abbrev pub LeadsFrom : SpaceView → Addr → List PathStep → ℕ → Type 0
LeadsFrom view bound [] id = ⊥
LeadsFrom view bound (first ∷ steps) id = (first.index ≡ 0) × (named_by view bound ≡ Some first.id) × LeadsOn view (resolve view bound) first.id steps id

-- the path leads through the space, from its name to the object of this identity
abbrev pub IsPath : SpaceView → ℕ → Path → Type 0
IsPath view id path = IsSomeAnd (get view.roots path.name) (λ bound. LeadsFrom view bound.1 path.steps id)

-- no path to this identity has fewer steps
abbrev pub IsShortestPath : SpaceView → ℕ → Path → Type 0
IsShortestPath view id path = (other : Path) → IsPath view id other → length path.steps ≤ length other.steps

-- in the heap, each step's identity is held by the object of the one before, in the field of the step's index
abbrev pub IsHeldOn : Heap → ℕ → List PathStep → ℕ → Type 0
IsHeldOn heap here [] id = here ≡ id
IsHeldOn heap here (step ∷ steps) id = (field_of (get heap here) step.index ≡ Some (Some step.id)) × IsHeldOn heap step.id steps id

abbrev pub IsHeldFrom : Heap → Option ℕ → List PathStep → ℕ → Type 0
IsHeldFrom heap root [] id = ⊥
IsHeldFrom heap root (first ∷ steps) id = (first.index ≡ 0) × (root ≡ Some first.id) × IsHeldOn heap first.id steps id

-- the path leads through the copy: its name stands for the first identity, and each one holds the next
abbrev pub IsPathOf : Copy → ℕ → Path → Type 0
IsPathOf copy id path = IsHeldFrom copy.heap (get copy.roots path.name) path.steps id

-- the names of the copy reach the identity
abbrev pub IsReached : Copy → ℕ → Type 0
IsReached copy id = IsReachable copy.heap (IsRoot copy.roots) id
