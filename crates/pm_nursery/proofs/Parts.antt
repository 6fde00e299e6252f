-- Small steps over options and heaps.
use Rattle.std.proofs.Common.{◌≡◌, ℕ, Bool, true, false, if◌then◌else◌, Option, Some, None, List, [], ◌∷◌, refl, ap, subst, is_some}
use Rattle.std.specs.Option.{IsSome, IsSomeAnd}
use Rattle.std.specs.List.{Contains}
use Rattle.std.specs.FinMap.{get}
use Rattle.pm_model.specs.Heap.{Object, Heap, Holds}
use Rattle.pm_model.specs.Reachability.{Leads}

pub found_of : {A : Type 0} (o : Option A) → IsSome o → (x : A) × (o ≡ Some x)
found_of None is = cc is
found_of (Some x) is = (x, refl)

pub is_there : {A : Type 0} (o : Option A) (x : A) → o ≡ Some x → IsSome o
is_there o x is = ap is_some is

pub none_some : {A : Type 0} (o : Option A) (x : A) → o ≡ None → o ≡ Some x → ⊥
none_some o x none is = cc (none, is)

pub holds_some : (P : Object → Type 0) (o : Option Object) → IsSomeAnd o P → IsSome o
holds_some P None and = absurd and
holds_some P (Some x) and = refl

-- who holds something is there
pub holder : (heap : Heap) (from to : ℕ) → Holds heap from to → (object : Object) × (get heap from ≡ Some object)
holder heap from to holds = found_of (get heap from) (holds_some (λ object. Contains object.fields (Some to)) (get heap from) holds)

-- the same object holds the same
pub same_holds : (heap other : Heap) (from to : ℕ) → get heap from ≡ get other from → Holds heap from to → Holds other from to
same_holds heap other from to is holds = subst (λ (o : Option Object). IsSomeAnd o (λ object. Contains object.fields (Some to))) is holds

-- a path is one of another heap that has what its steps ask
pub leads_there : (heap other : Heap) → ((x y : ℕ) → Holds heap x y → Holds other x y) → (from : ℕ) (path : List ℕ) (to : ℕ) → Leads heap from path to → Leads other from path to
leads_there heap other more from [] to leads = leads
leads_there heap other more from (next ∷ path) to leads = (more from next leads.0, leads_there heap other more next path to leads.1)

-- which of two a test picks
pub picks : {A : Type 0} (b : Bool) (x y : A) → b ≡ true → (if b then x else y) ≡ x
picks true x y is = refl
picks false x y is = cc is

pub passes : {A : Type 0} (b : Bool) (x y : A) → b ≡ false → (if b then x else y) ≡ y
passes true x y is = cc is
passes false x y is = refl
