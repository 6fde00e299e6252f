-- A space that means the same as another, and keeps the heap law, stands for the same worlds.
use Rattle.std.proofs.Common.{◌≡◌, ℕ, false, ap, sym, subst, ◌∙◌, List, Some}
use Rattle.std.specs.Option.{option_and_then}
use Rattle.std.specs.FinMap.{get}
use Rattle.pm_types.specs.declared.address.Addr.{Addr}
use Rattle.pm_types.specs.declared.object.Object as stored_objects
use Rattle.pm_model.specs.Heap.{Holds}
use Rattle.pm_model.specs.World.{World}
use Rattle.pm_view.specs.View.{SpaceView}
use Rattle.pm_view.specs.Reading.{object_at, is_aside, named_by}
use Rattle.pm_view.specs.Law.{HeapLaw}
use Rattle.pm_view.specs.Represents.{names, meaning, Represents}
use Rattle.pm_law_commands.proofs.RowLemmas.SpreadMeans.{stands_for}

-- an object that stood means what another does: both have one identity
pub record IsSameAs (view t : SpaceView) (object : stored_objects.Object) : Type 0 where
  pub at : Addr
  pub was : stored_objects.Object
  pub kept : is_aside view at.car ≡ false
  pub there : object_at view.cars at ≡ Some was
  pub id : was.id ≡ object.id
  pub meaning : meaning t object ≡ meaning view was

-- t means what view does: names and registers lead to the same identities, and each object that stands in t stood
pub record MeansSame (view t : SpaceView) : Type 0 where
  pub roots : (name : List ℕ) → option_and_then (λ (bound : ℕ × Addr). named_by t bound.1) (get t.roots name) ≡ option_and_then (λ (bound : ℕ × Addr). named_by view bound.1) (get view.roots name)
  pub registers : (place : ℕ × ℕ) → names t (get t.registers place) ≡ names view (get view.registers place)
  pub next : t.next ≡ view.next
  pub objects : (a : Addr) (object : stored_objects.Object) → is_aside t a.car ≡ false → object_at t.cars a ≡ Some object → IsSameAs view t object

-- so it stands for the same worlds
pub means_same : (view t : SpaceView) → HeapLaw t → MeansSame view t → (world : World) → Represents view world → Represents t world
means_same view t law same world stands = stands_for t world law
    (record {
      roots = λ name. stands.roots name ∙ sym (same.roots name);
      registers = λ place. stands.registers place ∙ sym (same.registers place);
      objects = λ a object known free is found.
          let old = same.objects a object free is in
          stands.objects old.at old.was known old.kept old.there (ap (get world.heap) old.id ∙ found) ∙ sym old.meaning;
    })
    (stands.next ∙ sym same.next)
    stands.given
    (λ a object free is none.
    let old = same.objects a object free is in
    let was = stands.leftover old.at old.was old.kept old.there (ap (get world.heap) old.id ∙ none) in
    record {
      name = λ name named. was.name name (named ∙ ap Some (sym old.id));
      register = λ place held. was.register place (held ∙ ap Some (sym old.id));
      field = λ from holds. was.field from (subst (Holds world.heap from) (sym old.id) holds);
    })

-- the heap law is kept, and each world that the space stands for stays
abbrev pub Keeps : SpaceView → SpaceView → Type 0
Keeps view t = HeapLaw t × ((world : World) → Represents view world → Represents t world)

pub keeps : (view t : SpaceView) → HeapLaw t → MeansSame view t → Keeps view t
keeps view t law same = (law, means_same view t law same)

-- nothing changes
pub unchanged_keeps : (view : SpaceView) → HeapLaw view → Keeps view view
unchanged_keeps view law = (law, λ world stands. stands)
