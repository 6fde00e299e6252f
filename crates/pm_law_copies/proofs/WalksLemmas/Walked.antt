-- The addresses of a space lead from its names through all objects of its copy, and to no other.
use Rattle.std.proofs.Common.{◌≡◌, ℕ, Bool, IsTrue, true, false, refl, ap, sym, subst, ◌∙◌, List, [], map, Option, Some, None, is_some}
use Rattle.std.specs.Option.{IsSome, IsSomeAnd, IfSome, option_and_then, option_map}
use Rattle.std.specs.List.{Contains, slice_get}
use Rattle.std.specs.FinMap.{get}
use Rattle.std.proofs.lemmas.Option.{slice_get-map, slice_get_within, slice_get-get_or, get_or_from_slice_get}
use Rattle.pm_types.specs.declared.address.Addr.{Addr}
use Rattle.pm_types.specs.declared.object.Object as stored
use Rattle.pm_types.specs.declared.object.Slot.{Slot}
use Rattle.pm_types.specs.declared.object.Slot.TheVariants.{Live, Moved}
use Rattle.pm_cars.specs.Cars.{look_of}
use Rattle.pm_model.specs.Heap.{Object, Heap, Holds, field_of}
use Rattle.pm_model.specs.World.{Roots}
use Rattle.pm_model.specs.Reachability.{IsReachable}
use Rattle.pm_model.specs.Copying.{IsRoot}
use Rattle.pm_model.proofs.Reaching.{reachable_next, along}
use Rattle.pm_model.proofs.Reached.{copied_kept, copied_reached}
use Rattle.pm_image.specs.Graphs.{heap_of, roots_of}
use Rattle.pm_view.specs.View.{SpaceView}
use Rattle.pm_view.specs.Reading.{slot_at, object_at, is_aside, followed, resolve, named_by}
use Rattle.pm_view.specs.Seen.{seen, Leads}
use Rattle.pm_view.specs.Law.{HeapLaw}
use Rattle.pm_view.specs.Represents.{names, meaning}
use Rattle.pm_copies.specs.Listed.{listed_cars, root_entries, copy_in}
use Rattle.pm_law_copies.proofs.Resolving.{field_leads, root_leads, named_some}
use Rattle.pm_law_copies.proofs.CopyOf.{heap_has, root_answer}
use Rattle.pm_law_copies.proofs.WorldOf.{has_what_stands}
use Rattle.pm_law_copies.specs.Walks.Kept.{IsKeptAt}

-- ---- options and lists

found_of : {A : Type 0} (o : Option A) → IsSome o → (x : A) × (o ≡ Some x)
found_of None is = cc is
found_of (Some x) is = (x, refl)

with_identity : (o : Option stored.Object) → is_some (option_map (λ (o : stored.Object). o.id) o) ≡ true → (object : stored.Object) × (o ≡ Some object)
with_identity None some = cc
with_identity (Some object) some = (object, refl)

object_with : (o : Option stored.Object) (id : ℕ) → option_map (λ (o : stored.Object). o.id) o ≡ Some id → (object : stored.Object) × (o ≡ Some object) × (object.id ≡ id)
object_with None id is = cc
object_with (Some object) id is = (object, refl, cc)

contains_at : {X : Type 0} (xs : List X) (index : ℕ) (x : X) → slice_get xs index ≡ Some x → Contains xs x
contains_at xs index x is = (index, slice_get_within xs index x is, get_or_from_slice_get xs index x x is)

at_index : {X : Type 0} (xs : List X) (x : X) → Contains xs x → (index : ℕ) × (slice_get xs index ≡ Some x)
at_index xs x within = (within.0, slice_get-get_or xs within.0 x within.1 ∙ ap Some within.2)

-- what a field holds that leads to this identity
field_found : (view : SpaceView) (to : ℕ) (o : Option (Option Addr)) → option_map (names view) o ≡ Some (Some to) → (a : Addr) × (o ≡ Some (Some a)) × (named_by view a ≡ Some to)
field_found view to None is = cc
field_found view to (Some None) is = cc
field_found view to (Some (Some a)) is = (a, refl, cc)

known : {A : Type 0} (P : A → Type 0) (o : Option A) (x : A) → o ≡ Some x → IfSome o P → P x
known P o x is if = subst (λ o. IfSome o P) is if

both_known : {A : Type 0} (P : A → Type 0) (o : Option A) (x : A) → o ≡ Some x → IsSomeAnd o P → P x
both_known P o x is and = subst (λ o. IsSomeAnd o P) is and

holds_some : (P : Object → Type 0) (o : Option Object) → IsSomeAnd o P → IsSome o
holds_some P None and = absurd and
holds_some P (Some x) and = refl

module _ (view : SpaceView) where
  -- a field of an object that stands, as the copy has it
  meant_field : (object : stored.Object) (index : ℕ) (field : Option Addr) → slice_get object.fields index ≡ Some field → slice_get (map (names view) object.fields) index ≡ Some (names view field)
  meant_field object index field is = slice_get-map (names view) object.fields index ∙ ap (option_map (names view)) is

  -- an object of the copy holds in each field the identity to which the field leads
  pub holds : (a : Addr) (object : stored.Object) (index : ℕ) (field : Option Addr) → IsKeptAt view a object → slice_get object.fields index ≡ Some field → field_of (get (copy_in view).heap object.id) index ≡ Some (names view field)
  holds a object index field at is = ap (λ o. field_of o index) at.kept ∙ meant_field object index field is

module _ (view : SpaceView) (law : HeapLaw view) where
  abbrev heap : Heap
  heap = heap_of (listed_cars view)

  abbrev roots : Roots
  roots = roots_of (listed_cars view) (root_entries view)

  abbrev Reached : ℕ → Type 0
  Reached id = IsReachable heap (IsRoot roots) id

  -- the names of the copy, each with the identity to which its address leads
  pub names_led : (name : List ℕ) → get (copy_in view).roots name ≡ option_and_then (λ (bound : ℕ × Addr). named_by view bound.1) (get view.roots name)
  names_led name = root_answer view law name

  -- an object that stands and is reached is one of the copy
  kept_at : (a : Addr) (object : stored.Object) → is_aside view a.car ≡ false → object_at view.cars a ≡ Some object → Reached object.id → IsKeptAt view a object
  kept_at a object free is reached = record {
    stands = free;
    here = is;
    kept = copied_reached heap roots view.next object.id (meaning view object) reached (heap_has view law a object free is);
  }

  -- and one of the copy is reached
  kept_reached : (a : Addr) (object : stored.Object) → IsKeptAt view a object → Reached object.id
  kept_reached a object at = (copied_kept heap roots view.next object.id (meaning view object) at.kept).1

  -- where an address leads is not set aside
  free_through : (a : Addr) (o : Option Slot) → Leads (seen view) a (look_of o) → is_aside view a.car ≡ false → is_aside view (followed o a).car ≡ false
  free_through a None leads free = absurd leads
  free_through a (Some (Live object)) leads free = free
  free_through a (Some (Moved to)) leads free = leads.1.1

  -- an address that leads somewhere leads to an object
  led : (a : Addr) → is_aside view a.car ≡ false → Leads (seen view) a (look_of (slot_at view.cars a)) → (object : stored.Object) × (object_at view.cars (resolve view a) ≡ Some object)
  led a free leads = with_identity (object_at view.cars (resolve view a)) (named_some view law a free leads)

  -- the address of a name leads to an object of the copy
  pub root_kept : (name : List ℕ) (bound : ℕ × Addr) → get view.roots name ≡ Some bound → (object : stored.Object) × IsKeptAt view (resolve view bound.1) object
  root_kept name bound is =
      let leads = root_leads view law name bound is in
      let object = led bound.1 leads.0 leads.1 in
      let named : get roots name ≡ Some object.0.id =
      root_answer view law name ∙ ap (option_and_then (λ (bound : ℕ × Addr). named_by view bound.1)) is
      ∙ ap (option_map (λ (o : stored.Object). o.id)) object.1 in
      (object.0, kept_at (resolve view bound.1) object.0 (free_through bound.1 (slot_at view.cars bound.1) leads.1 leads.0) object.1 (object.0.id, [], (name, named), refl))

  -- what is held by a reached identity is reached
  field_reached : (object held : stored.Object) (index : ℕ) (to : Addr) → get heap object.id ≡ Some (meaning view object) → Reached object.id → slice_get object.fields index ≡ Some (Some to) → named_by view to ≡ Some held.id → Reached held.id
  field_reached object held index to is reached here named =
      let within : Contains (meaning view object).fields (Some held.id) =
      contains_at (map (names view) object.fields) index (Some held.id) (meant_field view object index (Some to) here ∙ ap Some named) in
      reachable_next heap (IsRoot roots) object.id held.id reached (subst (λ (o : Option Object). IsSomeAnd o (λ object. Contains object.fields (Some held.id))) (sym is) within)

  -- and so does each field of an object of the copy
  pub field_kept : (a : Addr) (object : stored.Object) (index : ℕ) (to : Addr) → IsKeptAt view a object → slice_get object.fields index ≡ Some (Some to) → (held : stored.Object) × IsKeptAt view (resolve view to) held
  field_kept a object index to at here =
      let leads = field_leads view law a object index to at.stands at.here here in
      let held = led to leads.0 leads.1 in
      let known = copied_kept heap roots view.next object.id (meaning view object) at.kept in (
        held.0,
        kept_at (resolve view to) held.0 (free_through to (slot_at view.cars to) leads.1 leads.0) held.1
            (field_reached object held.0 index to known.0 known.1 here (ap (option_map (λ (o : stored.Object). o.id)) held.1)),
      )

  -- an object of the heap that is reached lies at an address
  lies_at : (id : ℕ) → IsSome (get heap id) → Reached id → (a : Addr) × (object : stored.Object) × IsKeptAt view a object × (object.id ≡ id)
  lies_at id some reached =
      let standing = (has_what_stands view law).heap id in
      let at = standing.0 some in
      let object = object_with (object_at view.cars at.0) id at.1.here in
      (at.0, object.0, kept_at at.0 object.0 at.1.kept object.1 (subst Reached (sym object.2) reached), object.2)

  -- each object of the copy lies at an address
  pub lies : (id : ℕ) → IsSome (get (copy_in view).heap id) → (a : Addr) × (object : stored.Object) × IsKeptAt view a object × (object.id ≡ id)
  lies id some =
      let found = found_of (get (copy_in view).heap id) some in
      let known = copied_kept heap roots view.next id found.0 found.1 in
      lies_at id (subst (λ (o : Option Object). IsSome o) (sym known.0) refl) known.1

  module _ (inside : ℕ → Bool) (first : (name : List ℕ) (bound : ℕ × Addr) → get view.roots name ≡ Some bound → IfSome (named_by view bound.1) (λ id. IsTrue (inside id)))
      (next : (a : Addr) (object : stored.Object) (index : ℕ) (to : Addr) → IsKeptAt view a object → IsTrue (inside object.id) → slice_get object.fields index ≡ Some (Some to) → IfSome (named_by view to) (λ id. IsTrue (inside id))) where
    -- an identity that is reached, and inside
    abbrev IsIn : ℕ → Type 0
    IsIn id = Reached id × IsTrue (inside id)

    root_in : (id : ℕ) → IsRoot roots id → IsIn id
    root_in id root =
        let bound = named_bound (get view.roots root.0) (sym (root_answer view law root.0) ∙ root.1) in
        ((id, [], root, refl), known (λ id. IsTrue (inside id)) (named_by view bound.0.1) id bound.2 (first root.0 bound.0 bound.1))
      where
        named_bound : (o : Option (ℕ × Addr)) → option_and_then (λ (bound : ℕ × Addr). named_by view bound.1) o ≡ Some id → (bound : ℕ × Addr) × (o ≡ Some bound) × (named_by view bound.1 ≡ Some id)
        named_bound None is = cc
        named_bound (Some bound) is = (bound, refl, is)

    held_in : (from to : ℕ) → IsIn from → Holds heap from to → IsIn to
    held_in from to is holds =
        let at = lies_at from (holds_some (λ object. Contains object.fields (Some to)) (get heap from) holds) is.0 in
        let meant : get heap from ≡ Some (meaning view at.1) = ap (get heap) (sym at.3) ∙ heap_has view law at.0 at.1 at.2.stands at.2.here in
        let held = at_index (map (names view) at.1.fields) (Some to) (both_known (λ object. Contains object.fields (Some to)) (get heap from) (meaning view at.1) meant holds) in
        let field = field_found view to (slice_get at.1.fields held.0) (sym (slice_get-map (names view) at.1.fields held.0) ∙ held.1) in (
          reachable_next heap (IsRoot roots) from to is.0 holds,
          known (λ id. IsTrue (inside id)) (named_by view field.0) to field.2 (next at.0 at.1 held.0 field.0 at.2 (subst (λ id. IsTrue (inside id)) (sym at.3) is.1) field.1),
        )

    -- all of the copy is inside
    pub least : (id : ℕ) → IsSome (get (copy_in view).heap id) → IsTrue (inside id)
    least id some =
        let found = found_of (get (copy_in view).heap id) some in
        let path = (copied_kept heap roots view.next id found.0 found.1).1 in
        (along heap IsIn held_in path.0 path.1 id (root_in path.0 path.2) path.3).1
