-- The copy of a world is the copy in a space that stands for it.
use Rattle.std.proofs.Common.{◌≡◌, inl, ⊎_elim, ℕ, true, false, cond, refl, ap, sym, subst, ◌∙◌, List, [], ◌∷◌, ◌++◌, map, Option, Some, None, is_some}
use Rattle.std.specs.Option.{option_and_then, option_map}
use Rattle.std.specs.List.{flat_map, AllByRecursion, slice_get}
use Rattle.std.specs.Ordering.{eq_by_cmp}
use Rattle.std.specs.FinMap.{get, entries, get-entries, get-from_entries, same_map}
use Rattle.std.specs.FinMap.Entries.{find}
use Rattle.std.proofs.lemmas.Grind.{flat_map-append}
use Rattle.pm_types.specs.Orders.{name_cmp}
use Rattle.pm_types.proofs.Orders.{names_total, names_antisymmetric}
use Rattle.pm_types.specs.declared.address.Addr.{Addr}
use Rattle.pm_types.specs.declared.object.Object as kept
use Rattle.pm_model.specs.Heap.{Object, Holds}
use Rattle.pm_model.specs.World.{World}
use Rattle.pm_model.specs.Reachability.{IsReachable}
use Rattle.pm_model.specs.Copying.{copied, copy, IsRoot}
use Rattle.pm_image.specs.declared.car.CarImage.{CarImage}
use Rattle.pm_image.specs.declared.catalog.CatEntry.{CatEntry}
use Rattle.pm_image.specs.declared.catalog.CatEntry.TheVariants.{Car, Root}
use Rattle.pm_image.specs.CarPages.{Ascend}
use Rattle.pm_image.specs.Graphs.{resolved, resolved_field, named_root, listed_root, heap_of, roots_of}
use Rattle.pm_image.specs.Leading.{RootLeads}
use Rattle.pm_view.specs.View.{SpaceView}
use Rattle.pm_view.specs.Reading.{object_at, is_aside, named_by}
use Rattle.pm_view.specs.Counts.{IsStanding}
use Rattle.pm_view.specs.Law.{HeapLaw}
use Rattle.pm_view.specs.Represents.{names, meaning, IsForgotten, Represents}
use Rattle.pm_copies.specs.Listed.{listed_cars, root_entry, root_entries, copy_in}
use Rattle.pm_copies.specs.Accepted.{IsAcceptedCar, root_in, roots_in}
use Rattle.pm_copies.specs.Opened.{unnumbered}
use Rattle.pm_law_copies.proofs.Lists.{or_else, all_fields, all_weaker, map_same}
use Rattle.pm_law_copies.proofs.Resolving.{resolved_is, field_leads, root_leads, object_listed}
use Rattle.pm_law_copies.proofs.Accepting.{accepted}
use Rattle.pm_law_copies.proofs.Objects.{told, find_in_two}
use Rattle.pm_law_copies.proofs.Objects as heaps
use Rattle.pm_law_copies.proofs.Alike.{copied_alike, named_last}

-- ---- roots

-- a name and its address, as a root of a copy
abbrev pub as_root : List CarImage → List ℕ × Addr → List (List ℕ × ℕ)
as_root cars root = named_root root.0 (resolved cars root.1)

entry_root : (cars : List CarImage) (entry : CatEntry) → listed_root cars entry ≡ flat_map (as_root cars) (root_in entry)
entry_root cars (Car car train page digest) = refl
entry_root cars (Root name at) = one (resolved cars at)
  where
    one : (o : Option ℕ) → named_root name o ≡ named_root name o ++ []
    one None = refl
    one (Some id) = refl

pub entry_roots : (cars : List CarImage) (entries : List CatEntry) → flat_map (listed_root cars) entries ≡ flat_map (as_root cars) (roots_in entries)
entry_roots cars [] = refl
entry_roots cars (entry ∷ entries) = (λ i. entry_root cars entry i ++ entry_roots cars entries i) ∙ sym (flat_map-append (as_root cars) (root_in entry) (roots_in entries))

-- a root that is found is the first of its name, where each leads to an object
pub root_found : (cars : List CarImage) (roots : List (List ℕ × Addr)) (name : List ℕ) → AllByRecursion (λ (root : List ℕ × Addr). is_some (resolved cars root.1) ≡ true) roots
    → find name_cmp name (flat_map (as_root cars) roots) ≡ option_and_then (resolved cars) (find name_cmp name roots)
root_found cars [] name all = refl
root_found cars (root ∷ roots) name all =
    find_in_two name_cmp name (as_root cars root) (flat_map (as_root cars) roots)
    ∙ ap (or_else (find name_cmp name (as_root cars root))) (root_found cars roots name all.1)
    ∙ step (resolved cars root.1) refl all.0
  where
    step : (o : Option ℕ) → resolved cars root.1 ≡ o → is_some o ≡ true → or_else (find name_cmp name (named_root root.0 o)) (option_and_then (resolved cars) (find name_cmp name roots)) ≡ option_and_then (resolved cars) (cond (eq_by_cmp name_cmp name root.0) (Some root.1) (find name_cmp name roots))
    step None is some = cc
    step (Some id) is some = elim (eq_by_cmp name_cmp name root.0) as (λ b. or_else (cond b (Some id) None) (option_and_then (resolved cars) (find name_cmp name roots)) ≡ option_and_then (resolved cars) (cond b (Some root.1) (find name_cmp name roots))) [
      | true ↦ sym is
      | false ↦ refl
    ]

pub all_roots : (cars : List CarImage) (entries : List CatEntry) → AllByRecursion (RootLeads cars) entries → AllByRecursion (λ (root : List ℕ × Addr). is_some (resolved cars root.1) ≡ true) (roots_in entries)
all_roots cars [] all = tt
all_roots cars (Car car train page digest ∷ entries) all = all_roots cars entries all.1
all_roots cars (Root name at ∷ entries) all = (all.0, all_roots cars entries all.1)

-- what the roots of a copy answer
pub root_of_copy : (cars : List CarImage) (entries : List CatEntry) (name : List ℕ) → AllByRecursion (RootLeads cars) entries → get (roots_of cars entries) name ≡ option_and_then (resolved cars) (find name_cmp name (roots_in entries))
root_of_copy cars entries name all =
    get-from_entries names_total (flat_map (listed_root cars) entries) name
    ∙ ap (find name_cmp name) (entry_roots cars entries)
    ∙ root_found cars (roots_in entries) name (all_roots cars entries all)

-- the roots of a space
pub roots_listed : (es : List (List ℕ × (ℕ × Addr))) → roots_in (map root_entry es) ≡ map unnumbered es
roots_listed [] = refl
roots_listed (e ∷ es) = ap (λ rest. unnumbered e ∷ rest) (roots_listed es)

pub found_unnumbered : (es : List (List ℕ × (ℕ × Addr))) (name : List ℕ) → find name_cmp name (map unnumbered es) ≡ option_map (λ (bound : ℕ × Addr). bound.1) (find name_cmp name es)
found_unnumbered [] name = refl
found_unnumbered (e ∷ es) name = elim (eq_by_cmp name_cmp name e.0) as (λ b. cond b (Some e.1.1) (find name_cmp name (map unnumbered es)) ≡ option_map (λ (bound : ℕ × Addr). bound.1) (cond b (Some e.1) (find name_cmp name es))) [
  | true ↦ refl
  | false ↦ found_unnumbered es name
]

object_with : (o : Option kept.Object) (id : ℕ) → option_map (λ (o : kept.Object). o.id) o ≡ Some id → (object : kept.Object) × (o ≡ Some object) × (object.id ≡ id)
object_with None id is = cc
object_with (Some object) id is = (object, refl, cc)

-- ---- the copy

module _ (view : SpaceView) (law : HeapLaw view) where
  -- an object says the same in both
  field_same : (a : Addr) (object : kept.Object) → is_aside view a.car ≡ false → object_at view.cars a ≡ Some object → (i : ℕ) (field : Option Addr) → slice_get object.fields i ≡ Some field → resolved_field (listed_cars view) field ≡ names view field
  field_same a object free is i None here = refl
  field_same a object free is i (Some to) here = let leads = field_leads view law a object i to free is here in resolved_is view law to leads.0 leads.1

  told_same : (a : Addr) (object : kept.Object) → is_aside view a.car ≡ false → object_at view.cars a ≡ Some object → told (listed_cars view) object ≡ meaning view object
  told_same a object free is =
      let fields = map_same (resolved_field (listed_cars view)) (names view) object.fields (all_fields (λ field. resolved_field (listed_cars view) field ≡ names view field) object.fields (field_same a object free is)) in
      λ i. record { fields = fields i; bytes = object.bytes }

  ascend : AllByRecursion (λ (car : CarImage). Ascend 0 car.slots) (listed_cars view)
  ascend = all_weaker IsAcceptedCar (λ (car : CarImage). Ascend 0 car.slots) (listed_cars view) (λ car is. is.ascend) (accepted view law).cars

  -- the heap of a copy has an object that stands, as it is meant
  pub heap_has : (a : Addr) (object : kept.Object) → is_aside view a.car ≡ false → object_at view.cars a ≡ Some object → get (heap_of (listed_cars view)) object.id ≡ Some (meaning view object)
  heap_has a object free is =
      heaps.object_at (listed_cars view) (accepted view law).differ ascend (accepted view law).apart a object (object_listed view law a object free is) ∙ ap Some (told_same a object free is)

  root_same : (name : List ℕ) (o : Option (ℕ × Addr)) → get view.roots name ≡ o → option_and_then (resolved (listed_cars view)) (option_map (λ (bound : ℕ × Addr). bound.1) o) ≡ option_and_then (λ (bound : ℕ × Addr). named_by view bound.1) o
  root_same name None is = refl
  root_same name (Some bound) is = let leads = root_leads view law name bound is in resolved_is view law bound.1 leads.0 leads.1

  -- the roots of a copy are the names of the space
  pub root_answer : (name : List ℕ) → get (roots_of (listed_cars view) (root_entries view)) name ≡ option_and_then (λ (bound : ℕ × Addr). named_by view bound.1) (get view.roots name)
  root_answer name =
      root_of_copy (listed_cars view) (root_entries view) name (accepted view law).roots
      ∙ ap (λ roots. option_and_then (resolved (listed_cars view)) (find name_cmp name roots)) (roots_listed (entries view.roots))
      ∙ ap (option_and_then (resolved (listed_cars view))) (found_unnumbered (entries view.roots) name ∙ ap (option_map (λ (bound : ℕ × Addr). bound.1)) (sym (get-entries view.roots name)))
      ∙ root_same name (get view.roots name) refl

  module _ (world : World) (represents : Represents view world) where
    same_roots : world.roots ≡ roots_of (listed_cars view) (root_entries view)
    same_roots = same_map names_total names_antisymmetric _ _ (λ name. represents.roots name ∙ sym (root_answer name))

    -- what the roots reach is no leftover
    not_forgotten : (id : ℕ) → IsReachable world.heap (IsRoot world.roots) id → IsForgotten world id → ⊥
    not_forgotten id from forgotten =
        ⊎_elim
        (λ (root : IsRoot world.roots id). forgotten.name root.0 root.1)
        (λ (held : (holder : ℕ) × Holds world.heap holder id). forgotten.field held.0 held.1)
        (named_last world.heap (IsRoot world.roots) from.0 from.1 id from.2 from.3)

    standing : (id : ℕ) → IsReachable world.heap (IsRoot world.roots) id → IsStanding view id
    standing id from = represents.reached id (from.0, from.1, inl from.2, from.3)

    known_same : (a : Addr) (object : kept.Object) → is_aside view a.car ≡ false → object_at view.cars a ≡ Some object → (IsForgotten world object.id → ⊥) → (o : Option Object) → get world.heap object.id ≡ o → get world.heap object.id ≡ Some (meaning view object)
    known_same a object free is known None none = absurd (known (represents.leftover a object free is none))
    known_same a object free is known (Some found) some = some ∙ ap Some (represents.objects a object found free is some)

    agree : (id : ℕ) → IsReachable world.heap (IsRoot world.roots) id → get world.heap id ≡ get (heap_of (listed_cars view)) id
    agree id from =
        let at = standing id from in
        let object = object_with (object_at view.cars at.0) id at.1.here in
        let named : IsForgotten world object.0.id → ⊥ = λ forgotten. not_forgotten id from (subst (IsForgotten world) object.2 forgotten) in
        ap (get world.heap) (sym object.2)
        ∙ known_same at.0 object.0 at.1.kept object.1 named (get world.heap object.0.id) refl
        ∙ sym (heap_has at.0 object.0 at.1.kept object.1)
        ∙ ap (get (heap_of (listed_cars view))) object.2

    -- the copy of a world is the copy in a space that stands for it
    pub worlds_copy : copy world ≡ copy_in view
    worlds_copy =
        copied_alike world.heap (heap_of (listed_cars view)) world.roots agree world.next
        ∙ (λ i. copied (heap_of (listed_cars view)) (same_roots i) (represents.next i))
