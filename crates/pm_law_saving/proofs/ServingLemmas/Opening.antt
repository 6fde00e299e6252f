-- The world of a copy that was just opened, in which whatever is named is an object.
use Rattle.std.proofs.Common.{◌≡◌, ◌<◌, ◌≤◌, ℕ, zero, suc, List, [], ◌∷◌, map, slice_get, Option, Some, None, option_map, refl, sym, ap, subst, ◌∙◌}
use Rattle.std.specs.List.{AllByRecursion}
use Rattle.std.specs.Option.{IsSome, is_some, option_and_then}
use Rattle.std.specs.FinMap.{get, find}
use Rattle.pm_types.specs.declared.limits.TheConstants.{FIELDS}
use Rattle.pm_types.specs.declared.address.Addr.{Addr}
use Rattle.pm_types.specs.declared.object.Object as kept
use Rattle.pm_types.specs.declared.object.Slot.{Slot}
use Rattle.pm_types.specs.declared.object.Slot.TheVariants.{Live, Moved}
use Rattle.pm_types.specs.Orders.{name_cmp}
use Rattle.pm_layout.specs.Spelling.{HasSpelling}
use Rattle.pm_model.specs.Heap.{Object}
use Rattle.pm_model.specs.World.{begin}
use Rattle.pm_model.specs.Closed.{IsClosed, IsClosedGraph}
use Rattle.pm_model.proofs.ClosedLaws.{begin_closed, copied_closed, field_cases}
use Rattle.pm_image.specs.declared.car.CarImage.{CarImage}
use Rattle.pm_image.specs.declared.catalog.CatEntry.{CatEntry}
use Rattle.pm_image.specs.CarPages.{Ascend}
use Rattle.pm_image.specs.Graphs.{heap_of, identity_in, identity_through, resolved, resolved_field, roots_of, slot_named}
use Rattle.pm_view.specs.View.{SpaceView}
use Rattle.pm_view.specs.Represents.{Represents}
use Rattle.pm_copies.specs.Listed.{Listed, copy_in, copy_listed, images}
use Rattle.pm_copies.specs.Accepted as accepted
use Rattle.pm_copies.specs.Accepted.{IsAccepted, roots_in}
use Rattle.pm_copies.specs.Opened.{IsOpened}
use Rattle.pm_law_copies.proofs.Lists.{all_weaker}
use Rattle.pm_law_copies.proofs.Naming.{all_named}
use Rattle.pm_law_copies.proofs.Objects.{told}
use Rattle.pm_law_copies.proofs.Objects as heaps
use Rattle.pm_law_copies.proofs.CopyOf.{root_of_copy}
use Rattle.pm_law_copies.proofs.OpenedStands.{stands, saves_again}
use Rattle.pm_saving.specs.Progress.{Saving}
use Rattle.pm_saving.specs.Serving.{IsServed, just_opened, numbered_copy}

is_there : {X : Type 0} (found : Option X) (x : X) → found ≡ Some x → IsSome found
is_there found x is = ap is_some is

-- what a field of an object says, one by one
field_told : (cars : List CarImage) (fields : List (Option Addr)) (index to : ℕ) → slice_get (map (resolved_field cars) fields) index ≡ Some (Some to) → (at : Addr) × (resolved cars at ≡ Some to)
field_told cars [] index to is = cc
field_told cars (None ∷ fields) zero to is = cc
field_told cars (Some at ∷ fields) zero to is = (at, cc)
field_told cars (field ∷ fields) (suc index) to is = field_told cars fields index to is

-- what a name stands for is what its address leads to
root_told : (cars : List CarImage) (found : Option Addr) (id : ℕ) → option_and_then (resolved cars) found ≡ Some id → (at : Addr) × (resolved cars at ≡ Some id)
root_told cars None id is = cc
root_told cars (Some at) id is = (at, is)

module _ (list : List Listed) (catalog : List CatEntry) (next_id : ℕ) (ok : IsAccepted list catalog next_id) where
  cars : List CarImage
  cars = images list

  ascend : AllByRecursion (λ (car : CarImage). Ascend 0 car.slots) (images list)
  ascend = all_weaker accepted.IsAcceptedCar (λ (car : CarImage). Ascend 0 car.slots) (images list) (λ car is. is.ascend) ok.cars

  spelled : (a : Addr) (object : kept.Object) → slot_named (images list) a ≡ Some (Live object) → HasSpelling FIELDS (Live object)
  spelled a object is = all_named (λ (e : ℕ × Slot). HasSpelling FIELDS e.1) (images list) a (Live object)
      (all_weaker accepted.IsAcceptedCar (λ (car : CarImage). AllByRecursion (λ (e : ℕ × Slot). HasSpelling FIELDS e.1) car.slots) (images list) (λ car is. is.slots) ok.cars) is

  in_heap : (a : Addr) (object : kept.Object) → slot_named (images list) a ≡ Some (Live object) → IsSome (get (heap_of (images list)) object.id)
  in_heap a object is = is_there _ (told (images list) object) (heaps.object_at (images list) ok.differ ascend ok.apart a object is)

  in_heap_at : (a : Addr) (found : Option Slot) (id : ℕ) → slot_named (images list) a ≡ found → identity_in found ≡ Some id → IsSome (get (heap_of (images list)) id)
  in_heap_at a None id is leads = cc
  in_heap_at a (Some (Live object)) id is leads = subst (λ (n : ℕ). IsSome (get (heap_of (images list)) n)) (same object.id id leads) (in_heap a object is)
    where
      same : (m n : ℕ) → Some m ≡ Some n → m ≡ n
      same m n is = cc
  in_heap_at a (Some (Moved to)) id is leads = cc

  through : (a : Addr) (found : Option Slot) (id : ℕ) → slot_named (images list) a ≡ found → identity_through (images list) found ≡ Some id → IsSome (get (heap_of (images list)) id)
  through a None id is leads = cc
  through a (Some (Live object)) id is leads = in_heap_at a (Some (Live object)) id is leads
  through a (Some (Moved to)) id is leads = in_heap_at to (slot_named (images list) to) id refl leads

  -- what an address leads to is in the heap
  led : (a : Addr) (id : ℕ) → resolved (images list) a ≡ Some id → IsSome (get (heap_of (images list)) id)
  led a id is = through a (slot_named (images list) a) id refl is

  pub graph_closed : IsClosedGraph (heap_of (images list)) (roots_of (images list) catalog) next_id
  graph_closed = record {
    first = ok.next.0;
    last = ok.next.1;
    given = λ id object is.
        let from = heaps.object_from (images list) ok.differ ascend id object is in
        (subst (λ (n : ℕ). 1 ≤ n) from.3 (spelled from.0 from.1 from.2).numbered.0, subst (λ (n : ℕ). n < next_id) from.3 (ok.given from.0 from.1 from.2));
    fields = λ id index to is.
        let holder = field_cases (get (heap_of (images list)) id) index (Some to) is in
        let from = heaps.object_from (images list) ok.differ ascend id holder.0 holder.1 in
        let leads = field_told (images list) from.1.fields index to (ap (λ (o : Object). slice_get o.fields index) from.4 ∙ holder.2) in
        led leads.0 to leads.1;
    named = λ name id is.
        let leads = root_told (images list) (find name_cmp name (roots_in catalog)) id (sym (root_of_copy (images list) catalog name ok.roots) ∙ is) in
        led leads.0 id leads.1;
  }

pub begins_served : (number : ℕ) (list : List Listed) (catalog : List CatEntry) (next : ℕ) (view : SpaceView) (saving : Saving) → IsAccepted list catalog next → IsOpened list catalog next view
    → saving.progress ≡ None → IsServed (just_opened number view saving)
begins_served number list catalog next view saving ok opened none =
    let same : copy_in view ≡ copy_listed list catalog next = saves_again list catalog next view ok opened in
    record {
      journal = record {
        closed = subst (λ copy. IsClosed (begin number copy)) (sym same) (begin_closed number (copy_listed list catalog next) (copied_closed (heap_of (images list)) (roots_of (images list) catalog) next (graph_closed list catalog next ok)));
        legal = tt;
        saving = sym (ap (λ progress. option_map (numbered_copy None) progress) none);
        watching = refl;
        told = refl;
      };
      represents = subst (λ copy. Represents view (begin number copy)) (sym same) (stands list catalog next view ok opened number);
    }
