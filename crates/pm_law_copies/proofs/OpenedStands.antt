-- A space that was opened stands for the world in which its copy was just opened.
use Rattle.std.proofs.Common.{◌≡◌, ℕ, ◌<◌, false, refl, ap, sym, subst, ◌∙◌, List, [], ◌∷◌, map, Option, Some, None}
use Rattle.std.specs.Option.{option_and_then, option_map, IsSomeAnd}
use Rattle.std.specs.List.{Contains}
use Rattle.std.specs.FinMap.{get, entries, get-entries, get-empty}
use Rattle.std.specs.FinMap.Entries.{find}
use Rattle.std.proofs.lemmas.Option.{same_Some, none-some}
use Rattle.pm_types.specs.Orders.{name_cmp, place_cmp}
use Rattle.pm_types.specs.declared.address.Addr.{Addr}
use Rattle.pm_types.specs.declared.object.Object as kept
use Rattle.pm_types.specs.declared.object.Slot.{Slot}
use Rattle.pm_types.specs.declared.object.Slot.TheVariants.{Live, Moved}
use Rattle.pm_cars.specs.Cars.{Car, object_of}
use Rattle.pm_model.specs.Heap.{Object, Holds}
use Rattle.pm_model.specs.World.{begin}
use Rattle.pm_model.specs.Reachability.{IsReachable}
use Rattle.pm_model.specs.Copying.{IsRoot}
use Rattle.pm_model.proofs.Reaching.{reachable_next}
use Rattle.pm_model.proofs.Reached.{copied_kept, copied_reached, copied_again}
use Rattle.pm_image.specs.declared.catalog.CatEntry.{CatEntry}
use Rattle.pm_image.specs.declared.car.CarImage.{CarImage}
use Rattle.pm_image.specs.CarPages.{Ascend}
use Rattle.pm_image.specs.Graphs.{slot_in, slot_named, identity_in, identity_through, resolved, resolved_field, heap_of, roots_of}
use Rattle.pm_view.specs.View.{SpaceView}
use Rattle.pm_view.specs.Reading.{object_at, is_aside, followed, id_at, named_by}
use Rattle.pm_view.specs.Represents.{names, meaning, IsForgotten, Represents}
use Rattle.pm_law_commands.proofs.RowLemmas.Reaches.{Means}
use Rattle.pm_law_commands.proofs.RowLemmas.SpreadMeans.{stands_for}
use Rattle.pm_copies.specs.Listed.{Listed, images, copy_listed, copy_in}
use Rattle.pm_copies.specs.Accepted.{IsAccepted, roots_in}
use Rattle.pm_copies.specs.Opened.{resolved_at, opened_object, IsOpened}
use Rattle.pm_law_copies.proofs.Objects.{told}
use Rattle.pm_law_copies.proofs.Objects as heaps
use Rattle.pm_law_copies.proofs.CopyOf.{root_of_copy, found_unnumbered, worlds_copy}
use Rattle.pm_law_copies.proofs.Naming.{slot_lies, all_in_cars}
use Rattle.pm_law_copies.proofs.OpenedCars.{live_of, from_listed, next_past}
use Rattle.pm_law_copies.proofs.OpenedLaw.{ascend, slot_there, object_from, found_opened, keeps_law}

mapped_twice : {X Y Z : Type 0} (f : X → Z) (g : Y → Z) (h : X → Y) (xs : List X) → ((x : X) → f x ≡ g (h x)) → map f xs ≡ map g (map h xs)
mapped_twice f g h [] same = refl
mapped_twice f g h (x ∷ xs) same = λ i. same x i ∷ mapped_twice f g h xs same i

module _ (listed : List Listed) (catalog : List CatEntry) (next_id : ℕ) (view : SpaceView) (ok : IsAccepted listed catalog next_id) (opened : IsOpened listed catalog next_id view) where
  -- ---- what addresses name

  here_opened : (o : Option Slot) (a : Addr) → followed (live_of (images listed) o) a ≡ a
  here_opened None a = refl
  here_opened (Some (Live object)) a = refl
  here_opened (Some (Moved to)) a = refl

  id_opened : (o : Option Slot) → option_map (λ (o : kept.Object). o.id) (object_of (live_of (images listed) o)) ≡ identity_in o
  id_opened None = refl
  id_opened (Some (Live object)) = refl
  id_opened (Some (Moved to)) = refl

  -- an address of the space names what is in its slot
  named_is : (a : Addr) → named_by view a ≡ identity_in (slot_named (images listed) a)
  named_is a =
      ap (id_at view) (ap (λ o. followed o a) (slot_there listed catalog next_id view ok opened a) ∙ here_opened (slot_named (images listed) a) a)
      ∙ ap (λ o. option_map (λ (o : kept.Object). o.id) (object_of o)) (slot_there listed catalog next_id view ok opened a)
      ∙ id_opened (slot_named (images listed) a)

  through_is : (at : Addr) (o : Option Slot) → slot_named (images listed) at ≡ o → identity_in (slot_named (images listed) (followed o at)) ≡ identity_through (images listed) o
  through_is at None is = ap identity_in is
  through_is at (Some (Live object)) is = ap identity_in is
  through_is at (Some (Moved to)) is = refl

  -- an address that was resolved names what it led to
  resolved_named : (at : Addr) → named_by view (resolved_at (images listed) at) ≡ resolved (images listed) at
  resolved_named at = named_is (resolved_at (images listed) at) ∙ through_is at (slot_named (images listed) at) refl

  field_named : (field : Option Addr) → resolved_field (images listed) field ≡ names view (option_map (resolved_at (images listed)) field)
  field_named None = refl
  field_named (Some at) = sym (resolved_named at)

  -- an object says what it said
  object_says : (was : kept.Object) → told (images listed) was ≡ meaning view (opened_object (images listed) was)
  object_says was = λ i. record { fields = mapped_twice (resolved_field (images listed)) (names view) (option_map (resolved_at (images listed))) was.fields field_named i; bytes = was.bytes }

  heap_has : (a : Addr) (was : kept.Object) → slot_named (images listed) a ≡ Some (Live was) → get (heap_of (images listed)) was.id ≡ Some (told (images listed) was)
  heap_has a was is = heaps.object_at (images listed) ok.differ (ascend listed catalog next_id view ok opened) ok.apart a was is

  -- each object stays in its slot, and no other slot has one
  pub objects_stay : (a : Addr) → id_at view a ≡ identity_in (slot_named (images listed) a)
  objects_stay a = ap (λ o. option_map (λ (o : kept.Object). o.id) (object_of o)) (slot_there listed catalog next_id view ok opened a) ∙ id_opened (slot_named (images listed) a)

  -- ---- names

  roots_same : (name : List ℕ) → option_map (λ (bound : ℕ × Addr). bound.1) (get view.roots name) ≡ option_map (resolved_at (images listed)) (find name_cmp name (roots_in catalog))
  roots_same name =
      ap (option_map (λ (bound : ℕ × Addr). bound.1)) (get-entries view.roots name)
      ∙ sym (found_unnumbered (entries view.roots) name)
      ∙ ap (find name_cmp name) opened.roots
      ∙ found_opened (images listed) (roots_in catalog) name

  by_address : (o : Option (ℕ × Addr)) → option_and_then (λ (bound : ℕ × Addr). named_by view bound.1) o ≡ option_and_then (named_by view) (option_map (λ (bound : ℕ × Addr). bound.1) o)
  by_address None = refl
  by_address (Some bound) = refl

  by_root : (o : Option Addr) → option_and_then (named_by view) (option_map (resolved_at (images listed)) o) ≡ option_and_then (resolved (images listed)) o
  by_root None = refl
  by_root (Some at) = resolved_named at

  root_named : (name : List ℕ) → get (roots_of (images listed) catalog) name ≡ option_and_then (λ (bound : ℕ × Addr). named_by view bound.1) (get view.roots name)
  root_named name =
      root_of_copy (images listed) catalog name ok.roots
      ∙ sym (by_root (find name_cmp name (roots_in catalog)))
      ∙ ap (option_and_then (named_by view)) (sym (roots_same name))
      ∙ sym (by_address (get view.roots name))

  -- ---- the world

  module _ (number : ℕ) where
    means : Means view (begin number (copy_listed listed catalog next_id))
    means = record {
      roots = root_named;
      registers = λ place. get-empty place_cmp place ∙ sym (ap (names view) (ap (λ registers. get registers place) opened.fresh.registers ∙ get-empty place_cmp place));
      objects = λ a object known free is found.
          let from = object_from listed catalog next_id view ok opened a object is in
          let there = (copied_kept (heap_of (images listed)) (roots_of (images listed) catalog) next_id object.id known found).0 in
          let was = heap_has a from.0 from.1 in
          let same = ap (λ (o : kept.Object). o.id) from.2 in
          same_Some known (meaning view object) (sym there ∙ ap (get (heap_of (images listed))) same ∙ was ∙ ap Some (object_says from.0 ∙ ap (meaning view) (sym from.2)));
    }

    -- what is not in the copy is not reached
    not_reached : (a : Addr) (object : kept.Object) → object_at view.cars a ≡ Some object → get (copy_listed listed catalog next_id).heap object.id ≡ None → IsReachable (heap_of (images listed)) (IsRoot (roots_of (images listed) catalog)) object.id → ⊥
    not_reached a object is none from =
        let was = object_from listed catalog next_id view ok opened a object is in
        let there = ap (get (heap_of (images listed))) (ap (λ (o : kept.Object). o.id) was.2) ∙ heap_has a was.0 was.1 in
        none-some (told (images listed) was.0) (sym none ∙ copied_reached (heap_of (images listed)) (roots_of (images listed) catalog) next_id object.id (told (images listed) was.0) from there)

    holder : (o : Option Object) (to : ℕ) → IsSomeAnd o (λ (object : Object). Contains object.fields (Some to)) → (object : Object) × (o ≡ Some object) × Contains object.fields (Some to)
    holder None to holds = absurd holds
    holder (Some object) to holds = (object, refl, holds)

    held_reached : (from to : ℕ) → Holds (copy_listed listed catalog next_id).heap from to → IsReachable (heap_of (images listed)) (IsRoot (roots_of (images listed) catalog)) to
    held_reached from to holds =
        let object = holder (get (copy_listed listed catalog next_id).heap from) to holds in
        let there = copied_kept (heap_of (images listed)) (roots_of (images listed) catalog) next_id from object.0 object.1 in
        reachable_next (heap_of (images listed)) (IsRoot (roots_of (images listed) catalog)) from to there.1 (subst (λ o. IsSomeAnd o (λ (object : Object). Contains object.fields (Some to))) (sym there.0) object.2)

    forgotten : (a : Addr) (object : kept.Object) → is_aside view a.car ≡ false → object_at view.cars a ≡ Some object → get (copy_listed listed catalog next_id).heap object.id ≡ None → IsForgotten (begin number (copy_listed listed catalog next_id)) object.id
    forgotten a object free is none = record {
      name = λ name bound. not_reached a object is none (object.id, [], (name, bound), refl);
      register = λ place held. none-some object.id (sym (get-empty place_cmp place) ∙ held);
      field = λ from holds. not_reached a object is none (held_reached from object.id holds);
    }

    -- each object of the copy is one that is listed
    given : (id : ℕ) (known : Object) → get (copy_listed listed catalog next_id).heap id ≡ Some known → id < next_id
    given id known is =
        let there = (copied_kept (heap_of (images listed)) (roots_of (images listed) catalog) next_id id known is).0 in
        let at = heaps.object_from (images listed) ok.differ (ascend listed catalog next_id view ok opened) id known there in
        subst (λ n. n < next_id) at.3 (ok.given at.0 at.1 at.2)

    -- it stands for the world in which its copy was just opened, under any number
    pub stands : Represents view (begin number (copy_listed listed catalog next_id))
    stands = stands_for view (begin number (copy_listed listed catalog next_id)) (keeps_law listed catalog next_id view ok opened) means (sym opened.fresh.next) given forgotten

  -- what it would save is the copy that was opened
  pub saves_again : copy_in view ≡ copy_listed listed catalog next_id
  saves_again =
      sym (worlds_copy view (keeps_law listed catalog next_id view ok opened) (begin 0 (copy_listed listed catalog next_id)) (stands 0))
      ∙ copied_again (heap_of (images listed)) (roots_of (images listed) catalog) next_id

  -- no slot that was listed comes after the next one of its car
  pub next_past_listed : (a : Addr) (slot : Slot) (car : Car) → slot_named (images listed) a ≡ Some slot → get view.cars a.car ≡ Some car → a.slot < car.next
  next_past_listed a slot car there is =
      let from = from_listed (images listed) ok.differ (ascend listed catalog next_id view ok opened) a.car car (ap (λ cars. get cars a.car) (sym opened.cars) ∙ is) in
      let lies = slot_lies (images listed) a slot there in
      let same = same_Some lies.0 from.0 (sym lies.1 ∙ from.1) in
      let image : CarImage = record { number = a.car; slots = from.0 } in
      let known = all_in_cars (λ (car : CarImage). Ascend 0 car.slots) (images listed) a.car from.0 (ascend listed catalog next_id view ok opened) from.1 in
      subst (λ (car : Car). a.slot < car.next) (sym from.3) (next_past (images listed) 0 from.0 a.slot slot known (ap (λ slots. slot_in slots a.slot) (sym same) ∙ lies.2))
