-- A space that was opened keeps the heap law.
use Rattle.std.proofs.Common.{◌≡◌, ℕ, ◌<◌, ◌≤◌, true, false, cond, refl, ap, sym, subst, ◌∙◌, List, [], ◌∷◌, map, length, Option, Some, None, is_some}
use Rattle.std.specs.Option.{option_map, option_flatten}
use Rattle.std.specs.List.{AllByRecursion, slice_get}
use Rattle.std.specs.FinMap.{get, entries, get-entries, get-empty, len-entries}
use Rattle.std.specs.FinMap.Entries.{find}
use Rattle.std.specs.Ordering.{eq_by_cmp}
use Rattle.std.proofs.lemmas.List.{length-map}
use Rattle.std.proofs.lemmas.Option.{slice_get-map, same_Some}
use Rattle.pm_types.specs.Orders.{name_cmp, place_cmp}
use Rattle.pm_types.specs.declared.limits.TheConstants.{FIELDS, ROOTS}
use Rattle.pm_types.specs.declared.address.Addr.{Addr}
use Rattle.pm_types.specs.declared.object.Object.{Object}
use Rattle.pm_types.specs.declared.object.Slot.{Slot}
use Rattle.pm_types.specs.declared.object.Slot.TheVariants.{Live, Moved}
use Rattle.pm_types.specs.declared.source.RefSource.{RefSource}
use Rattle.pm_types.specs.declared.source.RefSource.TheVariants.{Root, Handle, Field}
use Rattle.pm_cars.specs.Cars.{Car, look_of, object_of}
use Rattle.pm_cars.specs.declared.look.Look.TheVariants as looks
use Rattle.pm_trains.specs.Trains.{Trains, train_of}
use Rattle.pm_trains.specs.Sound as line
use Rattle.pm_layout.specs.Spelling.{HasSpelling}
use Rattle.pm_image.specs.declared.car.CarImage.{CarImage}
use Rattle.pm_image.specs.declared.catalog.CatEntry.{CatEntry}
use Rattle.pm_image.specs.CarPages.{Ascend}
use Rattle.pm_image.specs.Graphs.{slot_named, identity_in, identity_through, resolved}
use Rattle.pm_image.specs.Leading.{FieldLeads, SlotLeads}
use Rattle.pm_view.specs.View.{SpaceView}
use Rattle.pm_view.specs.Reading.{slot_at, object_at, field_of, stored, followed, aside_in, is_aside}
use Rattle.pm_view.specs.Law.{IsObject, HeapLaw}
use Rattle.pm_view.specs.Law as law_of
use Rattle.pm_law_commands.proofs.RowLemmas.Numbers.{owner}
use Rattle.pm_copies.specs.Listed.{Listed, images}
use Rattle.pm_copies.specs.Accepted.{IsAccepted, roots_in}
use Rattle.pm_copies.specs.Accepted as accepted
use Rattle.pm_copies.specs.Opened.{resolved_at, opened_object, opened_root, unnumbered, IsOpened}
use Rattle.pm_law_copies.proofs.Fresh.{IsMade, fresh_law}
use Rattle.pm_law_copies.proofs.Lists.{all_at, all_weaker}
use Rattle.pm_law_copies.proofs.Naming.{all_in_cars, all_named}
use Rattle.pm_law_copies.proofs.CopyOf.{all_roots, found_unnumbered}
use Rattle.pm_law_copies.proofs.OpenedCars.{live_of, slot_at_opened, from_listed, car_sound, car_has, car_still}
use Rattle.pm_law_copies.proofs.OpenedTrains.{linked, trains_sound}

-- ---- where addresses lead

-- an address that leads to an object is resolved to its slot
pub resolved_live : (cars : List CarImage) (at : Addr) → is_some (resolved cars at) ≡ true → (object : Object) × (slot_named cars (resolved_at cars at) ≡ Some (Live object))
resolved_live cars at some = live (slot_named cars at) refl some
  where
    at_once : (o : Option Slot) → is_some (identity_in o) ≡ true → (object : Object) × (o ≡ Some (Live object))
    at_once None some = cc
    at_once (Some (Live object)) some = (object, refl)
    at_once (Some (Moved to)) some = cc

    live : (o : Option Slot) → slot_named cars at ≡ o → is_some (identity_through cars o) ≡ true → (object : Object) × (slot_named cars (followed o at) ≡ Some (Live object))
    live None is some = cc
    live (Some (Live object)) is some = (object, is)
    live (Some (Moved to)) is some = at_once (slot_named cars to) some

-- what stands at a place that was opened is an object, or nothing
pub opened_look : (all : List CarImage) (o : Option Slot) (b : Addr) → look_of (live_of all o) ≡ looks.Moved b → ⊥
opened_look all None b is = cc
opened_look all (Some (Live object)) b is = cc
opened_look all (Some (Moved to)) b is = cc

pub opened_from : (all : List CarImage) (o : Option Slot) (object : Object) → object_of (live_of all o) ≡ Some object → (was : Object) × (o ≡ Some (Live was)) × (object ≡ opened_object all was)
opened_from all None object is = cc
opened_from all (Some (Live was)) object is = (was, refl, sym (same_Some (opened_object all was) object is))
opened_from all (Some (Moved to)) object is = cc

-- ---- the roots

pub found_opened : (cars : List CarImage) (roots : List (List ℕ × Addr)) (name : List ℕ) → find name_cmp name (map (opened_root cars) roots) ≡ option_map (resolved_at cars) (find name_cmp name roots)
found_opened cars [] name = refl
found_opened cars (root ∷ roots) name = elim (eq_by_cmp name_cmp name root.0) as (λ b. cond b (Some (resolved_at cars root.1)) (find name_cmp name (map (opened_root cars) roots)) ≡ option_map (resolved_at cars) (cond b (Some root.1) (find name_cmp name roots))) [
  | true ↦ refl
  | false ↦ found_opened cars roots name
]

-- what holds of each root holds of one that is found
pub all_found : (P : Addr → Type 0) (roots : List (List ℕ × Addr)) (name : List ℕ) (at : Addr) → AllByRecursion (λ (root : List ℕ × Addr). P root.1) roots → find name_cmp name roots ≡ Some at → P at
all_found P [] name at all is = cc
all_found P (root ∷ roots) name at all is = elim (eq_by_cmp name_cmp name root.0) as (λ b. cond b (Some root.1) (find name_cmp name roots) ≡ Some at → P at) [
  | true ↦ λ is. subst P (same_Some root.1 at is) all.0
  | false ↦ λ is. all_found P roots name at all.1 is
] is

mapped_from : {X Y : Type 0} (f : X → Y) (o : Option X) (y : Y) → option_map f o ≡ Some y → (x : X) × (o ≡ Some x) × (f x ≡ y)
mapped_from f None y is = cc
mapped_from f (Some x) y is = (x, refl, same_Some (f x) y is)

pub flat_from : (o : Option (Option Addr)) (a : Addr) → option_flatten o ≡ Some a → o ≡ Some (Some a)
flat_from None a is = cc
flat_from (Some o) a is = ap Some is

-- ---- the law

module _ (listed : List Listed) (catalog : List CatEntry) (next_id : ℕ) (view : SpaceView) (ok : IsAccepted listed catalog next_id) (opened : IsOpened listed catalog next_id view) where
  pub ascend : AllByRecursion (λ (car : CarImage). Ascend 0 car.slots) (images listed)
  ascend = all_weaker accepted.IsAcceptedCar (λ (car : CarImage). Ascend 0 car.slots) (images listed) (λ car is. is.ascend) ok.cars

  pub slot_there : (a : Addr) → slot_at view.cars a ≡ live_of (images listed) (slot_named (images listed) a)
  slot_there a = ap (λ cars. slot_at cars a) opened.cars ∙ slot_at_opened (images listed) ok.differ ascend a

  -- an object that stands was listed
  pub object_from : (a : Addr) (object : Object) → object_at view.cars a ≡ Some object → (was : Object) × (slot_named (images listed) a ≡ Some (Live was)) × (object ≡ opened_object (images listed) was)
  object_from a object is = opened_from (images listed) (slot_named (images listed) a) object (ap object_of (sym (slot_there a)) ∙ is)

  pub object_there : (a : Addr) (was : Object) → slot_named (images listed) a ≡ Some (Live was) → object_at view.cars a ≡ Some (opened_object (images listed) was)
  object_there a was is = ap object_of (slot_there a ∙ ap (live_of (images listed)) is)

  live_look : (a : Addr) (was : Object) → slot_named (images listed) a ≡ Some (Live was) → look_of (slot_at view.cars a) ≡ looks.Live
  live_look a was is = ap look_of (slot_there a ∙ ap (live_of (images listed)) is)

  pub none_aside : (car : ℕ) → is_aside view car ≡ false
  none_aside car = ap (λ phase. aside_in phase view.trains.trains car) opened.fresh.phase

  spelled : (a : Addr) (was : Object) → slot_named (images listed) a ≡ Some (Live was) → HasSpelling FIELDS (Live was)
  spelled a was is = all_named (λ (e : ℕ × Slot). HasSpelling FIELDS e.1) (images listed) a (Live was) (all_weaker accepted.IsAcceptedCar (λ (car : CarImage). AllByRecursion (λ (e : ℕ × Slot). HasSpelling FIELDS e.1) car.slots) (images listed) (λ car is. is.slots) ok.cars) is

  led : (a : Addr) (was : Object) → slot_named (images listed) a ≡ Some (Live was) → SlotLeads (images listed) (Live was)
  led a was is = all_named (λ (e : ℕ × Slot). SlotLeads (images listed) e.1) (images listed) a (Live was) ok.lead is

  -- ---- what is stored

  -- a name that is bound stands for what was listed, resolved
  pub root_from : (name : List ℕ) (bound : ℕ × Addr) → get view.roots name ≡ Some bound → (at : Addr) × (find name_cmp name (roots_in catalog) ≡ Some at) × (resolved_at (images listed) at ≡ bound.1)
  root_from name bound is =
      mapped_from (resolved_at (images listed)) (find name_cmp name (roots_in catalog)) bound.1
      (sym (found_opened (images listed) (roots_in catalog) name)
      ∙ ap (find name_cmp name) (sym opened.roots)
      ∙ found_unnumbered (entries view.roots) name
      ∙ ap (option_map (λ (bound : ℕ × Addr). bound.1)) (sym (get-entries view.roots name) ∙ is))

  -- a place that an address names holds an object
  abbrev IsHere : Addr → Type 0
  IsHere a = look_of (slot_at view.cars a) ≡ looks.Live

  here_resolved : (at a : Addr) → is_some (resolved (images listed) at) ≡ true → resolved_at (images listed) at ≡ a → IsHere a
  here_resolved at a some is = let object = resolved_live (images listed) at some in subst IsHere is (live_look (resolved_at (images listed) at) object.0 object.1)

  root_here : (name : List ℕ) (bound : ℕ × Addr) → get view.roots name ≡ Some bound → IsHere bound.1
  root_here name bound is =
      let from = root_from name bound is in
      here_resolved from.0 bound.1 (all_found (λ at. is_some (resolved (images listed) at) ≡ true) (roots_in catalog) name from.0 (all_roots (images listed) catalog ok.roots) from.1) from.2

  field_here : (b : Addr) (i : ℕ) (a : Addr) (o : Option Object) → object_at view.cars b ≡ o → field_of o i ≡ Some a → IsHere a
  field_here b i a None is stored = cc
  field_here b i a (Some object) is stored =
      let from = object_from b object is in
      let field : slice_get object.fields i ≡ Some (Some a) = flat_from (slice_get object.fields i) a stored in
      let there = mapped_from (option_map (resolved_at (images listed))) (slice_get from.0.fields i) (Some a) (sym (slice_get-map (option_map (resolved_at (images listed))) from.0.fields i) ∙ ap (λ (o : Object). slice_get o.fields i) (sym from.2) ∙ field) in
      let at = mapped_from (resolved_at (images listed)) there.0 a there.2 in
      let leads : FieldLeads (images listed) (Some at.0) = all_at (FieldLeads (images listed)) from.0.fields i (Some at.0) (led b from.0 from.1) (there.1 ∙ ap Some at.1) in
      here_resolved at.0 a leads at.2

  -- whatever is stored leads to an object
  pub stored_here : (x : RefSource) (a : Addr) → stored view x ≡ Some a → IsHere a
  stored_here (Root number) a is = let name = owner view.roots number a is in root_here name.0 (number, a) name.1
  stored_here (Handle client register) a is = let clash : None ≡ Some a = sym (ap (λ registers. get registers (client, register)) opened.fresh.registers ∙ get-empty place_cmp (client, register)) ∙ is in cc
  stored_here (Field b i) a is = field_here b i a (object_at view.cars b) refl is

  -- ---- cars and objects

  car_is : (n : ℕ) (car : Car) → get view.cars n ≡ Some car → law_of.IsCar view n car
  car_is n car is =
      let from = from_listed (images listed) ok.differ ascend n car (ap (λ cars. get cars n) (sym opened.cars) ∙ is) in
      let image : CarImage = record { number = n; slots = from.0 } in
      let known = all_in_cars accepted.IsAcceptedCar (images listed) n from.0 ok.cars from.1 in
      subst (law_of.IsCar view n) (sym from.3) (record {
        numbered = refl;
        from_one = known.from_one;
        sound = car_sound (images listed) image known.ascend known.fits;
        live = λ not_from free. car_has (images listed) image known.ascend from.2;
        moved = λ not_from. car_still (images listed) image known.ascend;
      })

  object_is : (a : Addr) (object : Object) → object_at view.cars a ≡ Some object → IsObject view object
  object_is a object is =
      let from = object_from a object is in
      let fine = spelled a from.0 from.1 in
      subst (IsObject view) (sym from.2) (record {
        first = fine.numbered.0;
        given = subst (λ n. from.0.id < n) (sym opened.fresh.next) (ok.given a from.0 from.1);
        fields = subst (λ n. n ≤ FIELDS) (sym (length-map from.0.fields (option_map (resolved_at (images listed))))) fine.within.0;
        bytes = fine.within.1;
      })

  AreSound : Trains → Type 0
  AreSound trains = line.AreSoundTrains trains

  made : IsMade next_id view
  unfolding AreSound
  made = record {
    trains = subst AreSound (sym opened.trains) (trains_sound listed ok.differ);
    births = ap (λ (trains : Trains). trains.births) opened.trains;
    linked = λ car. ap (λ (trains : Trains). is_some (train_of trains.trains car)) opened.trains ∙ linked listed car ∙ ap (λ cars. is_some (get cars car)) (sym opened.cars);
    cars = car_is;
    objects = object_is;
    apart = λ a b o p at_a at_b same. let from = object_from a o at_a in let other = object_from b p at_b in ok.apart a b from.0 other.0 from.1 other.1 (ap (λ (o : Object). o.id) (sym from.2) ∙ same ∙ ap (λ (o : Object). o.id) other.2);
    next = ok.next;
    few = subst (λ n. n ≤ ROOTS) (sym (len-entries view.roots ∙ sym (length-map (entries view.roots) unnumbered) ∙ ap length opened.roots ∙ length-map (roots_in catalog) (opened_root (images listed)))) ok.few;
    here = stored_here;
    still = λ a b is. opened_look (images listed) (slot_named (images listed) a) b (ap look_of (sym (slot_there a)) ∙ is);
  }

  -- a space that was opened keeps the heap law
  pub keeps_law : HeapLaw view
  keeps_law = fresh_law next_id view opened.fresh made
