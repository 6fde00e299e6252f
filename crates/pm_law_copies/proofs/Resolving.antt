-- Where the addresses of a space lead, among the cars in the list of its copy.
use Rattle.std.proofs.Common.{◌≡◌, ℕ, ◌<◌, true, false, not, refl, ap, sym, ◌∙◌, List, Option, Some, None, is_some}
use Rattle.std.specs.Option.{option_and_then, option_map, option_flatten}
use Rattle.std.specs.List.{slice_get}
use Rattle.std.specs.FinMap.{get}
use Rattle.pm_types.specs.declared.address.Addr.{Addr}
use Rattle.pm_types.specs.declared.object.Object.{Object}
use Rattle.pm_types.specs.declared.object.Slot.{Slot}
use Rattle.pm_types.specs.declared.object.Slot.TheVariants.{Live, Moved}
use Rattle.pm_types.specs.declared.source.RefSource.TheVariants.{Root, Field}
use Rattle.pm_cars.specs.Cars.{Car, look_of, object_of}
use Rattle.pm_cars.specs.declared.look.Look.TheVariants as looks
use Rattle.pm_image.specs.Graphs.{slot_named, identity_in, identity_through, resolved}
use Rattle.pm_view.specs.View.{Cars, SpaceView}
use Rattle.pm_view.specs.Reading.{slot_at, object_at, field_of, stored, is_aside, followed, id_at, named_by}
use Rattle.pm_view.specs.Seen.{seen, Leads}
use Rattle.pm_view.specs.Law.{HeapLaw}
use Rattle.pm_law_commands.proofs.RowLemmas.Numbers.{found_by_number}
use Rattle.pm_copies.specs.Listed.{listed_cars}
use Rattle.pm_law_copies.proofs.Listing.{slot_kept, slot_stands}

-- the identity in a slot
pub id_in : (o : Option Slot) → identity_in o ≡ option_map (λ (o : Object). o.id) (object_of o)
id_in None = refl
id_in (Some (Live object)) = refl
id_in (Some (Moved to)) = refl

-- what looks Live is an object
pub live_look : (o : Option Slot) → look_of o ≡ looks.Live → (object : Object) × (o ≡ Some (Live object))
live_look None is = cc
live_look (Some (Live object)) is = (object, refl)
live_look (Some (Moved to)) is = cc

-- a slot that is not Gone lies in a car that stands
pub car_of : (cars : Cars) (a : Addr) (slot : Slot) → slot_at cars a ≡ Some slot → (car : Car) × (get cars a.car ≡ Some car)
car_of cars a slot is = of (get cars a.car) refl is
  where
    of : (o : Option Car) → get cars a.car ≡ o → option_and_then (λ (car : Car). get car.slots a.slot) o ≡ Some slot → (car : Car) × (get cars a.car ≡ Some car)
    of None here is = cc
    of (Some car) here is = (car, here)

module _ (view : SpaceView) (law : HeapLaw view) where
  named : (a : Addr) → is_aside view a.car ≡ false → slot_named (listed_cars view) a ≡ slot_at view.cars a
  named a free = slot_kept view law.built.linked a free

  -- the car of an address that leads somewhere has a number from 1 on
  pub car_from_one : (a : Addr) (slot : Slot) → slot_at view.cars a ≡ Some slot → 0 < a.car
  car_from_one a slot is = let car = car_of view.cars a slot is in (law.built.cars a.car car.0 car.1).from_one

  -- it leads to the same object in both
  through : (a : Addr) (o : Option Slot) → slot_at view.cars a ≡ o → Leads (seen view) a (look_of o) → identity_through (listed_cars view) o ≡ id_at view (followed o a)
  through a None is leads = absurd leads
  through a (Some (Live object)) is leads = sym (ap (λ o. option_map (λ (o : Object). o.id) (object_of o)) is)
  through a (Some (Moved to)) is leads = ap identity_in (named to leads.1.1) ∙ id_in (slot_at view.cars to)

  pub resolved_is : (a : Addr) → is_aside view a.car ≡ false → Leads (seen view) a (look_of (slot_at view.cars a)) → resolved (listed_cars view) a ≡ named_by view a
  resolved_is a free leads = ap (identity_through (listed_cars view)) (named a free) ∙ through a (slot_at view.cars a) refl leads

  some_through : (a : Addr) (o : Option Slot) → slot_at view.cars a ≡ o → Leads (seen view) a (look_of o) → is_some (id_at view (followed o a)) ≡ true
  some_through a None is leads = absurd leads
  some_through a (Some (Live object)) is leads = ap (λ o. is_some (option_map (λ (o : Object). o.id) (object_of o))) is
  some_through a (Some (Moved to)) is leads = let live = live_look (slot_at view.cars to) leads.1.0 in ap (λ o. is_some (option_map (λ (o : Object). o.id) (object_of o))) live.1

  -- and to an object
  pub named_some : (a : Addr) → is_aside view a.car ≡ false → Leads (seen view) a (look_of (slot_at view.cars a)) → is_some (named_by view a) ≡ true
  named_some a free leads = some_through a (slot_at view.cars a) refl leads

  pub resolved_some : (a : Addr) → is_aside view a.car ≡ false → Leads (seen view) a (look_of (slot_at view.cars a)) → is_some (resolved (listed_cars view) a) ≡ true
  resolved_some a free leads = ap is_some (resolved_is a free leads) ∙ named_some a free leads

  -- ---- what is stored

  -- a field of an object that stands stores its address
  pub field_stored : (a : Addr) (object : Object) (i : ℕ) (to : Addr) → object_at view.cars a ≡ Some object → slice_get object.fields i ≡ Some (Some to) → stored view (Field a i) ≡ Some to
  field_stored a object i to is here = ap (λ o. field_of o i) is ∙ ap option_flatten here

  pub field_leads : (a : Addr) (object : Object) (i : ℕ) (to : Addr) → is_aside view a.car ≡ false → object_at view.cars a ≡ Some object → slice_get object.fields i ≡ Some (Some to)
      → (is_aside view to.car ≡ false) × Leads (seen view) to (look_of (slot_at view.cars to))
  field_leads a object i to free is here = law.tied.leads (Field a i) to (ap not free) (field_stored a object i to is here)

  pub root_leads : (name : List ℕ) (bound : ℕ × Addr) → get view.roots name ≡ Some bound → (is_aside view bound.1.car ≡ false) × Leads (seen view) bound.1 (look_of (slot_at view.cars bound.1))
  root_leads name bound is = law.tied.leads (Root bound.0) bound.1 refl (found_by_number view.roots law.named.numbers name bound is)

  -- a place that leads somewhere is not Gone
  not_gone : (a : Addr) (o : Option Slot) → Leads (seen view) a (look_of o) → (slot : Slot) × (o ≡ Some slot)
  not_gone a None leads = absurd leads
  not_gone a (Some slot) leads = (slot, refl)

  pub leads_from_one : (a : Addr) → Leads (seen view) a (look_of (slot_at view.cars a)) → 0 < a.car
  leads_from_one a leads = let at = not_gone a (slot_at view.cars a) leads in car_from_one a at.0 at.1

  -- an object that is listed stands
  pub object_stands : (a : Addr) (object : Object) → slot_named (listed_cars view) a ≡ Some (Live object) → (is_aside view a.car ≡ false) × (object_at view.cars a ≡ Some object)
  object_stands a object is = let at = slot_stands view law.built.linked a (Live object) is in (at.0, ap object_of at.1)

  from_object : (o : Option Slot) (object : Object) → object_of o ≡ Some object → o ≡ Some (Live object)
  from_object None object is = cc
  from_object (Some (Live found)) object is = cc
  from_object (Some (Moved to)) object is = cc

  -- and one that stands is listed
  pub object_listed : (a : Addr) (object : Object) → is_aside view a.car ≡ false → object_at view.cars a ≡ Some object → slot_named (listed_cars view) a ≡ Some (Live object)
  object_listed a object free is = named a free ∙ from_object (slot_at view.cars a) object is
