-- What a source of a space holds, and what the world has there.
use Rattle.std.proofs.Common.{◌≡◌, ℕ, ◌<◌, true, false, refl, ap, sym, subst, ◌∙◌, List, [], ◌∷◌, length, Option, Some, None, arith, zero, suc, get_or}
use Rattle.std.specs.Option.{IsSomeAnd, option_map}
use Rattle.std.specs.List.{slice_get, Contains}
use Rattle.std.specs.FinMap.{get}
use Rattle.pm_types.specs.declared.address.Addr.{Addr}
use Rattle.pm_types.specs.declared.object.Object as kept_objects
use Rattle.pm_types.specs.declared.object.Slot.{Slot}
use Rattle.pm_types.specs.declared.object.Slot.TheVariants.{Live, Moved}
use Rattle.pm_types.specs.declared.source.RefSource.{RefSource}
use Rattle.pm_cars.specs.declared.look.Look.TheVariants as looks
use Rattle.pm_cars.specs.Cars.{look_of, object_of}
use Rattle.pm_model.specs.Heap.{Object}
use Rattle.pm_model.specs.World.{World}
use Rattle.pm_view.specs.View.{SpaceView}
use Rattle.pm_view.specs.Reading.{slot_at, object_at, stored, is_aside, followed, resolve, id_at, named_by}
use Rattle.pm_view.specs.Seen.{seen, kept, IsLive}
use Rattle.pm_view.specs.Seen as seen_words
use Rattle.pm_view.specs.Law.{HeapLaw}
use Rattle.pm_view.specs.Represents.{meaning, IsForgotten, Represents}

-- an address that leads to this object, which stands
pub record LeadsTo (view : SpaceView) (a : Addr) (object : kept_objects.Object) : Type 0 where
  pub here : object_at view.cars (resolve view a) ≡ Some object
  pub free : is_aside view (resolve view a).car ≡ false
  pub live : look_of (slot_at view.cars (resolve view a)) ≡ looks.Live
  pub still : resolve view (resolve view a) ≡ resolve view a

object_of_live : (o : Option Slot) → look_of o ≡ looks.Live → (object : kept_objects.Object) × (o ≡ Some (Live object))
object_of_live None live = cc
object_of_live (Some (Live object)) live = (object, refl)
object_of_live (Some (Moved to)) live = cc

at_live : (view : SpaceView) (c : Addr) (object : kept_objects.Object) → slot_at view.cars c ≡ Some (Live object) → resolve view c ≡ c
at_live view c object is = ap (λ o. followed o c) is

-- a kept source's address leads to an object that stands
leads_by : (view : SpaceView) (a : Addr) (o : Option Slot) → slot_at view.cars a ≡ o → is_aside view a.car ≡ false → seen_words.Leads (seen view) a (look_of o) → (object : kept_objects.Object) × LeadsTo view a object
leads_by view a None is free leads = absurd leads
leads_by view a (Some (Live object)) is free leads =
    let there : resolve view a ≡ a = ap (λ o. followed o a) is in (
      object,
      record {
        here = ap (object_at view.cars) there ∙ ap object_of is;
        free = ap (λ (c : Addr). is_aside view c.car) there ∙ free;
        live = ap (λ c. look_of (slot_at view.cars c)) there ∙ ap look_of is;
        still = ap (resolve view) there;
      },
    )
leads_by view a (Some (Moved to)) is free leads =
    let there : resolve view a ≡ to = ap (λ o. followed o a) is in
    let found = object_of_live (slot_at view.cars to) leads.1.0 in (
      found.0,
      record {
        here = ap (object_at view.cars) there ∙ ap object_of found.1;
        free = ap (λ (c : Addr). is_aside view c.car) there ∙ leads.1.1;
        live = ap (λ c. look_of (slot_at view.cars c)) there ∙ leads.1.0;
        still = ap (resolve view) there ∙ at_live view to found.0 found.1 ∙ sym there;
      },
    )

pub leads : (view : SpaceView) (x : RefSource) (a : Addr) → HeapLaw view → kept (seen view) x ≡ true → stored view x ≡ Some a → (object : kept_objects.Object) × LeadsTo view a object
leads view x a law up is = let there = law.tied.leads x a up is in leads_by view a (slot_at view.cars a) refl there.0 there.1

module _ (view : SpaceView) (a : Addr) (object : kept_objects.Object) (to : LeadsTo view a object) where
  -- the identity that the address names
  pub named : named_by view a ≡ Some object.id
  named = ap (option_map (λ (o : kept_objects.Object). o.id)) to.here

  pub named_then : named_by view (resolve view a) ≡ Some object.id
  named_then = ap (id_at view) to.still ∙ named

  pub may_store : IsLive (seen view) (resolve view a)
  may_store = (to.live, to.free)

-- what the world names is an object of its heap where an object of this identity stands
named_known : (view : SpaceView) (world : World) (id : ℕ) (a : Addr) (object : kept_objects.Object) → Represents view world → is_aside view a.car ≡ false → object_at view.cars a ≡ Some object → object.id ≡ id
    → (IsForgotten world id → ⊥) → (o : Option Object) → get world.heap id ≡ o → (known : Object) × (get world.heap object.id ≡ Some known) × (known ≡ meaning view object)
named_known view world id a object stands free here same wanted None is =
    absurd (wanted (subst (IsForgotten world) same (stands.leftover a object free here (ap (get world.heap) same ∙ is))))
named_known view world id a object stands free here same wanted (Some known) is =
    let has : get world.heap object.id ≡ Some known = ap (get world.heap) same ∙ is in
    (known, has, stands.objects a object known free here has)

pub known_by : (view : SpaceView) (world : World) (a : Addr) (object : kept_objects.Object) → Represents view world → LeadsTo view a object → (IsForgotten world object.id → ⊥)
    → (known : Object) × (get world.heap object.id ≡ Some known) × (known ≡ meaning view object)
known_by view world a object stands to wanted = named_known view world object.id (resolve view a) object stands to.free to.here refl wanted (get world.heap object.id) refl

-- what a register holds, and what the world has there
pub register_wanted : (world : World) (place : ℕ × ℕ) (id : ℕ) → get world.registers place ≡ Some id → IsForgotten world id → ⊥
register_wanted world place id is forgotten = forgotten.register place is

pub name_wanted : (world : World) (name : List ℕ) (id : ℕ) → get world.roots name ≡ Some id → IsForgotten world id → ⊥
name_wanted world name id is forgotten = forgotten.name name is

at_item : {X : Type 0} (xs : List X) (k : ℕ) (x : X) → slice_get xs k ≡ Some x → Contains xs x
at_item xs k x is = (k, within xs k x is, item xs k x is)
  where
    within : {X : Type 0} (xs : List X) (k : ℕ) (x : X) → slice_get xs k ≡ Some x → k < length xs
    within [] k x is = cc
    within (y ∷ ys) zero x is = omega arith
    within (y ∷ ys) (suc k) x is = let rest = within ys k x is in omega arith

    item : {X : Type 0} (xs : List X) (k : ℕ) (x : X) → slice_get xs k ≡ Some x → get_or xs k x ≡ x
    item [] k x is = cc
    item (y ∷ ys) zero x is = cc
    item (y ∷ ys) (suc k) x is = item ys k x is

holds_at : (o : Option Object) (known : Object) (k id : ℕ) → o ≡ Some known → slice_get known.fields k ≡ Some (Some id) → IsSomeAnd o (λ object. Contains object.fields (Some id))
holds_at None known k id is held = cc
holds_at (Some it) known k id is held = at_item it.fields k (Some id) (ap (λ (o : Object). slice_get o.fields k) (let same : it ≡ known = cc in same) ∙ held)

pub field_wanted : (world : World) (from : ℕ) (known : Object) (k id : ℕ) → get world.heap from ≡ Some known → slice_get known.fields k ≡ Some (Some id) → IsForgotten world id → ⊥
field_wanted world from known k id is held forgotten = forgotten.field from (holds_at (get world.heap from) known k id is held)
