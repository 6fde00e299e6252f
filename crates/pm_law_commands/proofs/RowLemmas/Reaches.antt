-- What a world reaches stands in a space whose names, registers and objects mean what the world has.
use Rattle.std.proofs.Common.{◌≡◌, ⊎_elim, ℕ, zero, suc, ◌<◌, true, false, refl, ap, sym, subst, ◌∙◌, List, [], ◌∷◌, length, Option, Some, None, arith, get_or}
use Rattle.std.specs.Option.{IsSome, IsSomeAnd, option_map, option_and_then, option_flatten}
use Rattle.std.specs.List.{slice_get, Contains}
use Rattle.std.specs.FinMap.{get}
use Rattle.std.proofs.lemmas.Bool.{not_from_false}
use Rattle.std.proofs.lemmas.Option.{slice_get-map}
use Rattle.pm_types.specs.declared.address.Addr.{Addr}
use Rattle.pm_types.specs.declared.object.Object as stored_objects
use Rattle.pm_types.specs.declared.object.Slot.{Slot}
use Rattle.pm_types.specs.declared.object.Slot.TheVariants.{Live, Moved}
use Rattle.pm_types.specs.declared.source.RefSource.{RefSource}
use Rattle.pm_types.specs.declared.source.RefSource.TheVariants.{Root, Handle, Field}
use Rattle.pm_cars.specs.Cars.{look_of}
use Rattle.pm_roots.specs.Bindings.{address_at}
use Rattle.pm_model.specs.Heap.{Object, Holds}
use Rattle.pm_model.specs.World.{World}
use Rattle.pm_model.specs.Reachability.{Leads, IsReachable}
use Rattle.pm_view.specs.View.{SpaceView}
use Rattle.pm_view.specs.Reading.{slot_at, object_at, field_of, stored, is_aside, followed, id_at, named_by}
use Rattle.pm_view.specs.Counts.{IsStanding}
use Rattle.pm_view.specs.Seen.{seen, kept, IsTied}
use Rattle.pm_view.specs.Seen as seen_words
use Rattle.pm_view.specs.Represents.{names, meaning, IsHeld}

-- ---- items of lists

at_place : {X : Type 0} (xs : List X) (k : ℕ) (x : X) → k < length xs → get_or xs k x ≡ x → slice_get xs k ≡ Some x
at_place [] k x within is = absurd (omega arith)
at_place (y ∷ ys) zero x within is = ap Some is
at_place (y ∷ ys) (suc k) x within is = at_place ys k x (omega arith) is

some_mapped : {X Y : Type 0} (f : X → Y) (o : Option X) (y : Y) → option_map f o ≡ Some y → (x : X) × (o ≡ Some x) × (f x ≡ y)
some_mapped f None y is = cc
some_mapped f (Some x) y is = (x, refl, cc)

-- ---- a stored address leads to an object that stands

leads_on : (view : SpaceView) (a : Addr) (o : Option Slot) (id : ℕ) → slot_at view.cars a ≡ o → is_aside view a.car ≡ false → seen_words.Leads (seen view) a (look_of o) → id_at view (followed o a) ≡ Some id → IsStanding view id
leads_on view a None id is free leads names = absurd leads
leads_on view a (Some (Live object)) id is free leads names = (a, record { kept = free; here = names })
leads_on view a (Some (Moved to)) id is free leads names = (to, record { kept = leads.1.1; here = names })

-- what a kept source names stands
pub stored_stands : (view : SpaceView) (x : RefSource) (a : Addr) (id : ℕ) → IsTied (seen view) → kept (seen view) x ≡ true → stored view x ≡ Some a → named_by view a ≡ Some id → IsStanding view id
stored_stands view x a id tied up is names =
    let leads = tied.leads x a up is in
    leads_on view a (slot_at view.cars a) id refl leads.0 leads.1 names

-- ---- the objects of a space

object_from_id : (o : Option stored_objects.Object) (id : ℕ) → option_map (λ (o : stored_objects.Object). o.id) o ≡ Some id → (object : stored_objects.Object) × (o ≡ Some object) × (object.id ≡ id)
object_from_id o id is = some_mapped (λ (o : stored_objects.Object). o.id) o id is

-- an object of a space that is the world's holds what the world's holds
field_found : (fields : List (Option Addr)) (k : ℕ) (o : Option (Option Addr)) (view : SpaceView) (to : ℕ) → slice_get fields k ≡ o → option_map (names view) o ≡ Some (Some to) → (a : Addr) × (slice_get fields k ≡ Some (Some a)) × (named_by view a ≡ Some to)
field_found fields k None view to is names = cc
field_found fields k (Some None) view to is names = cc
field_found fields k (Some (Some a)) view to is names = (a, is, cc)

-- the names, registers and objects of a space mean what the world has
pub record Means (view : SpaceView) (world : World) : Type 0 where
  pub roots : (name : List ℕ) → get world.roots name ≡ option_and_then (λ (bound : ℕ × Addr). named_by view bound.1) (get view.roots name)
  pub registers : (place : ℕ × ℕ) → get world.registers place ≡ names view (get view.registers place)
  pub objects : (a : Addr) (object : stored_objects.Object) (known : Object) → is_aside view a.car ≡ false → object_at view.cars a ≡ Some object → get world.heap object.id ≡ Some known → known ≡ meaning view object

-- whatever a name, a register or a field of the world names is an object of its heap
pub record IsWhole (world : World) : Type 0 where
  pub held : (id : ℕ) → IsHeld world id → IsSome (get world.heap id)
  pub fields : (from to : ℕ) → Holds world.heap from to → IsSome (get world.heap to)

known_holds : (o : Option Object) (to : ℕ) → IsSomeAnd o (λ object. Contains object.fields (Some to)) → (known : Object) × (o ≡ Some known) × Contains known.fields (Some to)
known_holds None to holds = absurd holds
known_holds (Some known) to holds = (known, refl, holds)

module _ (view : SpaceView) (world : World) (tied : IsTied (seen view)) (numbered : (name : List ℕ) (bound : ℕ × Addr) → get view.roots name ≡ Some bound → address_at view.roots bound.0 ≡ Some bound.1) (means : Means view world) where
  held_root : (name : List ℕ) (id : ℕ) (o : Option (ℕ × Addr)) → get view.roots name ≡ o → option_and_then (λ (bound : ℕ × Addr). named_by view bound.1) o ≡ Some id → IsStanding view id
  held_root name id None is names = cc
  held_root name id (Some bound) is names = stored_stands view (Root bound.0) bound.1 id tied refl (numbered name bound is) names

  held_register : (place : ℕ × ℕ) (id : ℕ) (o : Option Addr) → get view.registers place ≡ o → names view o ≡ Some id → IsStanding view id
  held_register place id None is named = cc
  held_register place id (Some a) is named = stored_stands view (Handle place.0 place.1) a id tied refl is named

  held_stands : (id : ℕ) → IsHeld world id → IsStanding view id
  held_stands id held =
      ⊎_elim
      (λ (root : (name : List ℕ) × (get world.roots name ≡ Some id)). held_root root.0 id (get view.roots root.0) refl (sym (means.roots root.0) ∙ root.1))
      (λ (register : (place : ℕ × ℕ) × (get world.registers place ≡ Some id)). held_register register.0 id (get view.registers register.0) refl (sym (means.registers register.0) ∙ register.1))
      held

  -- what an object of the world that stands holds, stands
  step_stands : (from to : ℕ) → IsStanding view from → Holds world.heap from to → IsStanding view to
  step_stands from to standing holds =
      let a = standing.0 in
      let here = object_from_id (object_at view.cars a) from standing.1.here in
      let object = here.0 in
      let known = known_holds (get world.heap from) to holds in
      let means_it : known.0 ≡ meaning view object = means.objects a object known.0 standing.1.kept here.1 (ap (get world.heap) here.2 ∙ known.1) in
      let place = known.2.0 in
      let in_known : slice_get known.0.fields place ≡ Some (Some to) = at_place known.0.fields place (Some to) known.2.1 known.2.2 in
      let in_object = sym (slice_get-map (names view) object.fields place) ∙ sym (ap (λ (k : Object). slice_get k.fields place) means_it) ∙ in_known in
      let found = field_found object.fields place (slice_get object.fields place) view to refl in_object in
      let stores : stored view (Field a place) ≡ Some found.0 = ap (λ o. field_of o place) here.1 ∙ ap option_flatten found.1 in
      stored_stands view (Field a place) found.0 to tied (not_from_false _ standing.1.kept) stores found.2

  path_stands : (from : ℕ) (path : List ℕ) (to : ℕ) → IsStanding view from → Leads world.heap from path to → IsStanding view to
  path_stands from [] to standing leads = subst (IsStanding view) leads standing
  path_stands from (next ∷ path) to standing leads = path_stands next path to (step_stands from next standing leads.0) leads.1

  -- whatever the world reaches stands
  pub reached_stands : (id : ℕ) → IsReachable world.heap (IsHeld world) id → IsStanding view id
  reached_stands id reached = path_stands reached.0 reached.1 id (held_stands reached.0 reached.2) reached.3
