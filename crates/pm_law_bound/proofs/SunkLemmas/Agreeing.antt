-- A sunk set stays sunk where the places that were not set aside hold what they held.
use Rattle.std.proofs.Common.{◌≡◌, ◌<◌, ◌≤◌, ℕ, true, false, not, refl, ap, sym, subst, ◌∙◌, Option, Some, None}
use Rattle.std.specs.Option.{IsSomeAnd, option_map}
use Rattle.std.specs.FinMap.{get}
use Rattle.std.proofs.lemmas.Bool.{not-true}
use Rattle.pm_types.specs.declared.address.Addr.{Addr}
use Rattle.pm_types.specs.declared.object.Object.{Object}
use Rattle.pm_types.specs.declared.source.RefSource.{RefSource}
use Rattle.pm_types.specs.declared.source.RefSource.TheVariants.{Root, Handle, Field}
use Rattle.pm_cars.specs.Cars.{object_of}
use Rattle.pm_trains.specs.Trains.{train_of}
use Rattle.pm_roots.specs.Bindings.{address_at}
use Rattle.pm_view.specs.View.{SpaceView}
use Rattle.pm_view.specs.Reading.{slot_at, object_at, field_of, stored, is_aside, is_kept}
use Rattle.pm_view.specs.Law.{HeapLaw}
use Rattle.pm_view.specs.Represents.{names}
use Rattle.pm_law_collect.proofs.SweepsLemmas.Agree.{Agrees, named_there}
use Rattle.pm_view.specs.Sinking.{IsOf, IsFieldOf, Sunk}

-- each place that has an object then had it, and lies in a train of the same number
abbrev Lies : SpaceView → SpaceView → Type 0
Lies view t = (a : Addr) (object : Object) → object_at t.cars a ≡ Some object → (object_at view.cars a ≡ Some object) × (train_of t.trains.trains a.car ≡ train_of view.trains.trains a.car)

-- what is of a set has an object
pub of_object : (view : SpaceView) (Of : ℕ → Type 0) (a : Addr) → IsOf view Of a → (object : Object) × (object_at view.cars a ≡ Some object) × Of object.id
of_object view Of a of = by_object (object_at view.cars a) refl of
  where
    by_object : (o : Option Object) → object_at view.cars a ≡ o → IsSomeAnd (option_map (λ (o : Object). o.id) o) Of → (object : Object) × (object_at view.cars a ≡ Some object) × Of object.id
    by_object None here of = absurd of
    by_object (Some object) here of = (object, here, of)

pub is_of : (view : SpaceView) (Of : ℕ → Type 0) (a : Addr) (object : Object) → object_at view.cars a ≡ Some object → Of object.id → IsOf view Of a
is_of view Of a object here of = subst (λ o. IsSomeAnd (option_map (λ (o : Object). o.id) o) Of) (sym here) of

-- a field that names something has an object
pub field_object : (o : Option Object) (i : ℕ) (view : SpaceView) (id : ℕ) → names view (field_of o i) ≡ Some id → (object : Object) × (o ≡ Some object)
field_object None i view id name = cc
field_object (Some object) i view id name = (object, refl)

module _ (view t : SpaceView) (Of : ℕ → Type 0) (n : ℕ) (law : HeapLaw view) (same : Agrees view t) (lies : Lies view t) (sunk : Sunk view Of n) where
  names_then : (x : RefSource) (o : Option Addr) (id : ℕ) → is_kept view x ≡ true → stored view x ≡ o → names t o ≡ Some id → names view o ≡ Some id
  names_then x None id up is name = name
  names_then x (Some a) id up is name = sym (named_there view t law same x a up is) ∙ name

  of_was : (a : Addr) → IsOf t Of a → IsOf view Of a
  of_was a of = let it = of_object t Of a of in is_of view Of a it.0 (lies a it.0 it.1).0 it.2

  field_named : (a : Addr) (i id : ℕ) → is_kept t (Field a i) ≡ true → names t (stored t (Field a i)) ≡ Some id → Of id → IsOf t Of a
  field_named a i id up name is =
      let it = field_object (object_at t.cars a) i t id name in
      let free = same.free a it.0 (not-true (is_aside t a.car) up) it.1 in
      let slots : object_at t.cars a ≡ object_at view.cars a = ap object_of (same.slot a free) in
      let stores : stored t (Field a i) ≡ stored view (Field a i) = ap (λ o. field_of o i) slots in
      let of = sunk.named (Field a i) id (ap not free) (names_then (Field a i) (stored view (Field a i)) id (ap not free) refl (ap (names t) (sym stores) ∙ name)) is in
      subst (λ o. IsSomeAnd (option_map (λ (o : Object). o.id) o) Of) (sym slots) of

  named_then : (x : RefSource) (id : ℕ) → is_kept t x ≡ true → names t (stored t x) ≡ Some id → Of id → IsFieldOf t Of x
  named_then (Root k) id up name is = sunk.named (Root k) id refl (names_then (Root k) (stored view (Root k)) id refl refl (ap (λ m. names t (address_at m k)) (sym same.roots) ∙ name)) is
  named_then (Handle c r) id up name is = sunk.named (Handle c r) id refl (names_then (Handle c r) (stored view (Handle c r)) id refl refl (ap (λ m. names t (get m (c, r))) (sym same.registers) ∙ name)) is
  named_then (Field a i) id up name is = field_named a i id up name is

  -- what is sunk stays so, where an anchor's member goes to a low train
  pub agreeing_sunk : ((a : Addr) (to : ℕ) → t.anchor ≡ Some (a, to) → IsOf view Of a → to ≤ n) → Sunk t Of n
  agreeing_sunk anchors = record {
    given = λ id is. subst (λ m. id < m) (sym same.next) (sunk.given id is);
    named = named_then;
    low = λ a of. let it = of_object t Of a of in let was = lies a it.0 it.1 in subst (λ o. IsSomeAnd o (λ train. train ≤ n)) (sym was.1) (sunk.low a (is_of view Of a it.0 was.0 it.2));
    anchored = λ a to stands of. anchors a to stands (of_was a of);
  }

-- where cars, names and registers are the same, what is not set aside was not, and each car is in its train
pub agrees_same : (view t : SpaceView) → t.cars ≡ view.cars → t.roots ≡ view.roots → t.registers ≡ view.registers → t.next ≡ view.next → ((e : ℕ) → is_aside t e ≡ false → is_aside view e ≡ false) → Agrees view t
agrees_same view t cars roots registers next free = record {
  slot = λ a up. ap (λ c. slot_at c a) cars;
  free = λ a o up found. free a.car up;
  roots = roots;
  registers = registers;
  next = next;
}

pub lies_same : (view t : SpaceView) → t.cars ≡ view.cars → ((e : ℕ) → train_of t.trains.trains e ≡ train_of view.trains.trains e) → Lies view t
lies_same view t cars homes = λ a object found. (ap (λ c. object_at c a) (sym cars) ∙ found, homes a.car)
