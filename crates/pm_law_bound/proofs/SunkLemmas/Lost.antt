-- The lost set of a world is sunk in each space that stands for the world.
use Rattle.std.proofs.Common.{◌≡◌, inl, inr, ⊎_elim, ◌<◌, ◌≤◌, ◌==◌, ℕ, zero, suc, Bool, true, false, not, if◌then◌else◌, arith, length, get_or, refl, ap, sym, subst, ◌∙◌, List, [], ◌∷◌, Option, Some, None, is_some}
use Rattle.std.specs.Option.{IsSome, IsSomeAnd, option_map, option_and_then, option_flatten}
use Rattle.std.specs.List.{slice_get, Contains}
use Rattle.std.specs.FinMap.{get}
use Rattle.std.proofs.lemmas.Bool.{true≢false, eqb-true}
use Rattle.std.proofs.lemmas.Option.{slice_get-map}
use Rattle.pm_types.specs.declared.address.Addr.{Addr}
use Rattle.pm_types.specs.declared.object.Object as kept_objects
use Rattle.pm_types.specs.declared.source.RefSource.{RefSource}
use Rattle.pm_types.specs.declared.source.RefSource.TheVariants.{Root, Handle, Field}
use Rattle.pm_model.specs.Heap.{Object, Holds}
use Rattle.pm_model.specs.World.{World}
use Rattle.pm_model.specs.Reachability.{IsReachable, Leads}
use Rattle.pm_model.proofs.Reaching.{reachable_next}
use Rattle.pm_roots.specs.Bindings.{address_at}
use Rattle.pm_trains.specs.Trains.{Train, train_of, cars_at, youngest, last_number, is_among}
use Rattle.pm_trains.specs.Sound.{Rise}
use Rattle.pm_view.specs.View.{SpaceView}
use Rattle.pm_view.specs.Reading.{object_at, stored, is_aside, is_kept, field_of, named_by}
use Rattle.pm_view.specs.Law.{HeapLaw}
use Rattle.pm_view.specs.Represents.{IsHeld, Represents, names}
use Rattle.pm_law_commands.proofs.RowLemmas.Numbers.{owner}
use Rattle.pm_law_commands.proofs.RowLemmas.Places.{object_has_car}
use Rattle.pm_law_collect.proofs.PhasesLemmas.Small.{some_same}
use Rattle.pm_view.specs.Sinking.{IsOf, IsFieldOf, IsLost, Sunk}

pub at_item : {X : Type 0} (xs : List X) (k : ℕ) (x : X) → slice_get xs k ≡ Some x → Contains xs x
at_item xs k x is = (k, within xs k x is, item xs k x is)
  where
    within : {X : Type 0} (xs : List X) (k : ℕ) (x : X) → slice_get xs k ≡ Some x → k < length xs
    within [] k x is = cc
    within (y ∷ ys) zero x is = omega arith
    within (y ∷ ys) (suc k) x is = let rest = within ys k x is in omega arith

    item : {X : Type 0} (xs : List X) (k : ℕ) (x : X) → slice_get xs k ≡ Some x → get_or xs k x ≡ x
    item [] k x is = cc
    item (y ∷ ys) zero x is = cc
    item (y ∷ ys) (suc k) x is = item ys k x is

pub holds_at : (o : Option Object) (known : Object) (k id : ℕ) → o ≡ Some known → slice_get known.fields k ≡ Some (Some id) → IsSomeAnd o (λ object. Contains object.fields (Some id))
holds_at None known k id is held = cc
holds_at (Some it) known k id is held = at_item it.fields k (Some id) (ap (λ (o : Object). slice_get o.fields k) (let same : it ≡ known = cc in same) ∙ held)

-- ---- numbers of trains that stand

rise_last : (low : ℕ) (ts : List Train) → Rise low ts → low ≤ last_number low ts
rise_last low [] rising = omega arith
rise_last low (t ∷ ts) rising = let later = rise_last t.number ts rising.1 in let here = rising.0 in omega (arith, later, here)

home_low : (low car n : ℕ) (ts : List Train) → Rise low ts → train_of ts car ≡ Some n → n ≤ last_number low ts
home_low low car n [] rising is = cc
home_low low car n (t ∷ ts) rising is = by_case (is_among car t.cars) is (home_low t.number car n ts rising.1)
  where
    by_case : (b : Bool) → (if b then Some t.number else train_of ts car) ≡ Some n → (train_of ts car ≡ Some n → n ≤ last_number t.number ts) → n ≤ last_number t.number ts
    by_case true is later = subst (λ m. m ≤ last_number t.number ts) (some_same t.number n is) (rise_last t.number ts rising.1)
    by_case false is later = later is

train_low : (low n : ℕ) (ts : List Train) → Rise low ts → IsSome (cars_at ts n) → n ≤ last_number low ts
train_low low n [] rising some = absurd (true≢false (sym some))
train_low low n (t ∷ ts) rising some = by_case (t.number == n) refl some (train_low t.number n ts rising.1)
  where
    by_case : (b : Bool) → (t.number == n) ≡ b → is_some (if b then Some t.cars else cars_at ts n) ≡ true → (is_some (cars_at ts n) ≡ true → n ≤ last_number t.number ts) → n ≤ last_number t.number ts
    by_case true same some later = subst (λ m. m ≤ last_number t.number ts) (eqb-true t.number n same) (rise_last t.number ts rising.1)
    by_case false other some later = later some

module _ (view : SpaceView) (world : World) (law : HeapLaw view) (stands : Represents view world) where
  -- what is held is reached
  held_reached : (id : ℕ) → IsHeld world id → IsReachable world.heap (IsHeld world) id
  held_reached id held = (id, [], held, refl)

  -- a stored address of a root
  root_held : (k id : ℕ) (o : Option Addr) → address_at view.roots k ≡ o → names view o ≡ Some id → IsHeld world id
  root_held k id None is name = cc
  root_held k id (Some a) is name =
      let found = owner view.roots k a is in
      inl (found.0, stands.roots found.0 ∙ ap (option_and_then (λ (bound : ℕ × Addr). named_by view bound.1)) found.1 ∙ name)

  -- ---- a field

  flat : (o : Option (Option Addr)) (b : Addr) → option_flatten o ≡ Some b → o ≡ Some (Some b)
  flat None b is = cc
  flat (Some None) b is = cc
  flat (Some (Some c)) b is = ap Some is

  -- an object that names an identity is not reached where that is not reached
  module _ (a : Addr) (i id : ℕ) (free : is_aside view a.car ≡ false) (lost : IsLost world id) where
    holder_lost : (object : kept_objects.Object) → object_at view.cars a ≡ Some object → (b : Addr) → slice_get object.fields i ≡ Some (Some b) → named_by view b ≡ Some id
        → (o : Option Object) → get world.heap object.id ≡ o → IsReachable world.heap (IsHeld world) object.id → ⊥
    holder_lost object here b field name None none reached =
        let forgotten = stands.leftover a object free here none in
        last (λ held. ⊎_elim (λ (by : (name : List ℕ) × (get world.roots name ≡ Some object.id)). forgotten.name by.0 by.1) (λ (by : (place : ℕ × ℕ) × (get world.registers place ≡ Some object.id)). forgotten.register by.0 by.1) held)
        forgotten.field reached.0 reached.1 reached.2 reached.3
      where
        last : (IsHeld world object.id → ⊥) → ((from : ℕ) → Holds world.heap from object.id → ⊥) → (from : ℕ) (path : List ℕ) → IsHeld world from → Leads world.heap from path object.id → ⊥
        last begins holds from [] held leads = begins (subst (IsHeld world) leads held)
        last begins holds from (next ∷ []) held leads = holds from (subst (Holds world.heap from) leads.1 leads.0)
        last begins holds from (next ∷ more ∷ path) held leads = onward next more path leads.1
          where
            onward : (next more : ℕ) (path : List ℕ) → Leads world.heap next (more ∷ path) object.id → ⊥
            onward next more [] leads = holds next (subst (Holds world.heap next) leads.1 leads.0)
            onward next more (step ∷ path) leads = onward more step path leads.1
    holder_lost object here b field name (Some known) is reached =
        let means = stands.objects a object known free here is in
        let held : slice_get known.fields i ≡ Some (Some id) = ap (λ (k : Object). slice_get k.fields i) means ∙ slice_get-map (names view) object.fields i ∙ ap (option_map (names view)) field ∙ ap Some name in
        lost.1 (reachable_next world.heap (IsHeld world) object.id id reached (holds_here object.id known is held))
      where
        holds_here : (from : ℕ) (known : Object) → get world.heap from ≡ Some known → slice_get known.fields i ≡ Some (Some id) → Holds world.heap from id
        holds_here from known is held = holds_at (get world.heap from) known i id is held

  field_lost : (a : Addr) (i id : ℕ) → is_aside view a.car ≡ false → IsLost world id → (o : Option kept_objects.Object) → object_at view.cars a ≡ o → (p : Option Addr) → field_of o i ≡ p → names view p ≡ Some id → IsOf view (IsLost world) a
  field_lost a i id free lost None here None field name = cc
  field_lost a i id free lost None here (Some b) field name = cc
  field_lost a i id free lost (Some object) here None field name = cc
  field_lost a i id free lost (Some object) here (Some b) field name =
      subst (λ o. IsSomeAnd (option_map (λ (o : kept_objects.Object). o.id) o) (IsLost world)) (sym here)
      (subst (λ m. object.id < m) (sym stands.next) (law.built.objects a object here).given, holder_lost a i id free lost object here b (flat (slice_get object.fields i) b field) name (get world.heap object.id) refl)

  not_true : (b : Bool) → not b ≡ true → b ≡ false
  not_true true is = absurd (true≢false (sym is))
  not_true false is = refl

  lost_named : (x : RefSource) (id : ℕ) → is_kept view x ≡ true → names view (stored view x) ≡ Some id → IsLost world id → IsFieldOf view (IsLost world) x
  lost_named (Root k) id up name lost = lost.1 (held_reached id (root_held k id (address_at view.roots k) refl name))
  lost_named (Handle c r) id up name lost = lost.1 (held_reached id (inr ((c, r), stands.registers (c, r) ∙ name)))
  lost_named (Field a i) id up name lost = field_lost a i id (not_true (is_aside view a.car) up) lost (object_at view.cars a) refl (field_of (object_at view.cars a) i) refl name

  homed : (a : Addr) (o : Option ℕ) → train_of view.trains.trains a.car ≡ o → IsSome o → IsSomeAnd o (λ train. train ≤ youngest view.trains.trains)
  homed a None is some = absurd (true≢false (sym some))
  homed a (Some n) is some = home_low 0 a.car n view.trains.trains law.built.trains.rising is

  some_object : (a : Addr) (o : Option kept_objects.Object) → object_at view.cars a ≡ o → IsSomeAnd (option_map (λ (o : kept_objects.Object). o.id) o) (IsLost world) → IsSome (get view.cars a.car)
  some_object a None here of = absurd of
  some_object a (Some object) here of = object_has_car view.cars a object here

  pub lost_sunk : Sunk view (IsLost world) (youngest view.trains.trains)
  lost_sunk = record {
    given = λ id lost. subst (λ m. id < m) stands.next lost.0;
    named = lost_named;
    low = λ a of. homed a (train_of view.trains.trains a.car) refl (law.built.linked a.car ∙ some_object a (object_at view.cars a) refl of);
    anchored = λ a to is of. train_low 0 to view.trains.trains law.built.trains.rising (law.anchor a to is).stands;
  }
