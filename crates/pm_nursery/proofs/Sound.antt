-- A nursery keeps its fact through each of its steps.
use Rattle.std.proofs.Common.{◌≡◌, ◌⊎◌, ⊎_elim, ℕ, ◌+◌, ◌<◌, ◌≤◌, arith, Bool, true, false, cond, not, nat_eq, if◌then◌else◌, List, length, Option, Some, None, refl, sym, subst, ◌∙◌, length-append, length-take, length-drop}
use Rattle.std.specs.Option.{IfSome, IsSome, IsSomeAnd, is_some}
use Rattle.std.specs.List.{All, Contains}
use Rattle.std.specs.Cmp.{nat_cmp_total}
use Rattle.std.specs.FinMap.{get, insert, remove, len, retain_keys, len-insert, nat_cmp-IsAntisymmetric}
use Rattle.std.proofs.lemmas.List.{length-set}
use Rattle.pm_types.specs.declared.limits.TheConstants.{CLIENTS, REGISTERS, FIELDS}
use Rattle.pm_types.proofs.Orders.{places_total, places_antisymmetric}
use Rattle.pm_model.specs.Heap.{Object, Heap, Holds, with_bytes, with_field}
use Rattle.pm_model.specs.World.{Registers}
use Rattle.pm_model.proofs.Maps.{insert_here, insert_other, insert_cases, insert_stays, remove_cases, retain_cases}
use Rattle.pm_nursery.specs.declared.limits.TheConstants.{YOUNG}
use Rattle.pm_nursery.specs.Young.{NurseryView, IsNursery, IsRegister, IsSmall}
use Rattle.pm_nursery.specs.Sweeping.{among, left_held, GoesOut, IsDetached}
use Rattle.pm_nursery.specs.Moving.{Names, young_changing, young_closing, young_forgetting, young_holding}
use Rattle.pm_nursery.proofs.Counted.{no_more}
use Rattle.pm_nursery.proofs.Named.{set_named}
use Rattle.pm_nursery.proofs.Parts.{found_of, holder, holds_some, is_there, passes, same_holds}

-- ---- a heap in which one object is another

module _ (heap : Heap) (id : ℕ) (object : Object) where
  pub here : get (insert heap id object) id ≡ Some object
  here = insert_here nat_cmp_total nat_cmp-IsAntisymmetric heap id object

  pub other : (q : ℕ) → (q ≡ id → ⊥) → get (insert heap id object) q ≡ get heap q
  other = insert_other nat_cmp_total nat_cmp-IsAntisymmetric heap id object

  pub stays : (q : ℕ) → IsSome (get heap q) → IsSome (get (insert heap id object) q)
  stays = insert_stays nat_cmp_total nat_cmp-IsAntisymmetric heap id object

  pub cases : (q : ℕ) (x : Object) → get (insert heap id object) q ≡ Some x → ((q ≡ id) × (object ≡ x)) ⊎ ((q ≡ id → ⊥) × (get heap q ≡ Some x))
  cases = insert_cases nat_cmp_total nat_cmp-IsAntisymmetric heap id object

  -- it is closed where the heap was, and what the object names is there
  pub inserted_closed : ((from to : ℕ) → Holds heap from to → IsSome (get heap to)) → Names heap object → (from to : ℕ) → Holds (insert heap id object) from to → IsSome (get (insert heap id object) to)
  inserted_closed fields names from to holds =
      let found = holder (insert heap id object) from to holds in
      stays to
      (⊎_elim
      (λ (it : (from ≡ id) × (object ≡ found.0)).
      let held : Contains found.0.fields (Some to) = subst (λ (o : Option Object). IsSomeAnd o (λ object. Contains object.fields (Some to))) found.1 holds in
      names to (subst (λ (o : Object). Contains o.fields (Some to)) (sym it.1) held))
      (λ (it : (from ≡ id → ⊥) × (get heap from ≡ Some found.0)).
      fields from to (same_holds (insert heap id object) heap from to (found.1 ∙ sym it.1) holds))
      (cases from found.0 found.1))

-- ---- one that goes on

-- what an object has been given, and what the others were, is within the limits
inserted_small : (heap : Heap) (id : ℕ) (object : Object) → ((q : ℕ) (x : Object) → get heap q ≡ Some x → IsSmall x) → IsSmall object → (q : ℕ) (x : Object) → get (insert heap id object) q ≡ Some x → IsSmall x
inserted_small heap id object others this q x is =
    ⊎_elim
    (λ (it : (q ≡ id) × (object ≡ x)). subst IsSmall it.1 this)
    (λ (it : (q ≡ id → ⊥) × (get heap q ≡ Some x)). others q x it.1)
    (cases heap id object q x is)

count : (b : Bool) (n : ℕ) → cond b n (n + 1) ≤ n + 1
count true n = omega arith
count false n = omega arith

same_count : (b : Bool) (n : ℕ) → b ≡ true → cond b n (n + 1) ≡ n
same_count true n is = refl
same_count false n is = cc is

module _ (nursery : NurseryView) (sound : IsNursery nursery) where
  with_another : (id : ℕ) (object : Object) → len (insert nursery.objects id object) ≤ YOUNG → IsSmall object → Names nursery.objects object → IsNursery (young_changing nursery id object)
  with_another id object few small names = record {
    few = few;
    small = inserted_small nursery.objects id object sound.small small;
    closed = inserted_closed nursery.objects id object sound.closed names;
    places = sound.places;
    held = λ q here. stays nursery.objects id object q (sound.held q here);
  }

  -- an object is changed, and what it names is young
  pub changed_sound : (id : ℕ) (object : Object) → IsSome (get nursery.objects id) → IsSmall object → Names nursery.objects object → IsNursery (young_changing nursery id object)
  changed_sound id object there small names =
      let as_many : len (insert nursery.objects id object) ≡ len nursery.objects = len-insert nat_cmp_total nursery.objects id object ∙ same_count (is_some (get nursery.objects id)) (len nursery.objects) there in
      with_another id object (subst (λ n. n ≤ YOUNG) (sym as_many) sound.few) small names

  -- one is born
  pub born_sound : (id : ℕ) (object : Object) → len nursery.objects < YOUNG → IsSmall object → Names nursery.objects object → IsNursery (young_changing nursery id object)
  born_sound id object fewer small names =
      let more : len (insert nursery.objects id object) ≤ len nursery.objects + 1 = subst (λ n. n ≤ len nursery.objects + 1) (sym (len-insert nat_cmp_total nursery.objects id object)) (count (is_some (get nursery.objects id)) (len nursery.objects)) in
      with_another id object (omega (arith, more, fewer)) small names

  pub held_sound : (client reg id : ℕ) → client < CLIENTS → reg < REGISTERS → IsSome (get nursery.objects id) → IsNursery (young_holding nursery client reg id)
  held_sound client reg id is_client is_number there = record {
    few = sound.few;
    small = sound.small;
    closed = sound.closed;
    places = λ place q here.
        ⊎_elim
        (λ (it : (place ≡ (client, reg)) × (id ≡ q)). subst IsRegister (sym it.0) (is_client, is_number))
        (λ (it : (place ≡ (client, reg) → ⊥) × (get nursery.registers place ≡ Some q)). sound.places place q it.1)
        (insert_cases places_total places_antisymmetric nursery.registers (client, reg) id place q here);
    held = λ q here.
        ⊎_elim
        (λ (it : (here.0 ≡ (client, reg)) × (id ≡ q)). subst (λ x. IsSome (get nursery.objects x)) it.1 there)
        (λ (it : (here.0 ≡ (client, reg) → ⊥) × (get nursery.registers here.0 ≡ Some q)). sound.held q (here.0, it.1))
        (insert_cases places_total places_antisymmetric nursery.registers (client, reg) id here.0 q here.1);
  }

  -- registers are taken away
  pub fewer_held : (registers : Registers) → ((place : ℕ × ℕ) (id : ℕ) → get registers place ≡ Some id → get nursery.registers place ≡ Some id) → IsNursery (record nursery { registers = registers })
  fewer_held registers were = record {
    few = sound.few;
    small = sound.small;
    closed = sound.closed;
    places = λ place q here. sound.places place q (were place q here);
    held = λ q here. sound.held q (here.0, were here.0 q here.1);
  }

  pub forgotten_sound : (client reg : ℕ) → IsNursery (young_forgetting nursery client reg)
  forgotten_sound client reg = fewer_held (remove nursery.registers (client, reg)) (λ place q here. remove_cases places_total places_antisymmetric nursery.registers (client, reg) place q here)

  pub closed_sound : (client : ℕ) → IsNursery (young_closing nursery client)
  closed_sound client =
      fewer_held (retain_keys nursery.registers (λ place. not (nat_eq place.0 client)))
      (λ place q here. retain_cases places_total places_antisymmetric nursery.registers (λ place. not (nat_eq place.0 client)) place q here)

-- ---- those that go out

-- and names a young object that is left
left_named : (ids : List ℕ) (n : Option ℕ) (id : ℕ) → left_held ids n ≡ Some id → (n ≡ Some id) × (among ids id ≡ false)
left_named ids None id is = cc is
left_named ids (Some y) id is = by (among ids y) refl is
  where
    by : (b : Bool) → among ids y ≡ b → (if b then None else Some y) ≡ Some id → (Some y ≡ Some id) × (among ids id ≡ false)
    by true was never = cc never
    by false was here = let same : y ≡ id = cc here in (here, subst (λ x. among ids x ≡ false) same was)

module _ (nursery after : NurseryView) (ids : List ℕ) (sound : IsNursery nursery) (apart : IsDetached nursery.objects ids) (goes : GoesOut nursery ids after) where
  -- what is left was young, and did not come in
  pub left_there : (id : ℕ) (object : Object) → get after.objects id ≡ Some object → (get nursery.objects id ≡ Some object) × (among ids id ≡ false)
  left_there id object here = by (among ids id) refl (sym (goes.objects id) ∙ here)
    where
      by : (b : Bool) → among ids id ≡ b → (if b then None else get nursery.objects id) ≡ Some object → (get nursery.objects id ≡ Some object) × (among ids id ≡ false)
      by true was never = cc never
      by false was there = (there, was)

  left_stays : (id : ℕ) → among ids id ≡ false → IsSome (get nursery.objects id) → IsSome (get after.objects id)
  left_stays id outside there = subst IsSome (sym (goes.objects id ∙ passes (among ids id) None (get nursery.objects id) outside)) there

  pub nursery_after : IsNursery after
  nursery_after = record {
    few = let less = no_more (len after.objects) after.objects nursery.objects (omega arith) (λ id there. let object = found_of (get after.objects id) there in is_there (get nursery.objects id) object.0 (left_there id object.0 object.1).0) in omega (arith, less, sound.few);
    small = λ id object here. sound.small id object (left_there id object here).0;
    places = λ place id here. sound.places place id (left_named ids (get nursery.registers place) id (sym (goes.registers place) ∙ here)).0;
    closed = λ from to holds.
        let object = holder after.objects from to holds in
        let was = left_there from object.0 object.1 in
        let held = same_holds after.objects nursery.objects from to (object.1 ∙ sym was.0) holds in
        left_stays to (sym (apart from to held) ∙ was.1) (sound.closed from to held);
    held = λ id here.
        let was = left_named ids (get nursery.registers here.0) id (sym (goes.registers here.0) ∙ here.1) in
        left_stays id was.1 (sound.held id (here.0, was.0));
  }

-- ---- what a call of a nursery puts there

-- null fields name nothing
pub null_names : (heap : Heap) (object : Object) → All (λ field. field ≡ None) object.fields → Names heap object
null_names heap object null to within = let never : Some to ≡ None = subst (λ (f : Option ℕ). f ≡ None) within.2 (null within.0 (Some to) within.1) in cc never

-- as many fields, and the same bytes
pub field_small : (object : Object) (index : ℕ) (value : Option ℕ) → IsSmall object → IsSmall (with_field object index value)
field_small object index value small = (subst (λ n. n ≤ FIELDS) (sym (length-set object.fields index value)) small.0, small.1)

-- as many bytes
pub bytes_small : (object : Object) (at : ℕ) (from : List ℕ) → at + length from ≤ length object.bytes → IsSmall object → IsSmall (with_bytes object at from)
bytes_small object at from inside small = (
  small.0,
  simp (length-append, length-take, length-drop) (omega (arith, inside, small.1)),
)

module _ (nursery : NurseryView) (sound : IsNursery nursery) (id : ℕ) (after : Heap) where
  -- a field is written in place
  pub field_sound : (index : ℕ) (value : Option ℕ) → IsSomeAnd (get nursery.objects id) (λ object. index < length object.fields) → IfSome value (λ to. IsSome (get nursery.objects to))
      → ((object : Object) → get nursery.objects id ≡ Some object → after ≡ insert nursery.objects id (with_field object index value)) → IsNursery (record { objects = after; registers = nursery.registers })
  field_sound index value asked there writes =
      let found = found_of (get nursery.objects id) (holds_some (λ object. index < length object.fields) (get nursery.objects id) asked) in
      subst (λ (heap : Heap). IsNursery (record { objects = heap; registers = nursery.registers })) (sym (writes found.0 found.1))
      (changed_sound nursery sound id (with_field found.0 index value) (is_there (get nursery.objects id) found.0 found.1) (field_small found.0 index value (sound.small id found.0 found.1))
      (set_named nursery.objects sound.closed id found.0 found.1 index value (λ to is. let here : IfSome (Some to) (λ to. IsSome (get nursery.objects to)) = subst (λ v. IfSome v (λ to. IsSome (get nursery.objects to))) is there in here)))

  -- bytes are
  pub bytes_sound : (at : ℕ) (from : List ℕ) → IsSomeAnd (get nursery.objects id) (λ object. at + length from ≤ length object.bytes)
      → ((object : Object) → get nursery.objects id ≡ Some object → after ≡ insert nursery.objects id (with_bytes object at from)) → IsNursery (record { objects = after; registers = nursery.registers })
  bytes_sound at from asked writes =
      let found = found_of (get nursery.objects id) (holds_some (λ object. at + length from ≤ length object.bytes) (get nursery.objects id) asked) in
      let inside : at + length from ≤ length found.0.bytes = let here : IsSomeAnd (Some found.0) (λ object. at + length from ≤ length object.bytes) = subst (λ o. IsSomeAnd o (λ object. at + length from ≤ length object.bytes)) found.1 asked in here in
      subst (λ (heap : Heap). IsNursery (record { objects = heap; registers = nursery.registers })) (sym (writes found.0 found.1))
      (changed_sound nursery sound id (with_bytes found.0 at from) (is_there (get nursery.objects id) found.0 found.1) (bytes_small found.0 at from inside (sound.small id found.0 found.1))
      (λ to names. sound.closed id to (subst (λ (o : Option Object). IsSomeAnd o (λ object. Contains object.fields (Some to))) (sym found.1) names)))
