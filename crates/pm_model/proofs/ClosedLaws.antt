-- Worlds in which whatever is named is an object stay so, objects keep their shapes, and the limits are kept.
use Rattle.std.proofs.Common.{◌≡◌, ◌≤◌, ℕ, zero, suc, ◌+◌, ◌-◌, Bool, true, false, cond, not, ◌&&◌, leb, nat_eq, List, [], ◌∷◌, ◌++◌, length, take, drop, set, slice_get, ◌⊎◌, inl, inr, Option, Some, None, refl, ap, sym, subst, ◌∙◌, arith, length-append, length-take, length-drop, lit≤}
use Rattle.std.specs.List.{Contains}
use Rattle.std.specs.Option.{IsSome, IsSomeAnd, IfSome, is_some}
use Rattle.std.specs.Ordering.{nat_cmp}
use Rattle.std.specs.Cmp.{nat_cmp_total}
use Rattle.std.specs.FinMap.{get, insert, empty, get-empty, len, len-insert, len-remove, len-empty, contains_key, nat_cmp-IsAntisymmetric}
use Rattle.std.proofs.lemmas.Bool.{cases_eq, leb-false}
use Rattle.std.proofs.lemmas.List.{length-set}
use Rattle.std.proofs.lemmas.Option.{slice_get_within, get_or_from_slice_get}
use Rattle.pm_types.specs.declared.limits.TheConstants.{OBJECT_BYTES, FIELDS, ROOTS}
use Rattle.pm_types.specs.declared.command.Cmd.{Cmd}
use Rattle.pm_types.specs.declared.reply.Reply.{Reply}
use Rattle.pm_types.specs.declared.entry.Entry.{Entry}
use Rattle.pm_types.specs.Orders.{name_cmp, place_cmp}
use Rattle.pm_types.proofs.Orders.{names_total, names_antisymmetric, places_total, places_antisymmetric}
use Rattle.pm_model.specs.Heap.{Object, Heap, Holds, field_of, with_field, with_bytes}
use Rattle.pm_model.specs.World.{World, Roots, Registers, Copy, begin, empty_world, empty_copy, changing}
use Rattle.pm_model.specs.Copying.{copied, copy, IsRoot}
use Rattle.pm_model.specs.Answer.{answer}
use Rattle.pm_model.specs.Journal.{after}
use Rattle.pm_model.specs.Closed.{IsClosedGraph, IsClosedCopy, IsClosed, IsAlike, IsWithinLimits}
use Rattle.pm_model.proofs.Maps.{insert_here, insert_other, insert_cases, insert_stays, remove_cases, retain_cases}
use Rattle.pm_model.proofs.Reaching.{reachable_next}
use Rattle.pm_model.proofs.Reached.{copied_kept, copied_reached}
use Rattle.pm_model.proofs.Effects.{Effect, Nothing, Makes, Holds as HoldsIt, Sets, Puts, Names, Closes, Begins, Settles, Drops, Watches, effected, IsOf, does}

heap_cases : (heap : Heap) (at : ℕ) (new : Object) (id : ℕ) (object : Object) → get (insert heap at new) id ≡ Some object → ((id ≡ at) × (new ≡ object)) ⊎ ((id ≡ at → ⊥) × (get heap id ≡ Some object))
heap_cases heap at new id object is = insert_cases nat_cmp_total nat_cmp-IsAntisymmetric heap at new id object is

heap_stays : (heap : Heap) (at : ℕ) (new : Object) (id : ℕ) → IsSome (get heap id) → IsSome (get (insert heap at new) id)
heap_stays heap at new id is = insert_stays nat_cmp_total nat_cmp-IsAntisymmetric heap at new id is

some_is : {X : Type 0} (o : Option X) → IsSome o → (x : X) × (o ≡ Some x)
some_is None is = cc
some_is (Some x) is = (x, refl)

is_some_of : {X : Type 0} (o : Option X) (x : X) → o ≡ Some x → IsSome o
is_some_of o x is = ap is_some is

-- a field that holds something is one of an object
pub field_cases : (found : Option Object) (index : ℕ) (content : Option ℕ) → field_of found index ≡ Some content → (object : Object) × (found ≡ Some object) × (slice_get object.fields index ≡ Some content)
field_cases None index content is = cc
field_cases (Some object) index content is = (object, refl, is)

-- what a field holds, once a field was set
set_cases : (fields : List (Option ℕ)) (index : ℕ) (value : Option ℕ) (k : ℕ) (content : Option ℕ) → slice_get (set fields index value) k ≡ Some content → (value ≡ content) ⊎ (slice_get fields k ≡ Some content)
set_cases [] index value k content is = inr is
set_cases (field ∷ fields) zero value zero content is = inl cc
set_cases (field ∷ fields) zero value (suc k) content is = inr is
set_cases (field ∷ fields) (suc index) value zero content is = inr is
set_cases (field ∷ fields) (suc index) value (suc k) content is = set_cases fields index value k content is

-- the fields of a heap name objects, also once another object stands there whose fields do
fields_stay : (heap : Heap) (at : ℕ) (new : Object) → ((from index to : ℕ) → field_of (get heap from) index ≡ Some (Some to) → IsSome (get heap to))
    → ((index to : ℕ) → slice_get new.fields index ≡ Some (Some to) → IsSome (get heap to))
    → (from index to : ℕ) → field_of (get (insert heap at new) from) index ≡ Some (Some to) → IsSome (get (insert heap at new) to)
fields_stay heap at new closed known from index to is =
    let holder = field_cases (get (insert heap at new) from) index (Some to) is in
    heap_stays heap at new to (elim (heap_cases heap at new from holder.0 holder.1) [
      | inl here ↦ known index to (ap (λ (o : Object). slice_get o.fields index) here.1 ∙ holder.2)
      | inr there ↦ closed from index to (ap (λ found. field_of found index) there.1 ∙ holder.2)
    ])

-- ---- copies

holds_it : (heap : Heap) (from index to : ℕ) (object : Object) → get heap from ≡ Some object → slice_get object.fields index ≡ Some (Some to) → Holds heap from to
holds_it heap from index to object there is =
    subst (λ found. IsSomeAnd found (λ (o : Object). Contains o.fields (Some to))) (sym there)
    (index, slice_get_within object.fields index (Some to) is, get_or_from_slice_get object.fields index (Some to) (Some to) is)

-- the copy of a graph in which whatever is named is an object is one too
pub copied_closed : (heap : Heap) (roots : Roots) (next : ℕ) → IsClosedGraph heap roots next → IsClosedCopy (copied heap roots next)
copied_closed heap roots next closed =
    record {
      first = closed.first;
      last = closed.last;
      given = λ id object is. closed.given id object (copied_kept heap roots next id object is).0;
      fields = λ from index to is.
          let holder = field_cases (get (copied heap roots next).heap from) index (Some to) is in
          let kept = copied_kept heap roots next from holder.0 holder.1 in
          let target = some_is (get heap to) (closed.fields from index to (ap (λ found. field_of found index) kept.0 ∙ holder.2)) in
          let reached = reachable_next heap (IsRoot roots) from to kept.1 (holds_it heap from index to holder.0 kept.0 holder.2) in
          is_some_of _ target.0 (copied_reached heap roots next to target.0 reached target.1);
      named = λ name id is.
          let target = some_is (get heap id) (closed.named name id is) in
          is_some_of _ target.0 (copied_reached heap roots next id target.0 (id, [], (name, is), refl) target.1);
    }

-- ---- worlds

-- the world in which an object is another one, whose fields name objects
changed_closed : (world : World) (at : ℕ) (old new : Object) → IsClosed world → get world.heap at ≡ Some old → ((index to : ℕ) → slice_get new.fields index ≡ Some (Some to) → IsSome (get world.heap to)) → IsClosed (changing world at new)
changed_closed world at old new closed there known =
    record {
      graph = record {
        first = closed.graph.first;
        last = closed.graph.last;
        given = λ id object is.
            elim (heap_cases world.heap at new id object is) [
              | inl here ↦ closed.graph.given id old (ap (get world.heap) here.0 ∙ there)
              | inr other ↦ closed.graph.given id object other.1
            ];
        fields = fields_stay world.heap at new closed.graph.fields known;
        named = λ name id is. heap_stays world.heap at new id (closed.graph.named name id is);
      };
      registers = λ client reg id is. heap_stays world.heap at new id (closed.registers client reg id is);
      settled = closed.settled;
      saving = closed.saving;
    }

register_known : (world : World) (client reg to : ℕ) → IsSome (get world.heap to) → IsClosed world → (other register id : ℕ) → get (insert world.registers (client, reg) to) (other, register) ≡ Some id → IsSome (get world.heap id)
register_known world client reg to known closed other register id is =
    elim (insert_cases places_total places_antisymmetric world.registers (client, reg) to (other, register) id is) [
      | inl here ↦ subst (λ id. IsSome (get world.heap id)) here.1 known
      | inr there ↦ closed.registers other register id there.1
    ]

-- the world with other registers, or other roots, that name objects
registers_closed : (world : World) (registers : Registers) → IsClosed world → ((client reg id : ℕ) → get registers (client, reg) ≡ Some id → IsSome (get world.heap id)) → IsClosed (record world { registers = registers })
registers_closed world registers closed known = record { graph = closed.graph; registers = known; settled = closed.settled; saving = closed.saving }

roots_closed : (world : World) (roots : Roots) → IsClosed world → ((name : List ℕ) (id : ℕ) → get roots name ≡ Some id → IsSome (get world.heap id)) → IsClosed (record world { roots = roots })
roots_closed world roots closed known =
    record {
      graph = record { first = closed.graph.first; last = closed.graph.last; given = closed.graph.given; fields = closed.graph.fields; named = known };
      registers = closed.registers;
      settled = closed.settled;
      saving = closed.saving;
    }

effect_closed : (world : World) (client : ℕ) (cmd : Cmd) (reply : Reply) (effect : Effect) → IsOf world client cmd reply effect → IsClosed world → IsClosed (effected world client effect)
effect_closed world client cmd reply Nothing of closed = closed
effect_closed world client cmd reply (Makes reg object) of closed =
    let here : IsSome (get (insert world.heap world.next object) world.next) = is_some_of _ object (insert_here nat_cmp_total nat_cmp-IsAntisymmetric world.heap world.next object) in
    let room = of.room in
    let first = closed.graph.first in
    record {
      graph = record {
        first = omega arith;
        last = omega arith;
        given = λ id found is.
            elim (heap_cases world.heap world.next object id found is) [
              | inl new ↦ let same = new.0 in (omega arith, omega arith)
              | inr old ↦ let given = closed.graph.given id found old.1 in (given.0, (let below = given.1 in omega arith))
            ];
        fields = fields_stay world.heap world.next object closed.graph.fields (λ index to is. absurd (of.null index to is));
        named = λ name id is. heap_stays world.heap world.next object id (closed.graph.named name id is);
      };
      registers = λ other register id is.
          elim (insert_cases places_total places_antisymmetric world.registers (client, reg) world.next (other, register) id is) [
            | inl new ↦ subst (λ id. IsSome (get (insert world.heap world.next object) id)) new.1 here
            | inr old ↦ heap_stays world.heap world.next object id (closed.registers other register id old.1)
          ];
      settled = closed.settled;
      saving = closed.saving;
    }
effect_closed world client cmd reply (HoldsIt reg None) of closed =
    registers_closed world _ closed (λ other register id is. closed.registers other register id (remove_cases places_total places_antisymmetric world.registers (client, reg) (other, register) id is))
effect_closed world client cmd reply (HoldsIt reg (Some to)) of closed = registers_closed world _ closed (register_known world client reg to (of.known closed) closed)
effect_closed world client cmd reply (Sets at object index value) of closed =
    changed_closed world at object (with_field object index value) closed of.there (λ k to is.
    elim (set_cases object.fields index value k (Some to) is) [
      | inl new ↦ subst (λ value. IfSome value (λ id. IsSome (get world.heap id))) new (of.known closed)
      | inr old ↦ closed.graph.fields at k to (ap (λ found. field_of found k) of.there ∙ old)
    ])
effect_closed world client cmd reply (Puts at object from bytes) of closed =
    changed_closed world at object (with_bytes object from bytes) closed of.there (λ k to is. closed.graph.fields at k to (ap (λ found. field_of found k) of.there ∙ is))
effect_closed world client cmd reply (Names name None) of closed =
    roots_closed world _ closed (λ other id is. closed.graph.named other id (remove_cases names_total names_antisymmetric world.roots name other id is))
effect_closed world client cmd reply (Names name (Some to)) of closed =
    roots_closed world _ closed (λ other id is.
    elim (insert_cases names_total names_antisymmetric world.roots name to other id is) [
      | inl new ↦ subst (λ id. IsSome (get world.heap id)) new.1 (of.known closed)
      | inr old ↦ closed.graph.named other id old.1
    ])
effect_closed world client cmd reply Closes of closed =
    registers_closed world _ closed (λ other register id is.
    closed.registers other register id (retain_cases places_total places_antisymmetric world.registers (λ place. not (nat_eq place.0 client)) (other, register) id is))
effect_closed world client cmd reply (Begins number) of closed =
    record { graph = closed.graph; registers = closed.registers; settled = closed.settled; saving = copied_closed world.heap world.roots world.next closed.graph }
effect_closed world client cmd reply (Settles number kept) of closed =
    record {
      graph = closed.graph;
      registers = closed.registers;
      settled = subst (λ saving. IfSome saving (λ (begun : ℕ × Copy). IsClosedCopy begun.1)) of.was closed.saving;
      saving = tt;
    }
effect_closed world client cmd reply Drops of closed = record { graph = closed.graph; registers = closed.registers; settled = closed.settled; saving = tt }
effect_closed world client cmd reply Watches of closed = record { graph = closed.graph; registers = closed.registers; settled = closed.settled; saving = closed.saving }

pub answer_closed : (world : World) (client : ℕ) (cmd : Cmd) → IsClosed world → IsClosed (answer world client cmd).1
answer_closed world client cmd closed = let d = does world client cmd in subst IsClosed (sym d.is) (effect_closed world client cmd _ d.effect d.allowed closed)

pub closed_after : (world : World) (journal : List Entry) → IsClosed world → IsClosed (after world journal)
closed_after world [] closed = closed
closed_after world (entry ∷ journal) closed = closed_after (answer world entry.client entry.cmd).1 journal (answer_closed world entry.client entry.cmd closed)

-- no register holds anything where all are empty
no_register : (client reg id : ℕ) → get (empty {X = ℕ} {R = place_cmp}) (client, reg) ≡ Some id → ⊥
no_register client reg id is = let none = get-empty {X = ℕ} place_cmp (client, reg) in cc

pub begin_closed : (number : ℕ) (copy : Copy) → IsClosedCopy copy → IsClosed (begin number copy)
begin_closed number copy closed = record { graph = closed; registers = λ client reg id is. absurd (no_register client reg id is); settled = closed; saving = tt }

no_object : (id : ℕ) (object : Object) → get (empty {X = Object} {R = nat_cmp}) id ≡ Some object → ⊥
no_object id object is = let none = get-empty {X = Object} nat_cmp id in cc

no_name : (name : List ℕ) (id : ℕ) → get (empty {X = ℕ} {R = name_cmp}) name ≡ Some id → ⊥
no_name name id is = let none = get-empty {X = ℕ} name_cmp name in cc

no_field : (from index to : ℕ) → field_of (get (empty {X = Object} {R = nat_cmp}) from) index ≡ Some (Some to) → ⊥
no_field from index to is = let holder = field_cases (get empty from) index (Some to) is in no_object from holder.0 holder.1

pub empty_closed : IsClosed empty_world
empty_closed =
    begin_closed 0 empty_copy
    (record {
      first = lit≤ tt;
      last = lit≤ tt;
      given = λ id object is. absurd (no_object id object is);
      fields = λ from index to is. absurd (no_field from index to is);
      named = λ name id is. absurd (no_name name id is);
    })

-- ---- shapes and limits

pub empty_within : IsWithinLimits empty_world
empty_within =
    record { fields = λ id object is. absurd (no_object id object is); bytes = λ id object is. absurd (no_object id object is); names = rw (len-empty name_cmp ℕ) (lit≤ tt); watches = lit≤ tt }

alike_itself : (object : Object) → IsAlike object object
alike_itself object = (refl, refl)

-- the bytes of an object are as many as before
bytes_length : (bytes from : List ℕ) (at : ℕ) → at + length from ≤ length bytes → length (take at bytes ++ (from ++ drop (at + length from) bytes)) ≡ length bytes
bytes_length bytes from at within = simp (length-append, length-take, length-drop) (omega arith)

alike_insert : (heap : Heap) (at : ℕ) (old new : Object) (id : ℕ) (object : Object) → get heap at ≡ Some old → IsAlike old new → get heap id ≡ Some object → IsSomeAnd (get (insert heap at new) id) (IsAlike object)
alike_insert heap at old new id object there alike is =
    elim (cases_eq id at) [
      | inl same ↦
          let old_is : old ≡ object = let one = ap (get heap) same in cc in
          subst (λ found. IsSomeAnd found (IsAlike object)) (sym (ap (get (insert heap at new)) same ∙ insert_here nat_cmp_total nat_cmp-IsAntisymmetric heap at new)) (subst (λ o. IsAlike o new) old_is alike)
      | inr other ↦ subst (λ found. IsSomeAnd found (IsAlike object)) (sym (insert_other nat_cmp_total nat_cmp-IsAntisymmetric heap at new id other ∙ is)) (alike_itself object)
    ]

alike_same : (heap : Heap) (id : ℕ) (object : Object) → get heap id ≡ Some object → IsSomeAnd (get heap id) (IsAlike object)
alike_same heap id object is = subst (λ found. IsSomeAnd found (IsAlike object)) (sym is) (alike_itself object)

effect_alike : (world : World) (client : ℕ) (cmd : Cmd) (reply : Reply) (effect : Effect) (id : ℕ) (object : Object) → IsOf world client cmd reply effect → IsClosed world → get world.heap id ≡ Some object
    → IsSomeAnd (get (effected world client effect).heap id) (IsAlike object)
effect_alike world client cmd reply Nothing id object of closed is = alike_same world.heap id object is
effect_alike world client cmd reply (Makes reg new) id object of closed is =
    let given = closed.graph.given id object is in
    subst (λ found. IsSomeAnd found (IsAlike object)) (sym (insert_other nat_cmp_total nat_cmp-IsAntisymmetric world.heap world.next new id (λ same. let below = given.1 in omega (arith, same)) ∙ is)) (alike_itself object)
effect_alike world client cmd reply (HoldsIt reg None) id object of closed is = alike_same world.heap id object is
effect_alike world client cmd reply (HoldsIt reg (Some to)) id object of closed is = alike_same world.heap id object is
effect_alike world client cmd reply (Sets at old index value) id object of closed is = alike_insert world.heap at old (with_field old index value) id object of.there (length-set old.fields index value, refl) is
effect_alike world client cmd reply (Puts at old from bytes) id object of closed is = alike_insert world.heap at old (with_bytes old from bytes) id object of.there (refl, bytes_length old.bytes bytes from of.within) is
effect_alike world client cmd reply (Names name None) id object of closed is = alike_same world.heap id object is
effect_alike world client cmd reply (Names name (Some to)) id object of closed is = alike_same world.heap id object is
effect_alike world client cmd reply Closes id object of closed is = alike_same world.heap id object is
effect_alike world client cmd reply (Begins number) id object of closed is = alike_same world.heap id object is
effect_alike world client cmd reply (Settles number kept) id object of closed is = alike_same world.heap id object is
effect_alike world client cmd reply Drops id object of closed is = alike_same world.heap id object is
effect_alike world client cmd reply Watches id object of closed is = alike_same world.heap id object is

answer_alike : (world : World) (client : ℕ) (cmd : Cmd) (id : ℕ) (object : Object) → IsClosed world → get world.heap id ≡ Some object → IsSomeAnd (get (answer world client cmd).1.heap id) (IsAlike object)
answer_alike world client cmd id object closed is =
    let d = does world client cmd in subst (λ (w : World). IsSomeAnd (get w.heap id) (IsAlike object)) (sym d.is) (effect_alike world client cmd _ d.effect id object d.allowed closed is)

and_some : (found : Option Object) (object : Object) → IsSomeAnd found (IsAlike object) → (now : Object) × (found ≡ Some now) × IsAlike object now
and_some None object is = absurd is
and_some (Some now) object is = (now, refl, is)

alike_on : (one two : Object) (found : Option Object) → IsAlike one two → IsSomeAnd found (IsAlike two) → IsSomeAnd found (IsAlike one)
alike_on one two None alike is = is
alike_on one two (Some now) alike is = (is.0 ∙ alike.0, is.1 ∙ alike.1)

-- no object's number of fields or bytes changes, whatever is asked
pub alike_after : (world : World) (journal : List Entry) (id : ℕ) (object : Object) → IsClosed world → get world.heap id ≡ Some object → IsSomeAnd (get (after world journal).heap id) (IsAlike object)
alike_after world [] id object closed is = alike_same world.heap id object is
alike_after world (entry ∷ journal) id object closed is =
    let next = (answer world entry.client entry.cmd).1 in
    let now = and_some (get next.heap id) object (answer_alike world entry.client entry.cmd id object closed is) in
    alike_on object now.0 _ now.2 (alike_after next journal id now.0 (answer_closed world entry.client entry.cmd closed) now.1)

effect_stays : (world : World) (client : ℕ) (cmd : Cmd) (reply : Reply) (effect : Effect) (id : ℕ) → IsSome (get world.heap id) → IsSome (get (effected world client effect).heap id)
effect_stays world client cmd reply Nothing id is = is
effect_stays world client cmd reply (Makes reg object) id is = heap_stays world.heap world.next object id is
effect_stays world client cmd reply (HoldsIt reg None) id is = is
effect_stays world client cmd reply (HoldsIt reg (Some to)) id is = is
effect_stays world client cmd reply (Sets at object index value) id is = heap_stays world.heap at _ id is
effect_stays world client cmd reply (Puts at object from bytes) id is = heap_stays world.heap at _ id is
effect_stays world client cmd reply (Names name None) id is = is
effect_stays world client cmd reply (Names name (Some to)) id is = is
effect_stays world client cmd reply Closes id is = is
effect_stays world client cmd reply (Begins number) id is = is
effect_stays world client cmd reply (Settles number kept) id is = is
effect_stays world client cmd reply Drops id is = is
effect_stays world client cmd reply Watches id is = is

-- no object is taken away, whatever is asked
pub stays_after : (world : World) (journal : List Entry) (id : ℕ) → IsSome (get world.heap id) → IsSome (get (after world journal).heap id)
stays_after world [] id is = is
stays_after world (entry ∷ journal) id is =
    let d = does world entry.client entry.cmd in
    stays_after (answer world entry.client entry.cmd).1 journal id (subst (λ (w : World). IsSome (get w.heap id)) (sym d.is) (effect_stays world entry.client entry.cmd (answer world entry.client entry.cmd).0 d.effect id is))

-- the objects of a heap are small
abbrev IsSmall : Heap → Type 0
IsSmall heap = (id : ℕ) (object : Object) → get heap id ≡ Some object → (length object.fields ≤ FIELDS) × (length object.bytes ≤ OBJECT_BYTES)

small_insert : (heap : Heap) (at : ℕ) (new : Object) → IsSmall heap → length new.fields ≤ FIELDS → length new.bytes ≤ OBJECT_BYTES → IsSmall (insert heap at new)
small_insert heap at new small fields bytes id object is =
    elim (heap_cases heap at new id object is) [
      | inl here ↦ subst (λ (o : Object). (length o.fields ≤ FIELDS) × (length o.bytes ≤ OBJECT_BYTES)) here.1 (fields, bytes)
      | inr other ↦ small id object other.1
    ]

-- the same world but with another heap of small objects
heap_within : (world : World) (heap : Heap) → IsWithinLimits world → IsSmall heap → IsWithinLimits (record world { heap = heap })
heap_within world heap within small = record { fields = λ id object is. (small id object is).0; bytes = λ id object is. (small id object is).1; names = within.names; watches = within.watches }

small_of : (world : World) → IsWithinLimits world → IsSmall world.heap
small_of world within id object is = (within.fields id object is, within.bytes id object is)

-- one more name, where it was bound or there is room for it
one_more : (bound full : Bool) (n : ℕ) → (not bound && full) ≡ false → full ≡ leb ROOTS n → n ≤ ROOTS → cond bound n (n + 1) ≤ ROOTS
one_more true full n room is small = small
one_more false full n room is small = let less = leb-false ROOTS n (sym is ∙ room) in omega arith

one_less : (bound : Bool) (n : ℕ) → n ≤ ROOTS → cond bound (n - 1) n ≤ ROOTS
one_less true n small = omega arith
one_less false n small = small

effect_within : (world : World) (client : ℕ) (cmd : Cmd) (reply : Reply) (effect : Effect) → IsOf world client cmd reply effect → IsWithinLimits world → IsWithinLimits (effected world client effect)
effect_within world client cmd reply Nothing of within = within
effect_within world client cmd reply (Makes reg object) of within =
    let small = small_insert world.heap world.next object (small_of world within) of.fields of.bytes in
    record { fields = λ id object is. (small id object is).0; bytes = λ id object is. (small id object is).1; names = within.names; watches = within.watches }
effect_within world client cmd reply (HoldsIt reg None) of within = record { fields = within.fields; bytes = within.bytes; names = within.names; watches = within.watches }
effect_within world client cmd reply (HoldsIt reg (Some to)) of within = record { fields = within.fields; bytes = within.bytes; names = within.names; watches = within.watches }
effect_within world client cmd reply (Sets at object index value) of within =
    heap_within world _ within
    (small_insert world.heap at (with_field object index value) (small_of world within) (rw (length-set object.fields index value) (within.fields at object of.there)) (within.bytes at object of.there))
effect_within world client cmd reply (Puts at object from bytes) of within =
    heap_within world _ within
    (small_insert world.heap at (with_bytes object from bytes) (small_of world within) (within.fields at object of.there) (rw (bytes_length object.bytes bytes from of.within) (within.bytes at object of.there)))
effect_within world client cmd reply (Names name None) of within =
    record {
      fields = within.fields;
      bytes = within.bytes;
      names = rw (len-remove names_total world.roots name) (one_less (contains_key world.roots name) (len world.roots) within.names);
      watches = within.watches;
    }
effect_within world client cmd reply (Names name (Some to)) of within =
    record {
      fields = within.fields;
      bytes = within.bytes;
      names = rw (len-insert names_total world.roots name to) (one_more (contains_key world.roots name) (leb ROOTS (len world.roots)) (len world.roots) of.room refl within.names);
      watches = within.watches;
    }
effect_within world client cmd reply Closes of within = record { fields = within.fields; bytes = within.bytes; names = within.names; watches = within.watches }
effect_within world client cmd reply (Begins number) of within = record { fields = within.fields; bytes = within.bytes; names = within.names; watches = within.watches }
effect_within world client cmd reply (Settles number kept) of within = record { fields = within.fields; bytes = within.bytes; names = within.names; watches = within.watches }
effect_within world client cmd reply Drops of within = record { fields = within.fields; bytes = within.bytes; names = within.names; watches = within.watches }
effect_within world client cmd reply Watches of within = record { fields = within.fields; bytes = within.bytes; names = within.names; watches = (let below = of.below in omega arith) }

-- the limits are kept, whatever is asked
pub within_after : (world : World) (journal : List Entry) → IsWithinLimits world → IsWithinLimits (after world journal)
within_after world [] within = within
within_after world (entry ∷ journal) within =
    let d = does world entry.client entry.cmd in
    within_after (answer world entry.client entry.cmd).1 journal (subst IsWithinLimits (sym d.is) (effect_within world entry.client entry.cmd (answer world entry.client entry.cmd).0 d.effect d.allowed within))
