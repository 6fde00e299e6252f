-- What fields name once one of an object was set.
use Rattle.std.proofs.Common.{◌≡◌, ◌⊎◌, ⊎_elim, inl, inr, ℕ, zero, suc, List, [], ◌∷◌, Option, Some, None, slice_set, sym, subst}
use Rattle.std.specs.Option.{IsSome, IsSomeAnd}
use Rattle.std.specs.List.{Contains, slice_get}
use Rattle.std.specs.FinMap.{get}
use Rattle.pm_model.specs.Heap.{Object, Heap, Holds, field_of, with_field}
use Rattle.pm_model.proofs.Members.{at_first, in_rest, in_none, first_or_rest}
use Rattle.pm_nursery.specs.Moving.{Names}

-- a list has what is at a place of it
has_place : {X : Type 0} (xs : List X) (index : ℕ) (x : X) → slice_get xs index ≡ Some x → Contains xs x
has_place [] index x is = cc is
has_place (y ∷ ys) zero x is = subst (Contains (y ∷ ys)) (let same : y ≡ x = cc is in same) (at_first y ys)
has_place (y ∷ ys) (suc index) x is = in_rest y x ys (has_place ys index x is)

-- what a field holds the object holds
pub field_named : (o : Option Object) (index to : ℕ) → field_of o index ≡ Some (Some to) → IsSomeAnd o (λ object. Contains object.fields (Some to))
field_named None index to is = cc is
field_named (Some object) index to is = has_place object.fields index (Some to) is

-- what is in a list where one was set was set, or was in it
pub set_or_was : (fields : List (Option ℕ)) (index to : ℕ) (value : Option ℕ) → Contains (slice_set fields index value) (Some to) → (value ≡ Some to) ⊎ Contains fields (Some to)
set_or_was [] index to value within = absurd (in_none (Some to) within)
set_or_was (field ∷ fields) zero to value within =
    ⊎_elim
    (λ (same : value ≡ Some to). inl same)
    (λ (there : Contains fields (Some to)). inr (in_rest field (Some to) fields there))
    (first_or_rest value (Some to) fields within)
set_or_was (field ∷ fields) (suc index) to value within =
    ⊎_elim
    (λ (same : field ≡ Some to). inr (subst (Contains (field ∷ fields)) same (at_first field fields)))
    (λ (there : Contains (slice_set fields index value) (Some to)).
    ⊎_elim
    (λ (is : value ≡ Some to). inl is)
    (λ (rest : Contains fields (Some to)). inr (in_rest field (Some to) fields rest))
    (set_or_was fields index to value there))
    (first_or_rest field (Some to) (slice_set fields index value) within)

-- so the object names what is there
pub set_named : (heap : Heap) → ((from to : ℕ) → Holds heap from to → IsSome (get heap to)) → (id : ℕ) (object : Object) → get heap id ≡ Some object
    → (index : ℕ) (value : Option ℕ) → ((to : ℕ) → value ≡ Some to → IsSome (get heap to)) → Names heap (with_field object index value)
set_named heap fields id object here index value names to within_fields =
    ⊎_elim
    (λ (same : value ≡ Some to). names to same)
    (λ (was : Contains object.fields (Some to)). fields id to (subst (λ (o : Option Object). IsSomeAnd o (λ object. Contains object.fields (Some to))) (sym here) was))
    (set_or_was object.fields index to value within_fields)
