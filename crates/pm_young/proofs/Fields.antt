-- What a field names is held by its object.
use Rattle.std.proofs.Common.{◌≡◌, ℕ, zero, suc, ◌<◌, List, [], ◌∷◌, length, get_or, Option, Some, None, arith}
use Rattle.std.specs.Option.{IsSomeAnd}
use Rattle.std.specs.List.{Contains, slice_get}
use Rattle.pm_model.specs.Heap.{Object, field_of}

at_item : {X : Type 0} (xs : List X) (k : ℕ) (x : X) → slice_get xs k ≡ Some x → Contains xs x
at_item xs k x is = (k, within xs k x is, item xs k x is)
  where
    within : {X : Type 0} (xs : List X) (k : ℕ) (x : X) → slice_get xs k ≡ Some x → k < length xs
    within [] k x is = cc
    within (y ∷ ys) zero x is = omega arith
    within (y ∷ ys) (suc k) x is = let rest = within ys k x is in omega (arith, rest)

    item : {X : Type 0} (xs : List X) (k : ℕ) (x : X) → slice_get xs k ≡ Some x → get_or xs k x ≡ x
    item [] k x is = cc
    item (y ∷ ys) zero x is = cc
    item (y ∷ ys) (suc k) x is = item ys k x is

pub holds_field : (o : Option Object) (index id : ℕ) → field_of o index ≡ Some (Some id) → IsSomeAnd o (λ object. Contains object.fields (Some id))
holds_field None index id is = cc
holds_field (Some object) index id is = at_item object.fields index (Some id) is
