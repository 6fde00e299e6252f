-- A heap whose identities another has too has no more of them.
use Rattle.std.proofs.Common.{◌≡◌, ℕ, zero, suc, ◌-◌, ◌≤◌, true, cond, List, [], ◌∷◌, length, Some, refl, sym, ap, subst, ◌∙◌, arith, map}
use Rattle.std.specs.Option.{IsSome, is_some}
use Rattle.std.specs.List.{Contains}
use Rattle.std.specs.Cmp.{nat_cmp_total}
use Rattle.std.specs.FinMap.{get, remove, len, entries, values, len-entries, len-remove, nat_cmp-IsAntisymmetric}
use Rattle.pm_model.specs.Heap.{Object, Heap}
use Rattle.pm_model.proofs.Members.{at_key}
use Rattle.pm_model.proofs.Maps.{remove_here, remove_other, remove_cases}
use Rattle.pm_model.proofs.Reached.{no_objects}
use Rattle.pm_nursery.proofs.Parts.{found_of, is_there, none_some}

-- a heap that is not of nothing has an object
some_entry : (heap : Heap) (n : ℕ) → len heap ≡ suc n → (id : ℕ) × (object : Object) × (get heap id ≡ Some object)
some_entry heap n is = by (entries heap) refl
  where
    by : (es : List (ℕ × Object)) → entries heap ≡ es → (id : ℕ) × (object : Object) × (get heap id ≡ Some object)
    by [] none = absurd (let zero_is : len heap ≡ 0 = len-entries heap ∙ ap length none in omega (arith, zero_is, is))
    by (e ∷ es) here =
        let within : Contains (values heap) e.1 = subst (λ (es : List (ℕ × Object)). Contains (map (λ e. e.1) es) e.1) (sym here) (0, omega arith, refl) in
        let at = at_key nat_cmp_total heap e.1 within in
        (at.0, e.1, at.1)

-- and one less without it
less_one : (heap : Heap) (id : ℕ) (object : Object) → get heap id ≡ Some object → suc (len (remove heap id)) ≡ len heap
less_one heap id object is = by (len heap) refl
  where
    by : (n : ℕ) → len heap ≡ n → suc (len (remove heap id)) ≡ len heap
    by zero none = absurd (no_objects heap id object (omega (arith, none)) is)
    by (suc n) some =
        let found : is_some (get heap id) ≡ true = ap is_some is in
        let less : len (remove heap id) ≡ cond (is_some (get heap id)) (len heap - 1) (len heap) = len-remove nat_cmp_total heap id in
        let here : cond (is_some (get heap id)) (len heap - 1) (len heap) ≡ len heap - 1 = ap (λ b. cond b (len heap - 1) (len heap)) found in
        omega (arith, less, here, some)

abbrev Has : Heap → Heap → Type 0
Has one other = (id : ℕ) → IsSome (get one id) → IsSome (get other id)

-- what one has beside an identity the other has beside it
beside : (one other : Heap) (id : ℕ) → Has one other → Has (remove one id) (remove other id)
beside one other id has q is =
    let object = found_of (get (remove one id) q) is in
    let before = remove_cases nat_cmp_total nat_cmp-IsAntisymmetric one id q object.0 object.1 in
    subst IsSome (sym (remove_other nat_cmp_total nat_cmp-IsAntisymmetric other id q (λ same. none_some (get (remove one id) q) object.0 (ap (get (remove one id)) same ∙ remove_here nat_cmp_total nat_cmp-IsAntisymmetric one id) object.1)))
    (has q (is_there (get one q) object.0 before))

one_step : (k n : ℕ) (one other : Heap) → len one ≤ suc k → len one ≡ n → Has one other → ((p q : Heap) → len p ≤ k → Has p q → len p ≤ len q) → len one ≤ len other
one_step k zero one other small is has rec = omega (arith, is)
one_step k (suc n) one other small is has rec =
    let entry = some_entry one n is in
    let found = found_of (get other entry.0) (has entry.0 (is_there (get one entry.0) entry.1 entry.2)) in
    let one_less = less_one one entry.0 entry.1 entry.2 in
    let other_less = less_one other entry.0 found.0 found.1 in
    let rest : len (remove one entry.0) ≤ len (remove other entry.0) = rec (remove one entry.0) (remove other entry.0) (omega (arith, one_less, small)) (beside one other entry.0 has) in
    omega (arith, one_less, other_less, rest)

pub no_more : (k : ℕ) (one other : Heap) → len one ≤ k → ((id : ℕ) → IsSome (get one id) → IsSome (get other id)) → len one ≤ len other
no_more zero one other small has = omega arith
no_more (suc k) one other small has = one_step k (len one) one other small refl has (λ p q few more. no_more k p q few more)
