-- The place of an identity in a list of objects.
use Rattle.std.proofs.Common.{◌≡◌, ℕ, zero, suc, ◌<◌, Bool, true, false, cond, T, List, [], ◌∷◌, Option, Some, None, IsSome, refl, sym, ap, ◌∙◌, arith}
use Rattle.std.specs.Prelude.{◌==◌, slice_get, if◌then◌else◌}
use Rattle.std.specs.Cmp.{nat_cmp_total}
use Rattle.std.specs.Ordering.{nat_cmp, is_lt}
use Rattle.std.specs.FinMap.{find, is_sorted}
use Rattle.std.specs.FinMap.Entries.{below_all}
use Rattle.std.proofs.lemmas.Bool.{eqb-true, eq-eqb}
use Rattle.std.proofs.lemmas.Bool.Decides.{nat_tests}
use Rattle.std.proofs.lemmas.Option.{same_Some}
use Rattle.pm_model.specs.Heap.{Object}
use Rattle.pm_law_copies.proofs.Lists.{nat_turned}
use Rattle.pm_dump.proofs.Sorted.{below_first, less_below, second, sorted_below, sorted_rest}
use Rattle.pm_restore.specs.Packing.Packing.{DumpEntry, place_in}

-- the object that is found under an identity has its place
pub place_found : (objects : List DumpEntry) (id : ℕ) (object : Object) → find nat_cmp id objects ≡ Some object → slice_get objects (place_in objects id) ≡ Some (id, object)
place_found [] id object is = absurd (cc)
place_found (e ∷ objects) id object is = by (e.0 == id) refl (place_found objects id object)
  where
    as_test : (b : Bool) → (e.0 == id) ≡ b → cond b (Some e.1) (find nat_cmp id objects) ≡ Some object
    as_test b test = ap (λ (b : Bool). cond b (Some e.1) (find nat_cmp id objects)) (sym test ∙ nat_turned e.0 id) ∙ is

    by : (b : Bool) → (e.0 == id) ≡ b → (find nat_cmp id objects ≡ Some object → slice_get objects (place_in objects id) ≡ Some (id, object)) → slice_get (e ∷ objects) (if b then 0 else suc (place_in objects id)) ≡ Some (id, object)
    by true here rest =
        let same : e.0 ≡ id = eqb-true e.0 id here in
        let value : e.1 ≡ object = same_Some e.1 object (as_test true here) in
        λ i. Some (same i, value i)
    by false apart rest = rest (as_test false apart)

-- each later object has a greater identity
pub below_at : (x : ℕ) (objects : List DumpEntry) (place : ℕ) (e : DumpEntry) → T (below_all nat_cmp x objects) → slice_get objects place ≡ Some e → x < e.0
below_at x [] place e below is = absurd (cc)
below_at x (first ∷ objects) zero e below is =
    let lt = less_below x first.0 (below_first nat_cmp_total x first objects below) in
    let same = ap (λ (d : DumpEntry). d.0) (same_Some first e is) in
    omega (arith, lt, same)
below_at x (first ∷ objects) (suc place) e below is = below_at x objects place e (second (is_lt (nat_cmp x first.0)) (below_all nat_cmp x objects) below) is

-- an object that has a place has the one of its identity, where identities ascend
pub place_again : (objects : List DumpEntry) → T (is_sorted nat_cmp objects) → (place : ℕ) (e : DumpEntry) → slice_get objects place ≡ Some e → place_in objects e.0 ≡ place
place_again [] sorted place e is = absurd (cc)
place_again (first ∷ objects) sorted zero e is =
    let same = ap (λ (d : DumpEntry). d.0) (same_Some first e is) in
    ap (λ (b : Bool). if b then 0 else suc (place_in objects e.0)) (eq-eqb first.0 e.0 same)
place_again (first ∷ objects) sorted (suc place) e is =
    let below = below_at first.0 objects place e (sorted_below nat_cmp_total first objects sorted) is in
    let apart : (first.0 == e.0) ≡ false = grind (arith, nat_tests, below) in
    ap (λ (b : Bool). if b then 0 else suc (place_in objects e.0)) apart
    ∙ ap suc (place_again objects (sorted_rest nat_cmp_total first objects sorted) place e is)

-- what is listed is found
pub found_of : {A : Type 0} (o : Option A) → IsSome o → (x : A) × (o ≡ Some x)
found_of None is = absurd (cc)
found_of (Some x) is = (x, refl)
