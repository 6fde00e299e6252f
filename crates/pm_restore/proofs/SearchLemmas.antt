-- The place of an identity among identities that ascend.
use Rattle.std.proofs.Common.{◌≡◌, ◌⊎◌, inl, inr, ℕ, zero, suc, ◌<◌, ◌≤◌, T, List, [], ◌∷◌, length, Some, sym, ap, ◌∙◌, arith}
use Rattle.std.specs.Prelude.{slice_get}
use Rattle.std.specs.Cmp.{nat_cmp_total}
use Rattle.std.specs.Ordering.{nat_cmp}
use Rattle.std.specs.FinMap.{find, is_sorted}
use Rattle.std.proofs.lemmas.Bool.{cases_lt}
use Rattle.std.proofs.lemmas.Option.{same_Some}
use Rattle.pm_model.specs.Heap.{Object}
use Rattle.pm_dump.specs.Sound.{IsListed}
use Rattle.pm_dump.proofs.Sorted.{sorted_below, sorted_rest}
use Rattle.pm_restore.specs.Packing.Packing.{DumpEntry, place_in}
use Rattle.pm_restore.proofs.PackingLemmas.Found.{below_at, found_of, place_found}
use Rattle.pm_restore.proofs.PackingLemmas.Places.{got_within}

-- later objects have greater identities
ids_rise : (objects : List DumpEntry) → T (is_sorted nat_cmp objects) → (i j : ℕ) (e f : DumpEntry) → i < j → slice_get objects i ≡ Some e → slice_get objects j ≡ Some f → e.0 < f.0
ids_rise [] sorted i j e f lt here there = absurd (cc)
ids_rise (first ∷ objects) sorted i zero e f lt here there = absurd (omega (arith, lt))
ids_rise (first ∷ objects) sorted zero (suc j) e f lt here there =
    let same = ap (λ (d : DumpEntry). d.0) (same_Some first e here) in
    let less = below_at first.0 objects j f (sorted_below nat_cmp_total first objects sorted) there in
    omega (arith, same, less)
ids_rise (first ∷ objects) sorted (suc i) (suc j) e f lt here there = ids_rise objects (sorted_rest nat_cmp_total first objects sorted) i j e f (omega (arith, lt)) here there

-- the object of an identity that is listed has its place
listed_place : (objects : List DumpEntry) (id : ℕ) → IsListed objects id → (object : Object) × (slice_get objects (place_in objects id) ≡ Some (id, object))
listed_place objects id listed = let it = found_of (find nat_cmp id objects) listed in (it.0, place_found objects id it.0 it.1)

pub place_within : (objects : List DumpEntry) (id : ℕ) → IsListed objects id → place_in objects id < length objects
place_within objects id listed = let it = listed_place objects id listed in got_within objects (place_in objects id) (id, it.0) it.1

-- an object of a smaller identity stands before it,
pub stands_before : (objects : List DumpEntry) (id middle : ℕ) (e : DumpEntry) → T (is_sorted nat_cmp objects) → IsListed objects id → slice_get objects middle ≡ Some e → e.0 < id → middle < place_in objects id
stands_before objects id middle e sorted listed here less = by (cases_lt middle (place_in objects id)) (cases_lt (place_in objects id) middle)
  where
    by : (middle < place_in objects id) ⊎ (place_in objects id ≤ middle) → (place_in objects id < middle) ⊎ (middle ≤ place_in objects id) → middle < place_in objects id
    by (inl lt) other = lt
    by (inr le) (inl lt) =
        let it = listed_place objects id listed in
        let over = ids_rise objects sorted (place_in objects id) middle (id, it.0) e lt it.1 here in
        absurd (omega (arith, over, less))
    by (inr le) (inr ge) =
        let it = listed_place objects id listed in
        let same : middle ≡ place_in objects id = omega (arith, le, ge) in
        let ids = ap (λ (d : DumpEntry). d.0) (same_Some e (id, it.0) (sym here ∙ ap (slice_get objects) same ∙ it.1)) in
        absurd (omega (arith, ids, less))

-- and one of no smaller identity does not
pub stands_behind : (objects : List DumpEntry) (id middle : ℕ) (e : DumpEntry) → T (is_sorted nat_cmp objects) → IsListed objects id → slice_get objects middle ≡ Some e → id ≤ e.0 → place_in objects id ≤ middle
stands_behind objects id middle e sorted listed here more = by (cases_lt middle (place_in objects id))
  where
    by : (middle < place_in objects id) ⊎ (place_in objects id ≤ middle) → place_in objects id ≤ middle
    by (inl lt) =
        let it = listed_place objects id listed in
        let less = ids_rise objects sorted middle (place_in objects id) e (id, it.0) lt here it.1 in
        absurd (omega (arith, less, more))
    by (inr le) = le
