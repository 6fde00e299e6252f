-- The search for what is reached, by a list of identities that are pending, finds what the definition says.
use Rattle.std.proofs.Common.{◌≡◌, ℕ, zero, suc, ◌+◌, ◌*◌, ◌<◌, ◌≤◌, Bool, true, false, cond, not, List, [], ◌∷◌, ◌++◌, length, Option, Some, None, refl, ap, sym, subst, ◌∙◌, ⊎_elim, arith}
use Rattle.std.specs.List.{Contains}
use Rattle.std.specs.Option.{is_some}
use Rattle.std.specs.Ordering.{nat_cmp, eq_by_cmp}
use Rattle.std.specs.Cmp.{nat_cmp_total}
use Rattle.std.specs.FinMap.{get, insert, remove, empty, len, contains_key, retain_keys, get-empty, get-insert, get-remove, get-retain_keys, same_map, nat_cmp-IsAntisymmetric}
use Rattle.std.proofs.lemmas.Bool.{eqb-true}
use Rattle.std.proofs.lemmas.List.{length_push}
use Rattle.std.proofs.lemmas.List.Elements.{Contains-append_right, Contains-append_left, Contains-append_cases, Contains-push, Contains-push_cases}
use Rattle.pm_model.specs.Heap.{Object, Heap}
use Rattle.pm_model.specs.Copying.{held_ids, with_object_or, reached}
use Rattle.pm_model.specs.Keeping.{looked_at}
use Rattle.pm_model.proofs.Members.{in_rest, first_or_rest}
use Rattle.pm_model.proofs.Reached.{reached_same, no_objects, fewer, same_count}
use Rattle.pm_model.proofs.Unused.{tied_nat}

-- the first of two answers that is one
abbrev pub beside : {X : Type 0} → Option X → Option X → Option X
beside None other = other
beside (Some x) other = Some x

-- the objects that are not kept yet
pub left : Heap → Heap → Heap
left objects kept = retain_keys objects (λ x. not (contains_key kept x))

get_left : (objects kept : Heap) (q : ℕ) → get (left objects kept) q ≡ cond (not (is_some (get kept q))) (get objects q) None
unfolding left
get_left objects kept q = get-retain_keys objects (λ x. not (contains_key kept x)) q (λ x tied. ap (λ x. not (contains_key kept x)) (sym (nat_cmp-IsAntisymmetric q x tied)))

-- what is kept, with what is reached of the rest from what is pending, is what is reached from the start
pub Covers : Heap → List ℕ → Heap → List ℕ → Type 0
Covers objects starts kept pending = (q : ℕ) → beside (get kept q) (get (reached (len (left objects kept)) (left objects kept) pending) q) ≡ get (reached (len objects) objects starts) q

-- how much is left to do: each object that is not kept counts for more than any list has elements
abbrev pub to_do : Heap → Heap → List ℕ → ℕ
to_do objects kept pending = 9223372036854775808 * len (left objects kept) + length pending

left_all : (objects : Heap) → left objects empty ≡ objects
left_all objects = same_map nat_cmp_total nat_cmp-IsAntisymmetric _ _ (λ q. get_left objects empty q ∙ ap (λ (o : Option Object). cond (not (is_some o)) (get objects q) None) (get-empty nat_cmp q))

pub covers_start : (objects : Heap) (starts : List ℕ) → Covers objects starts empty starts
unfolding Covers
covers_start objects starts q =
    ap (λ o. beside o (get (reached (len (left objects empty)) (left objects empty) starts) q)) (get-empty nat_cmp q)
    ∙ ap (λ heap. get (reached (len heap) heap starts) q) (left_all objects)

nothing_pending : (n : ℕ) (heap : Heap) → reached n heap [] ≡ empty
unfolding reached
nothing_pending zero heap = refl
nothing_pending (suc n) heap = refl

beside_none : {X : Type 0} (o : Option X) → o ≡ beside o None
beside_none None = refl
beside_none (Some x) = refl

pub covers_end : (objects : Heap) (starts : List ℕ) (kept : Heap) → Covers objects starts kept [] → kept ≡ reached (len objects) objects starts
unfolding Covers
covers_end objects starts kept covers =
    same_map nat_cmp_total nat_cmp-IsAntisymmetric _ _ (λ q.
    beside_none (get kept q)
    ∙ ap (beside (get kept q)) (sym (get-empty nat_cmp q) ∙ ap (λ heap. get heap q) (sym (nothing_pending (len (left objects kept)) (left objects kept))))
    ∙ covers q)

-- the last that is pending may as well be the first
turn : (n : ℕ) (heap : Heap) (front : List ℕ) (id : ℕ) → len heap ≤ n → reached n heap (front ++ id ∷ []) ≡ reached n heap (id ∷ front)
turn n heap front id small =
    reached_same n n heap (front ++ id ∷ []) (id ∷ front) small small
    (λ x within. ⊎_elim (λ before. in_rest id x front before) (λ (here : id ≡ x). subst (Contains (id ∷ front)) here (0, omega arith, refl)) (Contains-push_cases front id x within))
    (λ x within. ⊎_elim (λ (here : id ≡ x). subst (Contains (front ++ id ∷ [])) here (Contains-push front id)) (λ before. Contains-append_left front (id ∷ []) x before) (first_or_rest id x front within))

-- an identity without an object adds nothing
past : (n : ℕ) (heap : Heap) (front : List ℕ) (id : ℕ) → get heap id ≡ None → reached n heap (id ∷ front) ≡ reached n heap front
unfolding reached
past zero heap front id none = refl
past (suc n) heap front id none = ap (λ found. with_object_or found (reached (suc n) heap front) (λ object. insert (reached n (remove heap id) (held_ids object ++ front)) id object)) none

swap : (n m : ℕ) (heap : Heap) (ids others : List ℕ) → len heap ≤ n → len heap ≤ m → reached n heap (ids ++ others) ≡ reached m heap (others ++ ids)
swap n m heap ids others small small' =
    reached_same n m heap (ids ++ others) (others ++ ids) small small'
    (λ x within. ⊎_elim (λ one. Contains-append_right others ids x one) (λ two. Contains-append_left others ids x two) (Contains-append_cases ids others x within))
    (λ x within. ⊎_elim (λ one. Contains-append_right ids others x one) (λ two. Contains-append_left ids others x two) (Contains-append_cases others ids x within))

-- an object is kept, and what it holds is pending beside the rest
taken : (n : ℕ) (heap : Heap) (front : List ℕ) (id : ℕ) (object : Object) → len heap ≤ n → get heap id ≡ Some object
    → reached n heap (id ∷ front) ≡ insert (reached (len (remove heap id)) (remove heap id) (front ++ held_ids object)) id object
unfolding reached
taken zero heap front id object small is = absurd (no_objects heap id object small is)
taken (suc n) heap front id object small is =
    ap (λ found. with_object_or found (reached (suc n) heap front) (λ object. insert (reached n (remove heap id) (held_ids object ++ front)) id object)) is
    ∙ ap (λ inner. insert inner id object) (swap n (len (remove heap id)) (remove heap id) (held_ids object) front (fewer heap id n object is small) (same_count (len (remove heap id))))

gone : (b : Bool) (object : Object) (old found : Option Object) → cond (not (is_some (cond b (Some object) old))) found None ≡ cond b None (cond (not (is_some old)) found None)
gone true object old found = refl
gone false object old found = refl

left_next : (objects kept : Heap) (id : ℕ) (object : Object) → left objects (insert kept id object) ≡ remove (left objects kept) id
left_next objects kept id object =
    same_map nat_cmp_total nat_cmp-IsAntisymmetric _ _ (λ q.
    get_left objects (insert kept id object) q
    ∙ ap (λ (o : Option Object). cond (not (is_some o)) (get objects q) None) (get-insert nat_cmp_total kept id object q)
    ∙ gone (eq_by_cmp nat_cmp q id) object (get kept q) (get objects q)
    ∙ ap (cond (eq_by_cmp nat_cmp q id) None) (sym (get_left objects kept q))
    ∙ sym (get-remove nat_cmp_total (left objects kept) id q))

moved : (b : Bool) (object : Object) (old inner : Option Object) → (b ≡ true → old ≡ None) → beside old (cond b (Some object) inner) ≡ beside (cond b (Some object) old) inner
moved true object old inner none = ap (λ o. beside o (Some object)) (none refl)
moved false object old inner none = refl

is_same : (q id : ℕ) → eq_by_cmp nat_cmp q id ≡ true → q ≡ id
is_same q id tied = eqb-true q id (sym (tied_nat q id) ∙ tied)

-- an identity is looked at that was kept, or has no object
covers_passed : (objects : Heap) (starts : List ℕ) (kept : Heap) (front : List ℕ) (id : ℕ) → get (left objects kept) id ≡ None → Covers objects starts kept (front ++ id ∷ []) → Covers objects starts kept front
unfolding Covers
covers_passed objects starts kept front id none covers q =
    let heap = left objects kept in
    ap (λ inner. beside (get kept q) (get inner q)) (sym (turn (len heap) heap front id (same_count (len heap)) ∙ past (len heap) heap front id none)) ∙ covers q

covers_kept : (objects : Heap) (starts : List ℕ) (kept : Heap) (front : List ℕ) (id : ℕ) (object : Object) → get kept id ≡ None → get (left objects kept) id ≡ Some object → Covers objects starts kept (front ++ id ∷ [])
    → Covers objects starts (insert kept id object) (front ++ held_ids object)
unfolding Covers
covers_kept objects starts kept front id object new some covers q =
    let heap = left objects kept in
    let inner = reached (len (remove heap id)) (remove heap id) (front ++ held_ids object) in
    ap (λ heap. beside (get (insert kept id object) q) (get (reached (len heap) heap (front ++ held_ids object)) q)) (left_next objects kept id object)
    ∙ ap (λ o. beside o (get inner q)) (get-insert nat_cmp_total kept id object q)
    ∙ sym (moved (eq_by_cmp nat_cmp q id) object (get kept q) (get inner q) (λ tied. ap (get kept) (is_same q id tied) ∙ new))
    ∙ ap (beside (get kept q)) (sym (get-insert nat_cmp_total inner id object q))
    ∙ ap (λ whole. beside (get kept q) (get whole q)) (sym (turn (len heap) heap front id (same_count (len heap)) ∙ taken (len heap) heap front id object (same_count (len heap)) some))
    ∙ covers q

left_at : (objects kept : Heap) (id : ℕ) (old found : Option Object) → get kept id ≡ old → get objects id ≡ found → get (left objects kept) id ≡ cond (not (is_some old)) found None
left_at objects kept id old found is has = get_left objects kept id ∙ (λ i. cond (not (is_some (is i))) (has i) None)

-- an identity is looked at
pub covers_next : (objects : Heap) (starts : List ℕ) (kept : Heap) (front : List ℕ) (id : ℕ) (old found : Option Object) → get kept id ≡ old → get objects id ≡ found → Covers objects starts kept (front ++ id ∷ [])
    → Covers objects starts (looked_at old found id kept front).0 (looked_at old found id kept front).1
covers_next objects starts kept front id (Some old) found is has covers = covers_passed objects starts kept front id (left_at objects kept id (Some old) found is has) covers
covers_next objects starts kept front id None None is has covers = covers_passed objects starts kept front id (left_at objects kept id None None is has) covers
covers_next objects starts kept front id None (Some object) is has covers = covers_kept objects starts kept front id object is (left_at objects kept id None (Some object) is has) covers

-- and less is left to do
less_front : (objects kept : Heap) (front : List ℕ) (id : ℕ) → to_do objects kept front < to_do objects kept (front ++ id ∷ [])
less_front objects kept front id = let more = length_push front id in omega arith

less_kept : (objects kept : Heap) (front : List ℕ) (id : ℕ) (object : Object) → get (left objects kept) id ≡ Some object → length (front ++ held_ids object) < 9223372036854775808
    → to_do objects (insert kept id object) (front ++ held_ids object) < to_do objects kept (front ++ id ∷ [])
less_kept objects kept front id object some fits =
    let heap = left objects kept in
    let one : (n : ℕ) → len heap ≡ n → suc (len (remove heap id)) ≤ n = λ n is.
    elim n as (λ n. len heap ≡ n → suc (len (remove heap id)) ≤ n) [
      | zero ↦ λ is. absurd (no_objects heap id object (omega (arith, is)) some)
      | suc n ↦ λ is. let small = fewer heap id n object some (omega (arith, is)) in omega (arith, small)
    ] is in
    let smaller = one (len heap) refl in
    let same = ap len (left_next objects kept id object) in
    omega (arith, smaller, same, fits)

pub less_next : (objects kept : Heap) (front : List ℕ) (id : ℕ) (old found : Option Object) → get kept id ≡ old → get objects id ≡ found → length (looked_at old found id kept front).1 < 9223372036854775808
    → to_do objects (looked_at old found id kept front).0 (looked_at old found id kept front).1 < to_do objects kept (front ++ id ∷ [])
less_next objects kept front id (Some old) found is has fits = less_front objects kept front id
less_next objects kept front id None None is has fits = less_front objects kept front id
less_next objects kept front id None (Some object) is has fits = less_kept objects kept front id object (left_at objects kept id None (Some object) is has) fits
