-- The set of the keys in a list, as the list changes.
use Rattle.std.proofs.Common.{◌≡◌, ℕ, ◌+◌, ◌≤◌, ◌<◌, ◌==◌, Bool, true, false, cond, not, ◌||◌, ◌&&◌, refl, sym, ap, subst, ◌∙◌, arith, List, [], ◌∷◌, length, get_or}
use Rattle.std.specs.declared.cmp.Reverse.{Reverse}
use Rattle.std.specs.Ordering.{nat_cmp}
use Rattle.std.specs.Cmp.{nat_cmp_total}
use Rattle.std.specs.List.{list_any, filter}
use Rattle.std.specs.List.Sorted.{IsPermutation}
use Rattle.std.specs.FinSet.{FinSet, contains, insert, remove, members, same_set, nat_cmp-IsAntisymmetric, contains-empty}
use Rattle.std.specs.BinaryHeap.{IsHeap, IsUpperBound}
use Rattle.std.proofs.lemmas.Bool.Decides.{nat_tests}
use Rattle.std.proofs.lemmas.Grind.{common_steps}
use Rattle.std.proofs.lemmas.List.Sorted.{list_any-IsPermutation, sum_by-IsPermutation}
use Rattle.std.proofs.lemmas.List.Sums.{sum_by-cons}
use Rattle.pm_snap.specs.Freed.{key_set, times, by_least, IsFreed}

abbrev is_key : ℕ → Reverse ℕ → Bool
is_key q r = r.0 == q

pub contains_insert : (keys : FinSet nat_cmp) (k q : ℕ) → contains (insert keys k) q ≡ ((k == q) || contains keys q)
contains_insert keys k q = grind (arith, common_steps, members, nat_tests)

pub contains_remove : (keys : FinSet nat_cmp) (k q : ℕ) → contains (remove keys k) q ≡ (not (k == q) && contains keys q)
contains_remove keys k q = grind (arith, common_steps, members, nat_tests)

-- a key is in the set where it is in the list
pub contains_set : (rs : List (Reverse ℕ)) (q : ℕ) → contains (key_set rs) q ≡ list_any (is_key q) rs
contains_set [] q = contains-empty nat_cmp q
contains_set (r ∷ rs) q = contains_insert (key_set rs) r.0 q ∙ ap (λ b. (r.0 == q) || b) (contains_set rs q)

sets_equal : (s t : FinSet nat_cmp) → ((q : ℕ) → contains s q ≡ contains t q) → s ≡ t
sets_equal s t is = same_set nat_cmp_total nat_cmp-IsAntisymmetric s t is

-- the order of the list does not matter
pub set_permuted : (xs ys : List (Reverse ℕ)) → IsPermutation xs ys → key_set ys ≡ key_set xs
set_permuted xs ys h = sets_equal _ _ (λ q. contains_set ys q ∙ sym (list_any-IsPermutation (is_key q) xs ys h) ∙ sym (contains_set xs q))

times_permuted : (q : ℕ) (xs ys : List (Reverse ℕ)) → IsPermutation xs ys → times q ys ≡ times q xs
times_permuted q xs ys h = sum_by-IsPermutation (λ r. cond (r.0 == q) 1 0) xs ys h

times_cons : (q : ℕ) (r : Reverse ℕ) (rs : List (Reverse ℕ)) → times q (r ∷ rs) ≡ cond (r.0 == q) 1 0 + times q rs
times_cons q r rs = sum_by-cons (λ r. cond (r.0 == q) 1 0) r rs

times_any : (q : ℕ) (rs : List (Reverse ℕ)) → cond (list_any (is_key q) rs) 1 0 ≤ times q rs
times_any q [] = omega arith
times_any q (r ∷ rs) = grind (arith, common_steps, times_cons q r rs, times_any q rs)

none_times : (q : ℕ) (rs : List (Reverse ℕ)) → list_any (is_key q) rs ≡ false → times q rs ≡ 0
none_times q [] h = refl
none_times q (r ∷ rs) h = grind (arith, common_steps, times_cons q r rs, none_times q rs)

-- a key that is not there was added
pub pushed : (key : ℕ) (old new : List (Reverse ℕ)) → IsFreed old → contains (key_set old) key ≡ false → IsPermutation (record { 0 = key } ∷ old) new → IsHeap by_least new → IsFreed new
pushed key old new freed absent moved heap = record {
  heap = heap;
  single = λ q. let same = times_permuted q (record { 0 = key } ∷ old) new moved in
      let one = times_cons q (record { 0 = key }) old in
      let before = freed.single q in
      let none = none_times key old (sym (contains_set old key) ∙ absent) in
      grind (arith, common_steps, nat_tests, same, one, before, none);
}

pub pushed_set : (key : ℕ) (old new : List (Reverse ℕ)) → IsPermutation (record { 0 = key } ∷ old) new → key_set new ≡ insert (key_set old) key
pushed_set key old new moved = set_permuted (record { 0 = key } ∷ old) new moved

-- a key was taken
pub popped : (x : Reverse ℕ) (old new : List (Reverse ℕ)) → IsFreed old → IsPermutation old (x ∷ new) → IsHeap by_least new → IsFreed new
popped x old new freed moved heap = record {
  heap = heap;
  single = λ q. let same = times_permuted q old (x ∷ new) moved in
      let one = times_cons q x new in
      let before = freed.single q in
      omega arith;
}

pub popped_set : (x : Reverse ℕ) (old new : List (Reverse ℕ)) → IsFreed old → IsPermutation old (x ∷ new) → key_set new ≡ remove (key_set old) x.0
popped_set x old new freed moved = sets_equal _ _ (λ q.
    let there : contains (key_set old) q ≡ ((x.0 == q) || contains (key_set new) q) = sym (ap (λ s. contains s q) (set_permuted old (x ∷ new) moved)) ∙ contains_insert (key_set new) x.0 q in
    let gone = contains_remove (key_set old) x.0 q in
    let any = contains_set new q in
    let same = times_permuted q old (x ∷ new) moved in
    let one = times_cons q x new in
    let before = freed.single q in
    let many = times_any q new in
    grind (arith, common_steps, nat_tests, there, gone, any, same, one, before, many))

times_filter : (q : ℕ) (test : Reverse ℕ → Bool) (rs : List (Reverse ℕ)) → times q (filter test rs) ≤ times q rs
times_filter q test [] = omega arith
times_filter q test (r ∷ rs) =
    elim (test r) as (λ b. times q (cond b (r ∷ filter test rs) (filter test rs)) ≤ times q (r ∷ rs)) [
      | true ↦ let kept = times_cons q r (filter test rs) in let all = times_cons q r rs in let rest = times_filter q test rs in omega arith
      | false ↦ let all = times_cons q r rs in let rest = times_filter q test rs in omega arith
    ]

-- every other key was kept
pub kept : (key : ℕ) (old rest new : List (Reverse ℕ)) → IsFreed old → rest ≡ filter (λ r. not (r.0 == key)) old → IsPermutation rest new → IsHeap by_least new → IsFreed new
kept key old rest new freed is moved heap = record {
  heap = heap;
  single = λ q. let same = times_permuted q rest new moved in
      let fewer : times q rest ≤ times q old = subst (λ rs. times q rs ≤ times q old) (sym is) (times_filter q (λ r. not (r.0 == key)) old) in
      let before = freed.single q in
      omega arith;
}

any_filter : (key q : ℕ) (rs : List (Reverse ℕ)) → list_any (is_key q) (filter (λ r. not (r.0 == key)) rs) ≡ (not (key == q) && list_any (is_key q) rs)
any_filter key q [] = grind (arith, common_steps)
any_filter key q (r ∷ rs) =
    elim (r.0 == key) as (λ b. r.0 == key ≡ b → list_any (is_key q) (cond (not b) (r ∷ filter (λ r. not (r.0 == key)) rs) (filter (λ r. not (r.0 == key)) rs)) ≡ (not (key == q) && list_any (is_key q) (r ∷ rs))) [
      | true ↦ λ e. grind (arith, common_steps, nat_tests, e, any_filter key q rs)
      | false ↦ λ e. grind (arith, common_steps, nat_tests, e, any_filter key q rs)
    ] refl

pub kept_set : (key : ℕ) (old rest new : List (Reverse ℕ)) → rest ≡ filter (λ r. not (r.0 == key)) old → IsPermutation rest new → key_set new ≡ remove (key_set old) key
kept_set key old rest new is moved = sets_equal _ _ (λ q.
    contains_set new q ∙ sym (list_any-IsPermutation (is_key q) rest new moved) ∙ ap (list_any (is_key q)) is ∙ any_filter key q old
    ∙ sym (contains_remove (key_set old) key q ∙ ap (λ b. not (key == q) && b) (contains_set old q)))

-- where a key is over none, it is the least
pub least_of : (x : Reverse ℕ) (rs : List (Reverse ℕ)) → IsUpperBound by_least x rs → (q : ℕ) → list_any (is_key q) rs ≡ true → x.0 ≤ q
least_of x [] above q any = absurd (grind (arith, common_steps, any))
least_of x (r ∷ rs) above q any = let here = above.0 in let rest = least_of x rs above.1 q in grind (arith, common_steps, nat_tests, here, rest, any)

absent_above : (there : Bool) (key next : ℕ) → (there ≡ true → key < next) → next ≤ key → there ≡ false
absent_above true key next below above = absurd (let low = below refl in omega arith)
absent_above false key next below above = refl

-- nothing is lost where a key above them all is taken
pub remove_above : (keys : FinSet nat_cmp) (key next : ℕ) → (contains keys key ≡ true → key < next) → next ≤ key → keys ≡ remove keys key
remove_above keys key next below above =
    let absent = absent_above (contains keys key) key next below above in
    sets_equal _ _ (λ q. grind (arith, common_steps, nat_tests, contains_remove keys key q, absent))

-- the first key is in the list
pub first_key : (x : Reverse ℕ) (rs : List (Reverse ℕ)) → 0 < length rs → x ≡ get_or rs 0 x → list_any (is_key x.0) rs ≡ true
first_key x [] some is = absurd (omega arith)
first_key x (r ∷ rs) some is = ap (λ (y : Reverse ℕ). (y.0 == x.0) || list_any (is_key x.0) rs) (sym is) ∙ grind (arith, common_steps, nat_tests)
