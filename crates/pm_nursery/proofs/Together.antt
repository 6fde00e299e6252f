-- Pairs of an identity and a register, in a row that rises: those of one identity stand together.
use Rattle.std.proofs.Common.{◌≡◌, ℕ, zero, suc, ◌+◌, ◌-◌, ◌<◌, ◌≤◌, inl, inr, Bool, true, false, cond, nat_lt, nat_le, refl, sym, ap, subst, ◌∙◌, arith, List, [], ◌∷◌, length, get_or, take, drop, slice_range}
use Rattle.std.specs.declared.cmp.Ordering.TheVariants.{Less}
use Rattle.std.specs.Ordering.{nat_cmp}
use Rattle.std.specs.Cmp.{IsTotalOrder, nat_cmp_total, then_total, on_total}
use Rattle.std.specs.List.{AllByRecursion}
use Rattle.std.specs.List.Sorted.{IsStrictlySortedBy, IsNonDecreasingBy, IsPartitionPoint}
use Rattle.std.specs.FinMap.{IsAntisymmetric, nat_cmp-IsAntisymmetric}
use Rattle.std.proofs.lemmas.Bool.{cases_eq, cases_lt}
use Rattle.std.proofs.lemmas.Bool.Decides.{nat_tests}
use Rattle.std.proofs.lemmas.List.{get_or-take, get_or-drop, length-take-le, length-drop}
use Rattle.std.proofs.lemmas.Map.Keys.{Less-from_sorted}
use Rattle.std.proofs.lemmas.Map.Lookups.{exact_pairs}
use Rattle.pm_types.specs.Orders.{place_cmp}
use Rattle.pm_types.proofs.Orders.{places_total, places_antisymmetric}
use Rattle.pm_nursery.specs.Turned.{AreOfId, Pair, Rise, holder_cmp}
use Rattle.pm_nursery.proofs.Rows.{key_listed, listed_key}

pub holders_total : IsTotalOrder holder_cmp
holders_total = then_total (on_total (λ (p : Pair). p.0) nat_cmp_total) (on_total (λ (p : Pair). p.1) places_total)

pub holders_antisymmetric : IsAntisymmetric holder_cmp
holders_antisymmetric = exact_pairs nat_cmp place_cmp nat_cmp-IsAntisymmetric places_antisymmetric

first_rises : (p q : Pair) → holder_cmp p q ≡ Less → p.0 ≤ q.0
first_rises p q less = grind (arith, nat_tests, less)

-- the identities do not fall
pub never_falls : (pairs : List Pair) → Rise pairs → IsNonDecreasingBy (λ (p : Pair). p.0) pairs
never_falls pairs rise i j d le within = elim (cases_eq i j) [
  | inl same ↦ (let here : (get_or pairs i d).0 ≡ (get_or pairs j d).0 = ap (λ n. (get_or pairs n d).0) same in omega (arith, here))
  | inr apart ↦ first_rises (get_or pairs i d) (get_or pairs j d) (Less-from_sorted holder_cmp pairs i j d rise (omega (arith, le, apart)) within)
]

-- one that is none of them is none of those that are left
pub stays_out : (b was : Bool) → was ≡ false → cond b false was ≡ false
stays_out true was is = refl
stays_out false was is = is

-- ---- a part of them rises too

rise_drop : (n : ℕ) (pairs : List Pair) → Rise pairs → Rise (drop n pairs)
unfolding IsStrictlySortedBy
rise_drop zero pairs rise = rise
rise_drop (suc n) [] rise = rise
rise_drop (suc n) (p ∷ pairs) rise = rise_drop n pairs rise.1

all_take : (P : Pair → Type 0) (n : ℕ) (pairs : List Pair) → AllByRecursion P pairs → AllByRecursion P (take n pairs)
all_take P zero pairs all = tt
all_take P (suc n) [] all = tt
all_take P (suc n) (p ∷ pairs) all = (all.0, all_take P n pairs all.1)

rise_take : (n : ℕ) (pairs : List Pair) → Rise pairs → Rise (take n pairs)
unfolding IsStrictlySortedBy
rise_take zero pairs rise = tt
rise_take (suc n) [] rise = tt
rise_take (suc n) (p ∷ pairs) rise = (all_take (λ q. holder_cmp p q ≡ Less) n pairs rise.0, rise_take n pairs rise.1)

-- ---- those of one identity

no_lower : (p : Pair) (id : ℕ) → nat_lt p.0 id ≡ false → nat_le p.0 id ≡ true → p.0 ≡ id
no_lower p id above below = grind (arith, nat_tests, above, below)

itself_lower : (id : ℕ) (p : Pair) → p.0 ≡ id → nat_lt p.0 id ≡ true → ⊥
itself_lower id p is low = grind (arith, nat_tests, is, low)

itself_higher : (id : ℕ) (p : Pair) → p.0 ≡ id → nat_le p.0 id ≡ false → ⊥
itself_higher id p is high = grind (arith, nat_tests, is, high)

crossed : (id : ℕ) (p : Pair) → nat_lt p.0 id ≡ true → nat_le p.0 id ≡ false → ⊥
crossed id p low high = grind (arith, nat_tests, low, high)

module _ (pairs : List Pair) (rise : Rise pairs) (id first last : ℕ) (first_within : first ≤ length pairs) (last_within : last ≤ length pairs)
    (low : IsPartitionPoint (λ (y : Pair). nat_lt y.0 id ≡ true) (λ (y : Pair). nat_lt y.0 id ≡ false) pairs first)
    (high : IsPartitionPoint (λ (y : Pair). nat_le y.0 id ≡ true) (λ (y : Pair). nat_le y.0 id ≡ false) pairs last) where
  pub in_turn : first ≤ last
  in_turn = elim (cases_lt last first) [
    | inl crosses ↦ absurd (crossed id (get_or pairs last (0, (0, 0))) (low.0 last (0, (0, 0)) (omega arith) crosses) (high.1 last (0, (0, 0)) (omega arith) (omega (arith, crosses, first_within))))
    | inr in_order ↦ in_order
  ]

  long : length (slice_range pairs first last) ≡ last - first
  long = length-take-le (last - first) (drop first pairs) (omega (arith, length-drop first pairs, first_within, last_within, in_turn))

  read : (i : ℕ) (d : Pair) → i < last - first → get_or (slice_range pairs first last) i d ≡ get_or pairs (first + i) d
  read i d inside = get_or-take (last - first) (drop first pairs) i d inside ∙ get_or-drop first pairs i d

  pub of_id : AreOfId pairs id (slice_range pairs first last)
  of_id = record {
    rise = rise_take (last - first) (drop first pairs) (rise_drop first pairs rise);
    each = λ p within.
        let inside : within.0 < last - first = omega (arith, within.1, long) in
        let there : get_or pairs (first + within.0) p ≡ p = sym (read within.0 p inside) ∙ within.2 in
        let above = low.1 (first + within.0) p (omega arith) (omega (arith, inside, last_within)) in
        let below = high.0 (first + within.0) p (omega arith) (omega (arith, inside)) in (
          no_lower p id (subst (λ (q : Pair). nat_lt q.0 id ≡ false) there above) (subst (λ (q : Pair). nat_le q.0 id ≡ true) there below),
          key_listed holders_total holders_antisymmetric pairs p (first + within.0, omega (arith, inside, last_within), there),
        );
    all = λ place is.
        let at = listed_key holders_total holders_antisymmetric pairs (id, place) is in
        let mine : (get_or pairs at.0 (id, place)).0 ≡ id = ap (λ (q : Pair). q.0) at.2 in
        let from : first ≤ at.0 = elim (cases_lt at.0 first) [
          | inl before ↦ absurd (itself_lower id (get_or pairs at.0 (id, place)) mine (low.0 at.0 (id, place) (omega arith) before))
          | inr behind ↦ behind
        ] in
        let below : at.0 < last = elim (cases_lt at.0 last) [
          | inl before ↦ before
          | inr behind ↦ absurd (itself_higher id (get_or pairs at.0 (id, place)) mine (high.1 at.0 (id, place) behind at.1))
        ] in
        (at.0 - first, omega (arith, long, from, below), read (at.0 - first) (id, place) (omega (arith, from, below)) ∙ ap (λ n. get_or pairs n (id, place)) (let sum : first + (at.0 - first) ≡ at.0 = omega (arith, from) in sum) ∙ at.2);
  }
