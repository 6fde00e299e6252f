-- What the map of the registers answers, from their list.
use Rattle.std.proofs.Common.{◌≡◌, ℕ, ◌+◌, ◌-◌, ◌*◌, ◌/◌, ◌%◌, ◌<◌, ◌≤◌, true, false, cond, List, [], ◌∷◌, length, get_or, set, replicate, zero, suc, Option, Some, None, refl, sym, ap, ◌∙◌, arith, ⊎_elim, inl, inr, IsSome}
use Rattle.std.proofs.Math.Logic.{⊎_swap}
use Rattle.std.specs.Ordering.{eq_by_cmp}
use Rattle.std.specs.FinMap.{find, from_entries, get, empty, get-from_entries, get-insert, get-remove, same_map}
use Rattle.std.proofs.lemmas.Bool.{cases_eq, cases_lt}
use Rattle.std.proofs.lemmas.Bool.Decides.{nat_tests}
use Rattle.std.proofs.lemmas.List.{get_or-set_same, get_or-set_other, get_or_default, get_or_past}
use Rattle.pm_types.specs.declared.address.Addr.{Addr}
use Rattle.pm_types.specs.Orders.{place_cmp}
use Rattle.pm_types.proofs.Orders.{places_total, places_antisymmetric}
use Rattle.pm_handles.specs.Handles.{Registers, with_register, held_from}
use Rattle.pm_handles.specs.Sound.{IsSound}

-- two places tie where both numbers are the same
same_place : (c r d s : ℕ) → c ≡ d → r ≡ s → eq_by_cmp place_cmp (c, r) (d, s) ≡ true
same_place c r d s e f = grind (arith, nat_tests)

other_place : (c r d s : ℕ) → (c ≡ d → r ≡ s → ⊥) → eq_by_cmp place_cmp (c, r) (d, s) ≡ false
other_place c r d s ne = grind (arith, nat_tests)

-- a register before the first of a list is not in it
none_before : (c r number : ℕ) (items : List (Option Addr)) → r < 1024 → c * 1024 + r < number → find place_cmp (c, r) (held_from number items) ≡ None
none_before c r number [] small before = refl
none_before c r number (None ∷ rest) small before = none_before c r (number + 1) rest small (omega arith)
none_before c r number (Some at ∷ rest) small before =
    rw (other_place c r (number / 1024) (number % 1024) (λ e f. omega (arith, e, f, before))) (none_before c r (number + 1) rest small (omega arith))

-- a number that is no register's is in no list
none_far : (c r number : ℕ) (items : List (Option Addr)) → 1024 ≤ r → find place_cmp (c, r) (held_from number items) ≡ None
none_far c r number [] far = refl
none_far c r number (None ∷ rest) far = none_far c r (number + 1) rest far
none_far c r number (Some at ∷ rest) far = rw (other_place c r (number / 1024) (number % 1024) (λ e f. omega (arith, e, f, far))) (none_far c r (number + 1) rest far)

-- the element after the first
later : (x : Option Addr) (rest : List (Option Addr)) (i j : ℕ) → i ≡ suc j → get_or rest j None ≡ get_or (x ∷ rest) i None
later x rest i j e = ap (λ n. get_or (x ∷ rest) n None) (sym e)

-- any other register is in a list at its place
found_from : (c r number : ℕ) (items : List (Option Addr)) → r < 1024 → number ≤ c * 1024 + r → find place_cmp (c, r) (held_from number items) ≡ get_or items (c * 1024 + r - number) None
found_from c r number [] small le = refl
found_from c r number (None ∷ rest) small le =
    ⊎_elim
    (λ (e : c * 1024 + r ≡ number).
    let first : c * 1024 + r - number ≡ 0 = omega (arith, e) in
    none_before c r (number + 1) rest small (omega (arith, e)) ∙ ap (λ n. get_or (None ∷ rest) n None) (sym first))
    (λ (ne : c * 1024 + r ≡ number → ⊥). found_from c r (number + 1) rest small (omega (arith, ne, le)) ∙ later None rest (c * 1024 + r - number) (c * 1024 + r - (number + 1)) (omega (arith, ne, le)))
    (cases_eq (c * 1024 + r) number)
found_from c r number (Some at ∷ rest) small le =
    ⊎_elim
    (λ (e : c * 1024 + r ≡ number).
    let first : c * 1024 + r - number ≡ 0 = omega (arith, e) in
    rw (same_place c r (number / 1024) (number % 1024) (omega (arith, e, small)) (omega (arith, e, small))) (ap (λ n. get_or (Some at ∷ rest) n None) (sym first)))
    (λ (ne : c * 1024 + r ≡ number → ⊥).
    rw (other_place c r (number / 1024) (number % 1024) (λ e f. ne (omega (arith, e, f)))) (
    found_from c r (number + 1) rest small (omega (arith, ne, le)) ∙ later (Some at) rest (c * 1024 + r - number) (c * 1024 + r - (number + 1)) (omega (arith, ne, le))))
    (cases_eq (c * 1024 + r) number)

-- what the map answers at a register
shown : (c r : ℕ) (items : List (Option Addr)) → r < 1024 → get (from_entries {R = place_cmp} (held_from 0 items)) (c, r) ≡ get_or items (c * 1024 + r) None
shown c r items small =
    let same : c * 1024 + r - 0 ≡ c * 1024 + r = omega arith in
    get-from_entries places_total (held_from 0 items) (c, r) ∙ found_from c r 0 items small (omega arith) ∙ ap (λ n. get_or items n None) same

-- a register that is not one of 1,024 holds nothing
far_none : (c r : ℕ) (items : List (Option Addr)) → 1024 ≤ r → get (from_entries {R = place_cmp} (held_from 0 items)) (c, r) ≡ None
far_none c r items far = get-from_entries places_total (held_from 0 items) (c, r) ∙ none_far c r 0 items far

not_none : (found : Option Addr) → IsSome found → found ≡ None → ⊥
not_none found some none = grind (arith, some, none)

-- a register that holds an address is one of 1,024 of one of 8 clients
pub sound_held : (items : List (Option Addr)) → length items ≡ 8192 → IsSound (from_entries {R = place_cmp} (held_from 0 items))
sound_held items long = record {
  clients = λ c r held. elim (cases_lt c 8) [
    | inl few ↦ few
    | inr many ↦ absurd (not_none _ held (elim (cases_lt r 1024) [
      | inl near ↦ shown c r items near ∙ get_or_past items (c * 1024 + r) None (omega arith)
      | inr far ↦ far_none c r items far
    ]))
  ];
  numbers = λ c r held. elim (cases_lt r 1024) [ inl near ↦ near | inr far ↦ absurd (not_none _ held (far_none c r items far)) ];
}

-- the same of what was read there
pub read : (c r : ℕ) (items : List (Option Addr)) (there : Option Addr) → r < 1024 → c * 1024 + r < length items → there ≡ get_or items (c * 1024 + r) there → there ≡ get (from_entries {R = place_cmp} (held_from 0 items)) (c, r)
read c r items there small inside is = is ∙ get_or_default items (c * 1024 + r) there None inside ∙ sym (shown c r items small)

-- what the registers hold where one was changed
with_get : (m : Registers) (k : ℕ × ℕ) (at : Option Addr) (q : ℕ × ℕ) → get (with_register m k at) q ≡ cond (eq_by_cmp place_cmp q k) at (get m q)
with_get m k None q = get-remove places_total m k q
with_get m k (Some at) q = get-insert places_total m k at q

-- a register that is written
pub written : (c r : ℕ) (items : List (Option Addr)) (at : Option Addr) → r < 1024 → c * 1024 + r < length items
    → from_entries {R = place_cmp} (held_from 0 (set items (c * 1024 + r) at)) ≡ with_register (from_entries {R = place_cmp} (held_from 0 items)) (c, r) at
written c r items at small inside =
    same_map places_total places_antisymmetric _ _ (λ q. each q.0 q.1 ∙ sym (with_get (from_entries {R = place_cmp} (held_from 0 items)) (c, r) at q))
  where
    near_each : (d s : ℕ) → s < 1024 → get_or (set items (c * 1024 + r) at) (d * 1024 + s) None ≡ cond (eq_by_cmp place_cmp (d, s) (c, r)) at (get (from_entries {R = place_cmp} (held_from 0 items)) (d, s))
    near_each d s near =
        ⊎_elim
        (λ (e : d * 1024 + s ≡ c * 1024 + r).
        rw (same_place d s c r (omega (arith, e, near, small)) (omega (arith, e, near, small))) (ap (λ n. get_or (set items (c * 1024 + r) at) n None) e ∙ get_or-set_same items (c * 1024 + r) at None inside))
        (λ (ne : d * 1024 + s ≡ c * 1024 + r → ⊥).
        rw (other_place d s c r (λ e f. ne (omega (arith, e, f)))) (get_or-set_other items (c * 1024 + r) (d * 1024 + s) at None ne ∙ sym (shown d s items near)))
        (cases_eq (d * 1024 + s) (c * 1024 + r))

    each : (d s : ℕ) → get (from_entries {R = place_cmp} (held_from 0 (set items (c * 1024 + r) at))) (d, s) ≡ cond (eq_by_cmp place_cmp (d, s) (c, r)) at (get (from_entries {R = place_cmp} (held_from 0 items)) (d, s))
    each d s =
        ⊎_elim
        (λ (far : 1024 ≤ s).
        rw (other_place d s c r (λ e f. omega (arith, f, far, small)))
        (get-from_entries places_total (held_from 0 (set items (c * 1024 + r) at)) (d, s) ∙ none_far d s 0 (set items (c * 1024 + r) at) far
        ∙ sym (get-from_entries places_total (held_from 0 items) (d, s) ∙ none_far d s 0 items far)))
        (λ (near : s < 1024). shown d s (set items (c * 1024 + r) at) near ∙ near_each d s near)
        (⊎_swap (cases_lt s 1024))

-- registers that are all empty
none_held : (number n : ℕ) → held_from number (replicate n None) ≡ []
none_held number zero = refl
none_held number (suc n) = none_held (number + 1) n

pub nothing_held : (items : List (Option Addr)) (n : ℕ) → items ≡ replicate n None → from_entries {R = place_cmp} (held_from 0 items) ≡ empty
nothing_held items n is = ap (λ (xs : List (Option Addr)). from_entries {R = place_cmp} (held_from 0 xs)) is ∙ ap (λ (es : List ((ℕ × ℕ) × Addr)). from_entries {R = place_cmp} es) (none_held 0 n)
