-- Pairs of an identity and a register that holds it, each below those behind it.
use Rattle.std.specs.Prelude.{◌≡◌, ℕ, Bool, true, false, cond, List, Contains}
use Rattle.std.specs.declared.cmp.Ordering.{Ordering}
use Rattle.std.specs.List.{list_any}
use Rattle.std.specs.List.Sorted.{IsStrictlySortedBy}
use Rattle.std.specs.Ordering.{nat_cmp, ordering_then}
use Rattle.std.specs.BTreeMap.{is_at}
use Rattle.pm_types.specs.Orders.{place_cmp}

abbrev pub Pair : Type 0
Pair = ℕ × (ℕ × ℕ)

-- pairs are ordered by the identity, and then by the register
abbrev pub holder_cmp : Pair → Pair → Ordering
holder_cmp p q = ordering_then (nat_cmp p.0 q.0) (place_cmp p.1 q.1)

abbrev pub Rise : List Pair → Type 0
Rise pairs = IsStrictlySortedBy holder_cmp pairs

-- whether this pair is one of them
abbrev pub has : List Pair → Pair → Bool
has pairs pair = list_any (is_at (holder_cmp pair)) pairs

-- they rise, and this pair came to them
pub record Adds (before : List Pair) (pair : Pair) (after : List Pair) : Type 0 where
  pub rise : Rise after
  pub each : (q : Pair) → has after q ≡ cond (is_at (holder_cmp pair) q) true (has before q)

-- they rise, and this pair is none of them any more
pub record Takes (before : List Pair) (pair : Pair) (after : List Pair) : Type 0 where
  pub rise : Rise after
  pub each : (q : Pair) → has after q ≡ cond (is_at (holder_cmp pair) q) false (has before q)

-- they rise, the first pair is none of them any more, and the second one came to them
pub record Exchanges (before : List Pair) (first second : Pair) (after : List Pair) : Type 0 where
  pub rise : Rise after
  pub each : (q : Pair) → has after q ≡ cond (is_at (holder_cmp second) q) true
      (cond (is_at (holder_cmp first) q) false (has before q))

-- these are the pairs of the identity, and rise
pub record AreOfId (pairs : List Pair) (id : ℕ) (part : List Pair) : Type 0 where
  pub rise : Rise part
  pub each : (pair : Pair) → Contains part pair → (pair.0 ≡ id) × (has pairs pair ≡ true)
  pub all : (place : ℕ × ℕ) → has pairs (id, place) ≡ true → Contains part (id, place)
