-- The disk's count of failed calls is never below the one at the opening, and whether it rose is known as soon as it is
-- known in some way.
use Rattle.std.proofs.Common.{◌≡◌, ℕ, ◌<◌, ◌≤◌, ⊎_elim, inl, inr, arith}
use Rattle.std.proofs.Math.Logic.{∥∥₁_map}
use Rattle.std.proofs.Props.{props}
use native.Mathlib.Decide.{dec_lt}
use Rattle.pm_types.specs.Counts.{Rose, greatest_count}
use Rattle.pm_law_saving.proofs.ServingLemmas.Splitting.{splits_once}

-- nothing was called yet
pub counted_first : (opened now : ℕ) → opened ≡ now → opened ≤ now
counted_first opened now same = omega (arith, same)

-- no call failed
pub counted_still : (opened before after : ℕ) → opened ≤ before → after ≡ before → opened ≤ after
counted_still opened before after was same = omega (arith, was, same)

-- one did
pub counted_risen : (opened before after : ℕ) → opened ≤ before → Rose before after → opened ≤ after
counted_risen opened before after was rose =
    ⊎_elim (λ (more : before < after). omega (arith, was, more)) (λ full. let here = full.0 in let there = full.1 in omega (arith, was, here, there)) rose

same_once : (a b c d : ℕ) → IsProp ((a ≡ b) × (c ≡ d))
same_once a b c d = hlevel props

pub splits_rose : (before after : ℕ) → ∥ Rose before after ∥₁ → Rose before after
splits_rose before after known = by (dec_lt before after)
  where
    by : Dec (before < after) → Rose before after
    by (yes less) = inl less
    by (no not) = inr (splits_once (same_once before greatest_count after greatest_count) (∥∥₁_map known (⊎_elim (λ less. absurd (not less)) (λ end. end))))
