-- Counts of calls, of faults and of what else is counted in 64 bits.
use Rattle.std.specs.Prelude.{◌≡◌, ℕ, ◌+◌, ◌<◌, ◌⊎◌, min}

-- the greatest count: a count that stands there stays there at one more
abbrev pub greatest_count : ℕ
greatest_count = 18446744073709551615

-- a count, or the greatest one where it is more
abbrev pub capped : ℕ → ℕ
capped count = min count greatest_count

-- a count after one more
abbrev pub raised : ℕ → ℕ
raised count = capped (count + 1)

-- a count rose from before to after; one that stands at its end has risen where it still stands there
abbrev pub Rose : ℕ → ℕ → Type 0
Rose before after = (before < after) ⊎ ((before ≡ greatest_count) × (after ≡ greatest_count))

-- these counts are those before and after, between which the count rose
abbrev pub ShowsRise : ℕ → ℕ → ℕ → ℕ → Type 0
ShowsRise before after count_before count_after = (before ≡ count_before) × (after ≡ count_after) × Rose before after
