-- How the source and the sink in memory count their calls, and which of them fail.
use Rattle.std.specs.Prelude.{ℕ, ◌+◌, ◌==◌, ◌&&◌, Bool, List, nat_lt}
use Rattle.std.specs.List.{list_any}
use Rattle.pm_types.specs.Counts.{greatest_count}

-- the call after so many calls is to fail: its number, counted from 1, is listed
abbrev pub is_listed : List ℕ → ℕ → Bool
is_listed fails calls = nat_lt calls greatest_count && list_any (λ number. number == (calls + 1)) fails
