-- What contracts see of a source and a sink over a stream.
use Rattle.std.specs.Prelude.{ℕ, List, Option}
use Rattle.pm_io.specs.Tries.{Tries}

-- a source over a stream: what that tells of the bytes that are left and of its calls, and how many faults were counted
pub record SourceOver : Type 0 where
  pub left : Option (List ℕ)
  pub tries : Option Tries
  pub faults : ℕ

-- a sink over a stream: what that tells of the bytes that were written and of its calls, how many of the bytes are
-- flushed, and how many faults were counted
pub record SinkOver : Type 0 where
  pub written : Option (List ℕ)
  pub flushed : ℕ
  pub tries : Option Tries
  pub faults : ℕ

-- a source over a stream that tells this, of which no fault was counted yet
abbrev pub new_source : Option (List ℕ) → Option Tries → SourceOver
new_source left tries = record { left = left; tries = tries; faults = 0 }

-- a sink over a stream that tells this, of which no fault was counted yet
abbrev pub new_sink : Option (List ℕ) → ℕ → Option Tries → SinkOver
new_sink written flushed tries = record { written = written; flushed = flushed; tries = tries; faults = 0 }
