-- What contracts see of the source and the sink in memory.
use Rattle.std.specs.Prelude.{ℕ, List}
use Rattle.pm_types.specs.Counts.{raised}

-- a source in memory: the bytes that are left, the most that a call gives, the numbers of the calls that fail,
-- how many calls were made, and how many of them failed
pub record SourceState : Type 0 where
  pub left : List ℕ
  pub piece : ℕ
  pub fails : List ℕ
  pub calls : ℕ
  pub faults : ℕ

-- a sink in memory: the bytes that were written, how many of them are finished, the numbers of the calls that fail,
-- how many calls were made, how many of them failed, and how many growths were refused
pub record SinkState : Type 0 where
  pub written : List ℕ
  pub finished : ℕ
  pub fails : List ℕ
  pub calls : ℕ
  pub faults : ℕ
  pub refused : ℕ

-- the source after a call that failed: the call and its fault are counted, and nothing else changes
abbrev pub after_failed_take : SourceState → SourceState
after_failed_take before = record before { calls = raised before.calls; faults = raised before.faults }

-- the sink after a call that failed: the call and its fault are counted, and nothing else changes
abbrev pub after_failed_call : SinkState → SinkState
after_failed_call before = record before { calls = raised before.calls; faults = raised before.faults }

-- the sink after a call that failed because a growth was refused: that is counted too
abbrev pub after_refused_growth : SinkState → SinkState
after_refused_growth before = record (after_failed_call before) { refused = raised before.refused }
