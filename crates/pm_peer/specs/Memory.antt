-- What contracts see of the peer in memory.
use Rattle.std.specs.Prelude.{ℕ, List}
use Rattle.pm_types.specs.Counts.{raised}
use Rattle.pm_peer.specs.declared.said.Said.{Said}

-- a peer in memory: the bytes that are left, the most that a call gives, what was said so far, the numbers of the calls
-- that fail, how many calls were made, how many of them failed, and how many growths were refused
pub record PeerState : Type 0 where
  pub left : List ℕ
  pub piece : ℕ
  pub talk : List Said
  pub fails : List ℕ
  pub calls : ℕ
  pub faults : ℕ
  pub refused : ℕ

-- the peer after a call that failed: the call and its fault are counted, and nothing else changes
abbrev pub after_failed_call : PeerState → PeerState
after_failed_call before = record before { calls = raised before.calls; faults = raised before.faults }

-- the peer after a call that failed because a growth was refused: that is counted too
abbrev pub after_refused_growth : PeerState → PeerState
after_refused_growth before = record (after_failed_call before) { refused = raised before.refused }
