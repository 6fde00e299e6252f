use Rattle.std.proofs.Common.{◌≡◌}
use Rattle.pm_turns.specs.Rule.{TakesTurn}
use Rattle.pm_turns.proofs.workers.work.Given as goal

-- what came of the last turn so far
abbrev pub invariant-loop-index : goal.invariant-loop-index
invariant-loop-index g l = record {
  table : l.seat.table_id ≡ l.fn.seat.table_id;
  same : l.seat.me ≡ l.fn.seat.me;
  last : TakesTurn g.B.Turned.tie g.B.Turned.sound g.B.Turned.turn l.who l.fn.seat.me.0 l.turn;
}
