use Rattle.pm_engine.specs.contracts.Engine as engines
use Rattle.pm_seats.specs.Sharing.{IsPassOf}
use Rattle.pm_lock_cases.proofs.shared.call_often.Given as goal

abbrev pub invariant-loop : goal.invariant-loop
invariant-loop g l = IsPassOf (engines.the_row g.row.D g.row.F g.D.Disk).coded l.shared l.pass
