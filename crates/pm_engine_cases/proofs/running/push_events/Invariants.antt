use Rattle.std.proofs.Common.{◌≡◌}
use Rattle.pm_engine.specs.Shown.{chooser}
use Rattle.pm_engine_cases.proofs.running.push_events.Given as goal

abbrev pub invariant-loop : goal.invariant-loop
invariant-loop g l = chooser l.engine ≡ chooser l.fn.engine
