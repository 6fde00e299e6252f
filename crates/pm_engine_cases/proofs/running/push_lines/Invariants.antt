use Rattle.std.proofs.Common.{◌≡◌}
use Rattle.pm_engine.specs.Shown.{chooser}
use Rattle.pm_engine_cases.proofs.running.push_lines.Given as goal

abbrev pub invariant-loop-line : goal.invariant-loop-line
invariant-loop-line g l = chooser l.engine ≡ chooser l.fn.engine
