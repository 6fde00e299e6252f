use Rattle.std.proofs.Common.{◌≡◌}
use Rattle.pm_young.specs.Seen.{chooser}
use Rattle.pm_young_cases.proofs.commands.push_flushes.Given as goal

abbrev pub invariant-loop-place : goal.invariant-loop-place
invariant-loop-place g l = chooser l.engine ≡ chooser l.fn.engine
