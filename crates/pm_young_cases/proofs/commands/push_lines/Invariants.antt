use Rattle.std.proofs.Common.{◌≡◌}
use Rattle.pm_young.specs.Seen.{chooser}
use Rattle.pm_young_cases.proofs.commands.push_lines.Given as goal

abbrev pub invariant-loop-line : goal.invariant-loop-line
invariant-loop-line g l = chooser l.engine ≡ chooser l.fn.engine
