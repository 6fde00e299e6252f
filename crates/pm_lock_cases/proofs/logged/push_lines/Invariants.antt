use Rattle.std.proofs.Common.{◌≡◌}
use Rattle.pm_engine.specs.Shown.{chooser}
use Rattle.pm_seats.specs.Shown.{engine_in, next_in}
use Rattle.pm_lock_cases.proofs.logged.push_lines.Given as goal

abbrev pub invariant-loop-line : goal.invariant-loop-line
invariant-loop-line g l = record { same : chooser (engine_in l.book) ≡ chooser (engine_in l.fn.book); next : next_in l.book ≡ next_in l.fn.book }
