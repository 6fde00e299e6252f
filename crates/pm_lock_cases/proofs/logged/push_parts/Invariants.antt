use Rattle.std.proofs.Common.{◌≡◌, ◌<◌}
use Rattle.pm_engine.specs.Shown.{chooser}
use Rattle.pm_seats.specs.Shown.{engine_in, next_in}
use Rattle.pm_lock_cases.proofs.logged.push_parts.Given as goal

abbrev pub invariant-loop-part : goal.invariant-loop-part
invariant-loop-part g l = record { same : chooser (engine_in l.book) ≡ chooser (engine_in l.fn.book); drawn : l.number < next_in l.book }
