use Rattle.std.proofs.Common.{◌≡◌}
use Rattle.pm_engine.specs.Shown.{chooser}
use Rattle.pm_lock.specs.Shown.{engine_in}
use Rattle.pm_lock_cases.proofs.turned.make_all_of.Given as goal

abbrev pub invariant-loop : goal.invariant-loop
invariant-loop g l = chooser (engine_in l.book) ≡ chooser (engine_in l.fn.book)
