use Rattle.pm_passes.specs.Passes.{IsAmong}
use Rattle.pm_passes.specs.contracts.tests.Name as name
use Rattle.pm_passes.proofs.tests.work.Given as goal

abbrev pub invariant-loop : goal.invariant-loop
invariant-loop g l = IsAmong l.home.table.shared.table_id (name.the_row.coded.code l.home.table.shared.key.value.name) l.pass
