use Rattle.std.proofs.Common.{ap, length}
use Rattle.pm_space.specs.Shown.{view}
use Rattle.pm_young.proofs.Rows.{born_if}
use Rattle.pm_young.proofs.escape.admit_one.Goals as goal

pub returns-clause-row : goal.returns-clause-row
returns-clause-row g c =
    born_if c.admit.result (view c.args.space.now.parts) (view c.admit.new.space.parts) c.args.id _ _ _ c.in-Some.young.now c.in-Some.ensures (ap length c.fields.ensures) c.bytes.ensures c.admit.ensures.row
