use Rattle.std.proofs.Common.{refl}
use Rattle.pm_types.specs.Near.{seen_far}
use Rattle.pm_types.proofs.Hashed.{inserted}
use Rattle.pm_types.proofs.numbered.insert_far.Goals as goal

pub returns-in-Ok-clause-ok : goal.returns-in-Ok-clause-ok
returns-in-Ok-clause-ok g c = inserted c.args.far.now c.insert.new.self (seen_far c.args.far.now) refl c.args.number c.args.value c.in-Ok.ensures.updates
