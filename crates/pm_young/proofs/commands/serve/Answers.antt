use Rattle.pm_space.specs.Shown.{view}
use Rattle.pm_young.proofs.Sided.{stands_apart}
use Rattle.pm_young.proofs.commands.serve.Goals as goal

pub bear-requires-clause-stands : goal.bear-requires-clause-stands
bear-requires-clause-stands g c = stands_apart (view c.args.space.now.parts) c.args.nursery.now c.requires.stands
