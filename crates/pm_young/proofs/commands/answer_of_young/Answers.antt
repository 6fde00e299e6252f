use Rattle.pm_space.specs.Shown.{view}
use Rattle.pm_young.proofs.Sided.{stands_apart}
use Rattle.pm_young.proofs.commands.answer_of_young.Goals as goal

pub bind_young-requires-clause-stands : goal.bind_young-requires-clause-stands
bind_young-requires-clause-stands g c = stands_apart (view c.args.space.now.parts) c.args.nursery.now c.requires.stands
