use Rattle.pm_nursery.proofs.Reaches.{nothing_sound}
use Rattle.pm_nursery.proofs.nursery.Nursery.drop_all.Goals as goal

pub invariant_of-self : goal.invariant_of-self
invariant_of-self c = nothing_sound c.clear.new.self c.clear-2.new.self c.clear.ensures c.clear-2.ensures
