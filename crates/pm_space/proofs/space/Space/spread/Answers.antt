use Rattle.pm_space.proofs.space.Space.spread.Goals as goal

pub invariant_of-self-clause-sole : goal.invariant_of-self-clause-sole
invariant_of-self-clause-sole g c = tt
