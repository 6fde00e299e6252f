use Rattle.pm_layout.proofs.Wider.{slot_more}
use Rattle.pm_layout.proofs.law.limits_may_grow.Goals as goal

pub returns : goal.returns
returns c = λ most more bytes at next slot le read. slot_more most more bytes at (slot, next) le read
