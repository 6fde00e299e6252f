use Rattle.std.proofs.Common.{refl}
use Rattle.pm_snap.proofs.Passed.{kept_new}
use Rattle.pm_snap.proofs.table.Table.expecting.Goals as goal

pub invariant_of-result : goal.invariant_of-result
invariant_of-result g c = record {
  keys = kept_new c.expecting.result c.new.result c.expecting.ensures c.new.ensures;
  zero_unnoted = refl;
}
