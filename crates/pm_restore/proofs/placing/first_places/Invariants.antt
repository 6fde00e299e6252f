use Rattle.std.proofs.Common.{◌≡◌, ◌≤◌, ◌++◌, drop}
use Rattle.pm_types.specs.declared.limits.TheConstants.{PAGE_BYTES}
use Rattle.pm_restore.proofs.FirstLemmas.{later_firsts}
use Rattle.pm_restore.proofs.placing.first_places.Given as goal

abbrev pub invariant-loop-place : goal.invariant-loop-place
invariant-loop-place l = record {
  used : l.used ≤ PAGE_BYTES;
  begun : l.firsts.items ++ later_firsts l.used l.place (drop l.place l.dump.objects) ≡ later_firsts PAGE_BYTES 0 l.dump.objects;
}
