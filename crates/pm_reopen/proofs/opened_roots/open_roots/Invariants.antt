use Rattle.std.proofs.Common.{◌≡◌, ◌++◌, drop, map}
use Rattle.pm_copies.specs.Accepted.{roots_in}
use Rattle.pm_reopen.specs.Listing.{followed_root}
use Rattle.pm_reopen.proofs.opened_roots.open_roots.Given as goal

abbrev pub invariant-loop-entry : goal.invariant-loop-entry
invariant-loop-entry l = record {
  so_far : l.roots.items ++ map (followed_root l.leads) (roots_in (drop l.entry-index l.entries)) ≡ map (followed_root l.leads) (roots_in l.entries);
}
