use Rattle.std.proofs.Common.{◌≡◌, ◌++◌, map, take}
use Rattle.pm_copies.specs.Plans.{root_entry}
use Rattle.pm_save.proofs.progress.entries.push_roots.Given as goal

abbrev pub invariant-loop-name : goal.invariant-loop-name
invariant-loop-name l = l.entries.items ≡ l.initial.entries.items ++ map root_entry (take l.name-index l.roots)
