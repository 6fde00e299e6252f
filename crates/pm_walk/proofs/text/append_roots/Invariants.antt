use Rattle.std.proofs.Common.{◌≡◌, ◌++◌, take}
use Rattle.std.specs.List.{flat_map}
use Rattle.std.specs.FinMap.{entries}
use Rattle.pm_space.specs.Shown.{view}
use Rattle.pm_walk.specs.Lines.{named_line}
use Rattle.pm_walk.proofs.text.append_roots.Given as goal

-- the names so far
abbrev pub invariant-loop-place : goal.invariant-loop-place
invariant-loop-place g l = l.out.items ≡ l.initial.out.items ++ flat_map (named_line (view l.space.parts)) (take l.place (entries (view l.space.parts).roots))
