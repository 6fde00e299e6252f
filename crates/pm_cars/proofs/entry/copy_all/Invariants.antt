use Rattle.std.proofs.Common.{◌≡◌, ◌+◌, ◌≤◌, length, take, vec_capacity}
use Rattle.pm_cars.proofs.entry.copy_all.Given as goal

abbrev pub invariant-loop-slot : goal.invariant-loop-slot
invariant-loop-slot l = (l.copied.items ≡ take l.slot-index l.entries) × (length l.entries + l.spare ≤ vec_capacity l.copied)
