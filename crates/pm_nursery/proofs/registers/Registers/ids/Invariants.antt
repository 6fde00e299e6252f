use Rattle.std.proofs.Common.{◌≡◌, ℕ, map, take}
use Rattle.pm_nursery.proofs.registers.Registers.ids.Given as goal

-- what the registers so far hold
abbrev pub invariant-loop-id : goal.invariant-loop-id
invariant-loop-id l = l.ids.items ≡ map (λ (e : (ℕ × ℕ) × ℕ). e.1) (take l.id-index l.held)
