use Rattle.std.proofs.Common.{◌≡◌, ◌≤◌, ◌+◌, ℕ}
use Rattle.pm_view.specs.Commands.{emptied}
use Rattle.pm_space.specs.Linked.{HasRoom}
use Rattle.pm_space.specs.Shown.{view, KeepsRest}
use Rattle.pm_mutate.specs.Commands.Closing.{stored_in}
use Rattle.pm_mutate.proofs.commands.closing.empty_registers.Given as goal

-- the registers so far are empty, and there is room for what the others are told
abbrev pub invariant-loop-register : goal.invariant-loop-register
invariant-loop-register g l = record {
  seen : view l.parts ≡ emptied (view l.initial.parts) l.client l.register;
  room : (car count : ℕ) → stored_in (view l.initial.parts).registers l.client l.register car + count ≤ stored_in (view l.initial.parts).registers l.client l.count car → HasRoom l.parts.links car count;
  rest : KeepsRest l.initial.parts l.parts;
}
