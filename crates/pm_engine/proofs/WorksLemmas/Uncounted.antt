-- A command completes no collection.
use Rattle.std.proofs.Common.{◌≡◌, ℕ, Result, Ok, Err, IfOk, OnErr, ap, ◌∙◌, arith}
use Rattle.pm_types.specs.declared.command.Cmd.{Cmd}
use Rattle.pm_types.specs.declared.no_memory.NoMemory.{NoMemory}
use Rattle.pm_types.specs.declared.reply.Reply.{Reply}
use Rattle.pm_view.specs.View.{SpaceView}
use Rattle.pm_law_course.proofs.Kept.{command_keeps}
use Rattle.pm_mutate.specs.Commands.Picked.{IsRow}
use Rattle.pm_view.specs.Bounded.{CountsOne}

-- it counts none
pub act_counts : (old new : SpaceView) (client : ℕ) (cmd : Cmd) (r : Result Reply NoMemory) → IfOk r (λ reply. IsRow old client cmd (reply, new)) → OnErr r (new ≡ old) → CountsOne old new
act_counts old new client cmd (Ok reply) is same =
    let counted : new.completed ≡ old.completed = ap (λ (p : Reply × SpaceView). p.1.completed) is.2 ∙ (command_keeps old client cmd is.0).completed in
    (omega (arith, counted), omega (arith, counted))
act_counts old new client cmd (Err e) is same =
    let counted = ap (λ (v : SpaceView). v.completed) same in
    (omega (arith, counted), omega (arith, counted))
