-- Commands that the young objects answer as if they were all that there is.
use Rattle.std.specs.Prelude.{◌≡◌, ℕ, Bool, true, false}
use Rattle.pm_types.specs.declared.command.Cmd.{Cmd}
use Rattle.pm_types.specs.declared.command.Cmd.TheVariants.{New, Close}
use Rattle.pm_types.specs.declared.reply.Reply.{Reply}
use Rattle.pm_model.specs.World.{World}
use Rattle.pm_model.specs.Answer.{answer}
use Rattle.pm_nursery.specs.Young.{NurseryView}
use Rattle.pm_nursery.specs.Answering.{is_of_objects, nursery_of, young_alone}

-- this is the reply, and these are the objects and registers of the world after it
abbrev pub IsAnswer : Reply × World → Reply → NurseryView → Type 0
IsAnswer given reply after = (reply ≡ given.0) × (after ≡ nursery_of given.1)

-- the young objects and their registers answer the command so, whatever else a world has
abbrev pub AnswersAlone : NurseryView → ℕ → Cmd → Reply → NurseryView → Type 0
AnswersAlone nursery client cmd reply after = (world : World) → IsAnswer (answer (young_alone world nursery) client cmd) reply after

-- the command reads, sets or empties registers and objects, one by one, and makes none
abbrev pub is_of_registers : Cmd → Bool
is_of_registers (New reg count bytes) = false
is_of_registers Close = false
is_of_registers cmd = is_of_objects cmd
