-- The entry of a command that was answered is the last of those that are kept.
use Rattle.std.proofs.Common.{◌≡◌, ℕ, [], ◌∷◌, ◌++◌}
use Rattle.pm_types.specs.declared.command.Cmd.{Cmd}
use Rattle.pm_types.specs.declared.command.Cmd.TheVariants.{Save, Settle, Unsave, Watch}
use Rattle.pm_types.specs.declared.reply.Reply.{Reply}
use Rattle.pm_types.specs.declared.reply.Reply.TheVariants.{TooManyWatches, Watching}
use Rattle.pm_disk.specs.declared.disk.Disk.{Ghosts}
use Rattle.pm_engine.specs.declared.works.works.Works.{Works}
use Rattle.pm_engine.specs.Works.Working.{Adds, Answers, Watches, past_in}
use Rattle.pm_engine.proofs.WorksLemmas.Answering.{save_adds, settle_adds, unsave_adds}
use Rattle.pm_engine.proofs.WorksLemmas.Whole.{same_past}

module _ {D : Type 0} {F : Type 0} {g : Ghosts D} (client : ℕ) (old new : Works D F g) where
  -- none was let go, and this entry was put behind those that are kept
  abbrev EndsWith : Cmd → Reply → Type 0
  EndsWith cmd reply = (past_in new ≡ past_in old) × (new.journal.items ≡ old.journal.items ++ record { client = client; cmd = cmd; reply = reply } ∷ [])

  added : (cmd : Cmd) (reply : Reply) → Adds client cmd reply old new → EndsWith cmd reply
  added cmd reply adds = (same_past old new adds.past, adds.journal)

  watched : (reply : Reply) → Watches client old new reply → EndsWith Watch reply
  watched TooManyWatches is = added Watch TooManyWatches is.adds
  watched (Watching number) is = (same_past old new is.past, is.journal)
  watched reply is = absurd is

  pub last_of : (cmd : Cmd) (reply : Reply) → Answers client cmd old new reply → EndsWith cmd reply
  last_of Save reply is = added Save reply (save_adds client old new reply is)
  last_of Settle reply is = added Settle reply (settle_adds client old new reply is)
  last_of Unsave reply is = added Unsave reply (unsave_adds client old new reply is)
  last_of Watch reply is = watched reply is
  last_of cmd reply is = added cmd reply is.adds
