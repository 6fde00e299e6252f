-- What the calls of an engine do.
use Rattle.std.specs.Prelude.{◌≡◌, ℕ, List, [], ◌∷◌, ◌++◌, length, Option, Some, None}
use Rattle.pm_types.specs.declared.command.Cmd.{Cmd}
use Rattle.pm_types.specs.declared.command.Cmd.TheVariants as cmds
use Rattle.pm_types.specs.declared.event.Watch.{Watch}
use Rattle.pm_types.specs.declared.reply.Reply.{Reply}
use Rattle.pm_types.specs.declared.reply.Reply.TheVariants.{Watching}
use Rattle.pm_types.specs.declared.fault.EngineFault.{EngineFault}
use Rattle.pm_types.specs.declared.fault.EngineFault.TheVariants.{Memory, Disk, Reopen}
use Rattle.pm_types.specs.Counts.{ShowsRise, raised}
use Rattle.pm_model.specs.Answer.{answer}
use Rattle.pm_view.specs.Watches.{watch_in}
use Rattle.pm_saving.specs.Progress.{Progress}
use Rattle.pm_saving.specs.Tied.{GoesOn}
use Rattle.pm_saving.specs.Serving.{Serving, KeepsOpening, made_now, world}

-- The watches once a command was answered so: where it is one that sets a watch, that watch is the last.
abbrev pub watched : Serving → Cmd → Reply → List Watch
watched it cmds.Watch (Watching number) = it.watches ++ watch_in it.view (length it.journal) ∷ []
watched it cmd reply = it.watches

-- A command's entry, with this reply, was put at the journal's end, and what had been made before it at the end of the
-- course; one event more was made, which is none of the collector. The opening stays.
pub record Appends (client : ℕ) (cmd : Cmd) (old new : Serving) (reply : Reply) : Type 0 where
  pub opening : KeepsOpening old new
  pub journal : new.journal ≡ old.journal ++ record { client = client; cmd = cmd; reply = reply } ∷ []
  pub course : new.course ≡ old.course ++ made_now old ∷ []
  pub watches : new.watches ≡ watched old cmd reply
  pub events : new.events ≡ raised old.events
  pub steps : new.steps ≡ old.steps
  pub stopped : new.stopped ≡ old.stopped

-- A command was answered: the reply is the world's, and its entry is at the journal's end.
pub record Serves (client : ℕ) (cmd : Cmd) (old new : Serving) (reply : Reply) : Type 0 where
  pub appends : Appends client cmd old new reply
  pub reply_is : reply ≡ (answer (world old) client cmd).0

-- A page was written or none was left: journal, course, space and copies stay, and one event more was made.
pub record Flushes (old new : Serving) : Type 0 where
  pub opening : KeepsOpening old new
  pub view : new.view ≡ old.view
  pub frozen : new.frozen ≡ old.frozen
  pub settled : new.saving.settled ≡ old.saving.settled
  pub journal : new.journal ≡ old.journal
  pub course : new.course ≡ old.course
  pub watches : new.watches ≡ old.watches
  pub events : new.events ≡ raised old.events
  pub steps : new.steps ≡ old.steps
  pub stopped : new.stopped ≡ old.stopped

-- An event of the collector was made: journal, course, watches and copies stay. What it did to the space is said apart.
pub record Collects (old new : Serving) : Type 0 where
  pub opening : KeepsOpening old new
  pub frozen : new.frozen ≡ old.frozen
  pub saving : new.saving ≡ old.saving
  pub journal : new.journal ≡ old.journal
  pub course : new.course ≡ old.course
  pub watches : new.watches ≡ old.watches
  pub events : new.events ≡ raised old.events
  pub steps : new.steps ≡ raised old.steps
  pub stopped : new.stopped ≡ old.stopped

-- the copy in progress is the same, of which more pages may have been written
abbrev pub StaysBegun : Option Progress → Option Progress → Type 0
StaysBegun None None = Unit {0}
StaysBegun None (Some after) = ⊥
StaysBegun (Some before) None = ⊥
StaysBegun (Some before) (Some after) = GoesOn before after

-- Nothing was answered: journal, course, space, watches and copies stay, and no event was made. More pages of the copy in
-- progress may have been written.
pub record ServesNothing (old new : Serving) : Type 0 where
  pub opening : KeepsOpening old new
  pub view : new.view ≡ old.view
  pub frozen : new.frozen ≡ old.frozen
  pub settled : new.saving.settled ≡ old.saving.settled
  pub progress : StaysBegun old.saving.progress new.saving.progress
  pub journal : new.journal ≡ old.journal
  pub course : new.course ≡ old.course
  pub watches : new.watches ≡ old.watches
  pub events : new.events ≡ old.events
  pub steps : new.steps ≡ old.steps

-- What a fault says. Memory: no call has answered that the disk failed. Disk: its count of failed calls rose in this call,
-- as told, and from now on the engine is stopped. Reopen: the engine was stopped before, with this count, and nothing
-- changed at all.
abbrev pub FailsAs : Serving → Serving → ℕ → ℕ → EngineFault → Type 0
FailsAs old new before after (Memory _) = ServesNothing old new × (old.stopped ≡ None) × (new.stopped ≡ None) × (after ≡ before)
FailsAs old new before after (Disk b a) = ServesNothing old new × (old.stopped ≡ None) × (new.stopped ≡ Some after) × ShowsRise b a before after
FailsAs old new before after (Reopen count) = (new ≡ old) × (old.stopped ≡ Some count) × (after ≡ before)
