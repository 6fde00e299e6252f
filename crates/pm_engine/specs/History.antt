-- What happened to an engine since it was opened.
use Rattle.std.specs.Prelude.{◌≡◌, ◌⊎◌, ℕ, List, [], ◌∷◌, None}
use Rattle.pm_types.specs.declared.command.Cmd.{Cmd}
use Rattle.pm_types.specs.declared.event.Step.{Step}
use Rattle.pm_types.specs.declared.reply.Reply.{Reply}
use Rattle.pm_copies.specs.Opened.{IsFresh}
use Rattle.pm_evac.specs.Steps.{IsEvent}
use Rattle.pm_saving.specs.Progress.{Saving}
use Rattle.pm_saving.specs.Serving.{Serving, just_opened}
use Rattle.pm_saving.specs.Events.{Collects, Flushes, Serves, ServesNothing}
use Rattle.pm_engine.specs.Works.Acting.{ChangesSpace}

-- A command was answered: the reply is the world's, and the space after it is that of its row.
pub record IsAnswered (old new : Serving) : Type 0 where
  pub client : ℕ
  pub cmd : Cmd
  pub reply : Reply
  pub serves : Serves client cmd old new reply
  pub space : ChangesSpace client cmd old.view new.view reply

-- The next event of the collector was made, whatever train was picked of those that may be.
pub record IsCollected (old new : Serving) : Type 0 where
  pub step : Step
  pub collects : Collects old new
  pub event : IsEvent old.view new.view step

-- one call: a command was answered, an event of the collector was made, a page was written or none was left, or nothing
-- was answered
abbrev pub Happens : Serving → Serving → Type 0
Happens old new = IsAnswered old new ⊎ IsCollected old new ⊎ Flushes old new ⊎ ServesNothing old new

-- each state comes by one call from the one before; they lead from the first state to the last
abbrev pub Leads : Serving → List Serving → Serving → Type 0
Leads from [] to = from ≡ to
Leads from (next ∷ states) to = Happens from next × Leads next states to

-- The engine came by calls from one that was just opened: in its space nothing had happened, and no copy was in progress.
pub record HasHistory (it : Serving) : Type 0 where
  pub saving : Saving
  pub idle : saving.progress ≡ None
  pub fresh : IsFresh it.opened.next it.opened
  pub states : List Serving
  pub leads : Leads (just_opened it.number it.opened saving) states it
