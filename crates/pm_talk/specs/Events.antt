-- Events that are made one behind another.
use Rattle.std.specs.Prelude.{◌≡◌, ◌⊎◌, ℕ, ◌+◌, ◌*◌, ◌<◌, ◌≤◌, List, [], ◌∷◌, length, IsSome}
use Rattle.pm_types.specs.declared.command.Cmd.{Cmd}
use Rattle.pm_types.specs.declared.command.Cmd.TheVariants.{Close}
use Rattle.pm_view.specs.Events.{next_row}
use Rattle.pm_evac.specs.Steps.{TakesMemory}
use Rattle.pm_saving.specs.Paging.{left_of}
use Rattle.pm_saving.specs.Serving.{Serving}
use Rattle.pm_saving.specs.Events.{Flushes, ServesNothing}
use Rattle.pm_engine.specs.History.{IsCollected}

-- each state comes so from the one before; they lead from the first state to the last
abbrev pub LeadsBy : (Serving → Serving → Type 0) → Serving → List Serving → Serving → Type 0
LeadsBy Comes from [] to = from ≡ to
LeadsBy Comes from (next ∷ states) to = Comes from next × LeadsBy Comes next states to

-- so many events were made, each of which changes an engine so
pub record Makes (Comes : Serving → Serving → Type 0) (made : ℕ) (old new : Serving) : Type 0 where
  pub states : List Serving
  pub count : length states ≡ made
  pub leads : LeadsBy Comes old states new

-- ---- the collector

-- Of so many events of the collector not all were made: the next one may take memory, and ran out of it.
pub record CollectsFewer (count : ℕ) (old new : Serving) : Type 0 where
  pub made : ℕ
  pub within : made < count
  pub makes : Makes IsCollected made old new
  pub short : TakesMemory (next_row new.view)

-- so many were made, or memory ran out before
abbrev pub Collects : ℕ → Serving → Serving → Type 0
Collects count old new = Makes IsCollected count old new ⊎ CollectsFewer count old new

-- How many events of the collector come behind the reply to a command, where so many come behind each: behind `close`
-- 512 times as many.
abbrev pub due_behind : ℕ → Cmd → ℕ
due_behind events Close = 512 * events
due_behind events cmd = events

-- ---- the copy in progress

-- So many flush events were made, and so many of them wrote a page: where it is fewer, none is left.
pub record FlushesAll (count wrote : ℕ) (old new : Serving) : Type 0 where
  pub makes : Makes Flushes count old new
  pub written : wrote + left_of new.saving.progress ≡ left_of old.saving.progress
  pub within : wrote ≤ count
  pub none : wrote < count → left_of new.saving.progress ≡ 0

-- Of so many flush events not all were made: memory ran out, and a page is left.
pub record FlushesFewer (count : ℕ) (old new : Serving) : Type 0 where
  pub made : ℕ
  pub within : made < count
  pub makes : Makes Flushes made old new
  pub left : 0 < left_of new.saving.progress

-- Of so many flush events not all were made: the disk failed in the next one, and the engine is stopped.
pub record FlushesUntil (count : ℕ) (old new : Serving) : Type 0 where
  pub made : ℕ
  pub within : made < count
  pub mid : Serving
  pub makes : Makes Flushes made old mid
  pub nothing : ServesNothing mid new
  pub stopped : IsSome new.stopped
