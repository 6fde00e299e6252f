-- What workers do of their tasks, and what their passes know then.
use Rattle.std.specs.Prelude.{◌≡◌, ◌⊎◌, ℕ, ◌+◌, ◌≤◌, ◌<◌, false, List, [], ◌∷◌, ◌++◌, map, length, Option, Some, None, Result, Ok, Err}
use Rattle.std.specs.List.{AllByRecursion}
use Rattle.std.specs.VecDeque.{deque_items}
use base.Stored.{Coded}
use Rattle.pm_types.specs.Counts.{Rose}
use Rattle.pm_types.specs.declared.entry.Entry.{Entry}
use Rattle.pm_types.specs.declared.fault.EngineFault.TheVariants.{Memory, Disk, Reopen}
use Rattle.pm_disk.specs.declared.disk.Disk.{Ghosts}
use Rattle.pm_engine.specs.declared.engine.Engine.{Engine}
use Rattle.pm_engine.specs.Shown.{disk_in}
use Rattle.pm_passes.specs.declared.pass.Pass.{Pass}
use Rattle.pm_passes.specs.declared.view.View.{View}
use Rattle.pm_passes.specs.Passes.{view_of}
use Rattle.pm_seats.specs.declared.fault.SeatFault.{SeatFault}
use Rattle.pm_seats.specs.declared.fault.SeatFault.TheVariants.{Engine as Answered, Spent}
use Rattle.pm_seats.specs.declared.limits.TheConstants.{LAST_EVENT}
use Rattle.pm_seats.specs.declared.shared.Shared.{Shared}
use Rattle.pm_seats.specs.Sharing.{IsPassOf, first_engine}
use Rattle.pm_callers.specs.declared.task.Task.{Task}
use Rattle.pm_callers.specs.declared.task.Task.TheVariants.{Client, Collector, Flusher}
use Rattle.pm_callers.specs.Tasks.{HasLeft, IsDone, collects_left, flushes_left}
use Rattle.pm_callers.specs.Faults.{is_disk, worst_of}

-- A worker may have the pass: it was made by the `open` that gave this `Shared`, or split off since, and was told of the
-- disk's count as that took it, or of a later one.
pub record IsWorkers {D : Type 0} {F : Type 0} {g : Ghosts D} (coded : Coded (Engine D F g)) (shared : Shared D F g)
    (pass : Pass Entry) : Type 0 where
  pub is_pass : IsPassOf coded shared pass
  pub told : g.count (disk_in (first_engine shared)) ≤ (view_of pass).faults

-- What was answered and made of a task. The entries are all its client's, and their commands with what is left are its
-- list. The collector and the flusher have none, and no more is left than was.
abbrev pub Answers : Task → Task → List Entry → Type 0
Answers (Client client commands) (Client who left) entries =
    (who ≡ client) × AllByRecursion (λ entry. entry.client ≡ client) entries
    × (map (λ entry. entry.cmd) entries ++ deque_items left ≡ deque_items commands)
Answers (Collector count) (Collector left) entries = (left ≤ count) × (entries ≡ [])
Answers (Flusher count) (Flusher left) entries = (left ≤ count) × (entries ≡ [])
Answers task left entries = ⊥

-- a worker ended with nothing left, or with something left and a fault
abbrev pub Ends : Task → Option SeatFault → Type 0
Ends left None = IsDone left
Ends left (Some fault) = HasLeft left

-- What a pass was told with a fault, where the disk had this count at first. Disk: a call was answered so, and the count
-- has risen since the first. Reopen: it has. Spent: so many events were made.
abbrev pub Told : ℕ → View Entry → Option SeatFault → Type 0
Told base w None = Unit {0}
Told base w (Some (Answered (Memory _))) = Unit {0}
Told base w (Some (Answered (Disk before after))) = (0 < w.struck) × Rose base w.faults
Told base w (Some (Answered (Reopen count))) = Rose base w.faults
Told base w (Some (Spent events)) = LAST_EVENT ≤ w.events

-- How a pass goes from v to w while these tasks come to what is left of them, and this fault is told.
pub record Counts (base : ℕ) (tasks left : List Task) (v w : View Entry) (fault : Option SeatFault) : Type 0 where
  pub number : w.number ≡ v.number
  pub shares : w.shares ≡ v.shares
  -- it has counted each event of the collector, and each flush event, that is not left any more
  pub made : w.made + collects_left left ≡ v.made + collects_left tasks
  pub flushed : w.flushed + flushes_left left ≡ v.flushed + flushes_left tasks
  -- a call was answered with a fault of the disk only where that is told
  pub struck : is_disk fault ≡ false → w.struck ≡ v.struck
  pub strikes : v.struck ≤ w.struck
  -- it was told no less
  pub faults : v.faults ≤ w.faults
  pub events : v.events ≤ w.events
  pub told : Told base w fault

-- Events of one task were made, with one pass: its own entries have these more, and it met nobody.
pub record Steps (base : ℕ) (task left : Task) (v w : View Entry) (fault : Option SeatFault) : Type 0 where
  pub entries : List Entry
  pub mine : w.mine ≡ v.mine ++ entries
  pub ended : w.ended ≡ v.ended
  pub answers : Answers task left entries
  pub counts : Counts base (task ∷ []) (left ∷ []) v w fault

-- how many events are left, by which a worker comes to its end
abbrev pub events_left : Task → ℕ
events_left (Client client commands) = length (deque_items commands)
events_left (Collector count) = count
events_left (Flusher count) = count

-- What the next event of a task did: one was made, and fewer are left; or a fault was answered, and all are left that
-- were, of which there is one; or there is none, and nothing was done.
abbrev pub TakesNext : ℕ → Task → Task → Pass Entry → Pass Entry → Option (Result (Unit {0}) SeatFault) → Type 0
TakesNext base task left old new None = (left ≡ task) × (new ≡ old) × IsDone left
TakesNext base task left old new (Some (Ok made)) =
    Steps base task left (view_of old) (view_of new) None × (events_left left < events_left task)
TakesNext base task left old new (Some (Err fault)) =
    Steps base task left (view_of old) (view_of new) (Some fault) × (left ≡ task) × HasLeft left

-- A worker has made its task, event after event, until nothing was left or a fault was answered.
pub record Works (base : ℕ) (task left : Task) (v w : View Entry) (fault : Option SeatFault) : Type 0 where
  pub steps : Steps base task left v w fault
  pub ends : Ends left fault

-- Each of these workers has made its task until it ended with this fault, or with none, and has one of these pairs: the
-- number of its pass, and the entries that it made. One that got no pass has none, and its task is left.
abbrev pub Each : List Task → List Task → List (Option SeatFault) → List (ℕ × List Entry) → Type 0
Each [] [] [] pairs = pairs ≡ []
Each (task ∷ tasks) (left ∷ lefts) (met ∷ mets) pairs =
    Ends left met
    × (((pair : ℕ × List Entry) × (others : List (ℕ × List Entry)) × (pairs ≡ pair ∷ others)
    × Answers task left pair.1 × Each tasks lefts mets others)
    ⊎ ((left ≡ task) × Each tasks lefts mets pairs))
Each tasks lefts mets pairs = ⊥

-- Workers have made these tasks. The first one has this pass, and the pass has the pairs of the others from then on.
pub record WorkTogether (base : ℕ) (tasks left : List Task) (v w : View Entry) (fault : Option SeatFault) : Type 0 where
  pub entries : List Entry
  pub others : List (ℕ × List Entry)
  pub met : List (Option SeatFault)
  pub mine : w.mine ≡ v.mine ++ entries
  pub ended : w.ended ≡ v.ended ++ others
  pub each : Each tasks left met ((v.number, entries) ∷ others)
  pub worst : fault ≡ worst_of met
  pub counts : Counts base tasks left v w fault
