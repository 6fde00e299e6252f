-- What is left of tasks.
use Rattle.std.specs.Prelude.{◌≡◌, ◌≢◌, ◌⊎◌, ℕ, suc, ◌<◌, List, [], ◌∷◌, ◌++◌, if◌then◌else◌, nat_eq}
use Rattle.std.specs.List.{AllByRecursion}
use Rattle.std.specs.VecDeque.{deque_items}
use Rattle.std.specs.declared.collections.VecDeque.{VecDeque}
use Rattle.std.specs.declared.alloc.Global.{Global}
use Rattle.pm_types.specs.declared.command.Cmd.{Cmd}
use Rattle.pm_types.specs.declared.limits.TheConstants.{CLIENTS}
use Rattle.pm_passes.specs.Numbering.{total}
use Rattle.pm_lock.specs.declared.workers.TheConstants.{COLLECTOR, FLUSHER}
use Rattle.pm_callers.specs.declared.task.Task.{Task}
use Rattle.pm_callers.specs.declared.task.Task.TheVariants.{Client, Collector, Flusher}

-- the number of its worker
abbrev pub who_of : Task → ℕ
who_of (Client client commands) = client
who_of (Collector count) = COLLECTOR
who_of (Flusher count) = FLUSHER

-- where it is a client's, that is one of the eight
abbrev pub IsTask : Task → Type 0
IsTask (Client client commands) = client < CLIENTS
IsTask (Collector count) = Unit {0}
IsTask (Flusher count) = Unit {0}

-- the commands of this client that are left in it
abbrev pub calls_in : ℕ → Task → List Cmd
calls_in client (Client who commands) = if nat_eq who client then deque_items commands else []
calls_in client (Collector count) = []
calls_in client (Flusher count) = []

-- the events of the collector, and the flush events, that are left in it
abbrev pub collects_in : Task → ℕ
collects_in (Client client commands) = 0
collects_in (Collector count) = count
collects_in (Flusher count) = 0

abbrev pub flushes_in : Task → ℕ
flushes_in (Client client commands) = 0
flushes_in (Collector count) = 0
flushes_in (Flusher count) = count

-- the same of several tasks
abbrev pub calls_left : ℕ → List Task → List Cmd
calls_left client [] = []
calls_left client (task ∷ tasks) = calls_in client task ++ calls_left client tasks

abbrev pub collects_left : List Task → ℕ
collects_left tasks = total collects_in tasks

abbrev pub flushes_left : List Task → ℕ
flushes_left tasks = total flushes_in tasks

-- nothing is left
abbrev pub IsDone : Task → Type 0
IsDone (Client client commands) = deque_items commands ≡ []
IsDone (Collector count) = count ≡ 0
IsDone (Flusher count) = count ≡ 0

-- something is left
abbrev pub HasLeft : Task → Type 0
HasLeft (Client client commands) = (cmd : Cmd) × (rest : List Cmd) × (deque_items commands ≡ cmd ∷ rest)
HasLeft (Collector count) = 0 < count
HasLeft (Flusher count) = 0 < count

-- of one task at least something is left
abbrev pub SomeLeft : List Task → Type 0
SomeLeft [] = ⊥
SomeLeft (task ∷ tasks) = HasLeft task ⊎ SomeLeft tasks

-- they are of different workers
abbrev pub AreApart : List Task → Type 0
AreApart [] = Unit {0}
AreApart (task ∷ tasks) = AllByRecursion (λ other. who_of task ≢ who_of other) tasks × AreApart tasks

-- the clients from this one on, each with its list
abbrev pub client_tasks : ℕ → List (VecDeque Cmd Global) → List Task
client_tasks client [] = []
client_tasks client (list ∷ lists) = Client client list ∷ client_tasks (suc client) lists
