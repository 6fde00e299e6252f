use Rattle.std.proofs.Common.{◌≡◌, ◌+◌, ◌++◌, length}
use Rattle.pm_callers.specs.Tasks.{client_tasks}
use Rattle.pm_callers.proofs.task.tasks_of.Given as goal

abbrev pub invariant-loop-commands : goal.invariant-loop-commands
invariant-loop-commands l = (l.tasks.items ++ client_tasks l.client l.rest.items ≡ client_tasks 0 l.fn.lists.items) × (l.client + length l.rest.items ≡ 8)

abbrev pub decreases-loop-commands : goal.decreases-loop-commands
decreases-loop-commands l = length l.rest.items
