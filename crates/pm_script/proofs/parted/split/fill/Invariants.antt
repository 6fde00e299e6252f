use Rattle.std.proofs.Common.{◌≡◌, ℕ, ◌+◌, ◌++◌, length, map}
use Rattle.std.specs.List.{AllByRecursion}
use Rattle.std.specs.VecDeque.{deque_items}
use Rattle.pm_model.specs.Journal.{commands_of}
use Rattle.pm_script.specs.Script.{first_of}
use Rattle.pm_script.specs.Words.{IsFirst}
use Rattle.pm_script.specs.Parted.Asked.{requests_asked}
use Rattle.pm_script.specs.Parted.Lists.{count_left, list_of}
use Rattle.pm_script.proofs.parted.split.fill.Given as goal

-- each client's commands so far are in its list, and the others are asked by the lines that are left
abbrev pub invariant-loop-line : goal.invariant-loop-line
invariant-loop-line l = record {
  clients : AllByRecursion (λ line. IsFirst (first_of line)) l.rest.items;
  each : (client : ℕ) → list_of (map deque_items l.queues) client ++ commands_of client (requests_asked l.rest.items) ≡ commands_of client (requests_asked l.fn.lines.items);
  all : count_left (map deque_items l.queues) + length (requests_asked l.rest.items) ≡ length (requests_asked l.fn.lines.items);
}

abbrev pub decreases-loop-line : goal.decreases-loop-line
decreases-loop-line l = length l.rest.items
