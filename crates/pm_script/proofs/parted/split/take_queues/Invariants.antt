use Rattle.std.proofs.Common.{◌≡◌, ℕ, [], map, take}
use Rattle.std.specs.VecDeque.{deque_capacity, deque_items}
use Rattle.pm_script.proofs.parted.split.take_queues.Given as goal

-- there is an empty queue for each count so far, with that room
abbrev pub invariant-loop-count : goal.invariant-loop-count
invariant-loop-count l = record {
  empty : map deque_items l.queues.items ≡ map (λ (count : ℕ). []) (take l.count-index l.counts);
  room : map deque_capacity l.queues.items ≡ take l.count-index l.counts;
}
