use Rattle.std.proofs.Common.{◌≡◌, ◌≤◌, ◌+◌, ℕ, take, get_or, None}
use Rattle.pm_view.specs.Reading.{aside_in}
use Rattle.pm_view.specs.Barrier.{told}
use Rattle.pm_view.specs.Collecting.{field_news}
use Rattle.pm_space.specs.Linked.{sets_of, queues_of, HasRoom}
use Rattle.pm_evac.specs.Relocate.Named.{named_by}
use Rattle.pm_evac.specs.Relocate.Moves.{move_tells}
use Rattle.pm_evac.proofs.relocate.telling.tell_moved.Given as goal

-- the cars heard of the fields so far, and there is room for what they hear of the others
abbrev pub invariant-loop-index : goal.invariant-loop-index
invariant-loop-index l = record {
  sets : sets_of l.links ≡ sets_of l.initial.links;
  queues : queues_of l.links ≡ told (queues_of l.initial.links) (field_news (λ index field. move_tells (aside_in l.phase l.trains.trains) l.from l.to index field (get_or l.new index None)) 0 (take l.index l.old));
  room : (car count : ℕ) → named_by (take l.index l.old) car + named_by (take l.index l.new) car + count ≤ named_by l.old car + named_by l.new car → HasRoom l.links car count;
}
