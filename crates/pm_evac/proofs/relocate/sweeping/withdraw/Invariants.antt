use Rattle.std.proofs.Common.{◌≡◌, ◌≤◌, ◌+◌, ℕ, take}
use Rattle.pm_types.specs.declared.source.RefSource.TheVariants.{Field}
use Rattle.pm_view.specs.Reading.{aside_in}
use Rattle.pm_view.specs.Barrier.{left, told}
use Rattle.pm_view.specs.Collecting.{field_news}
use Rattle.pm_space.specs.Linked.{sets_of, queues_of, HasRoom}
use Rattle.pm_evac.specs.Relocate.Named.{named_by}
use Rattle.pm_evac.proofs.relocate.sweeping.withdraw.Given as goal

-- the cars heard of the fields so far, and there is room for what they hear of the others
abbrev pub invariant-loop-index : goal.invariant-loop-index
invariant-loop-index l = record {
  sets : sets_of l.links ≡ sets_of l.initial.links;
  queues : queues_of l.links ≡ told (queues_of l.initial.links) (field_news (λ index field. left (aside_in l.phase l.trains.trains) (Field l.at index) field) 0 (take l.index l.fields));
  room : (car count : ℕ) → named_by (take l.index l.fields) car + count ≤ named_by l.fields car → HasRoom l.links car count;
}
