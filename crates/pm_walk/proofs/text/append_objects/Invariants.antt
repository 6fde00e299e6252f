use Rattle.std.proofs.Common.{◌≡◌, ◌++◌, ℕ}
use Rattle.std.specs.List.{flat_map, AllByRecursion}
use Rattle.std.specs.Option.{IsSome}
use Rattle.pm_types.specs.declared.address.Addr.{Addr}
use Rattle.pm_view.specs.Reading.{object_at}
use Rattle.pm_space.specs.Shown.{view}
use Rattle.pm_walk.specs.Lines.{found_line}
use Rattle.pm_walk.proofs.text.append_objects.Given as goal

-- what is still to come
abbrev pub invariant-loop-id : goal.invariant-loop-id
invariant-loop-id g l = record {
  text : l.out.items ++ flat_map (found_line (view l.parts)) l.id-iterator ≡ l.initial.out.items ++ flat_map (found_line (view l.parts)) l.met.entries;
  stand : AllByRecursion (λ (e : ℕ × Addr). IsSome (object_at (view l.parts).cars e.1)) l.id-iterator;
}
