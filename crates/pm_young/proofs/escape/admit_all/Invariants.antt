use Rattle.std.proofs.Common.{◌+◌, ◌≤◌, length, vec_capacity}
use Rattle.pm_space.specs.Shown.{view, KeepsRest}
use Rattle.pm_young.proofs.Admitted.{Admitting}
use Rattle.pm_young.proofs.escape.admit_all.Given as goal

-- so many came in, and there is room for the others
abbrev pub invariant-loop-id : goal.invariant-loop-id
invariant-loop-id g l = record {
  so_far : Admitting (view l.fn.space.parts) (view l.space.parts) l.nursery.objects l.ids l.fn.entered.items l.entered.items l.places.items l.id-index;
  rest : KeepsRest l.fn.space.parts l.space.parts;
  room : length l.fn.entered.items + length l.ids ≤ vec_capacity l.entered;
  place_room : length l.ids ≤ vec_capacity l.places;
}
