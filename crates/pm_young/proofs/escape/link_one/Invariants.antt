use Rattle.std.proofs.Common.{◌≡◌, slice_index, take}
use Rattle.std.specs.FinMap.{get}
use Rattle.pm_space.specs.Shown.{view, KeepsRest}
use Rattle.pm_young.specs.Rows.{fields_of, place_at, placed_among, with_links}
use Rattle.pm_young.proofs.Linked.{Filling}
use Rattle.pm_young.proofs.escape.link_one.Given as goal

-- so many fields of the object are set
abbrev pub invariant-loop-field : goal.invariant-loop-field
invariant-loop-field g l = record {
  so_far : Filling (view l.fn.space.parts) (view l.space.parts) l.nursery.objects l.ids l.fn.index l.field;
  rows : view l.space.parts ≡ with_links (view l.fn.space.parts) (placed_among l.ids l.places) (place_at l.places l.fn.index) 0 (take l.field (fields_of (get l.nursery.objects (slice_index l.ids l.fn.index))));
  rest : KeepsRest l.fn.space.parts l.space.parts;
}
