use Rattle.std.proofs.Common.{◌≡◌, take}
use Rattle.pm_space.specs.Shown.{view, KeepsRest}
use Rattle.pm_young.specs.Rows.{placed_among, with_all_links}
use Rattle.pm_young.proofs.Linked.{Linking}
use Rattle.pm_young.proofs.escape.link_all.Given as goal

-- so many objects have their fields
abbrev pub invariant-loop-index : goal.invariant-loop-index
invariant-loop-index g l = record {
  so_far : Linking (view l.fn.space.parts) (view l.space.parts) l.nursery.objects l.ids l.index;
  rows : view l.space.parts ≡ with_all_links (view l.fn.space.parts) l.nursery.objects (placed_among l.ids l.places) (take l.index l.ids) (take l.index l.places);
  rest : KeepsRest l.fn.space.parts l.space.parts;
}
