use Rattle.std.proofs.Common.{◌≡◌, drop}
use Rattle.std.specs.List.{flat_map}
use Rattle.pm_types.specs.declared.limits.TheConstants.{CAR_HEAD_BYTES}
use Rattle.pm_image.specs.declared.settled.KeptPage.{KeptPage}
use Rattle.pm_image.specs.Graphs.{record_sites}
use Rattle.pm_graphs.specs.Linking.{linked_by}
use Rattle.pm_graphs.proofs.links.check_cars.Given as goal

abbrev pub invariant-loop-kept : goal.invariant-loop-kept
invariant-loop-kept l = record {
  so_far : linked_by l.leads (flat_map (λ (kept : KeptPage). record_sites kept.page CAR_HEAD_BYTES kept.image.slots) l.cars)
      ≡ linked_by l.leads (flat_map (λ (kept : KeptPage). record_sites kept.page CAR_HEAD_BYTES kept.image.slots) (drop l.kept-index l.cars));
}
