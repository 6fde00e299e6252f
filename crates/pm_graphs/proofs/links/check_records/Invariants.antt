use Rattle.std.proofs.Common.{◌≡◌, ◌+◌, drop}
use Rattle.pm_types.specs.declared.limits.TheConstants.{CAR_HEAD_BYTES}
use Rattle.pm_image.specs.CarPages.{car_used}
use Rattle.pm_image.specs.Graphs.{record_sites}
use Rattle.pm_graphs.specs.Linking.{linked_by}
use Rattle.pm_graphs.proofs.links.check_records.Given as goal

abbrev pub invariant-loop-listed : goal.invariant-loop-listed
invariant-loop-listed l = record {
  place : l.at + car_used (drop l.listed-index l.slots) ≡ CAR_HEAD_BYTES + car_used l.slots;
  so_far : linked_by l.leads (record_sites l.page CAR_HEAD_BYTES l.slots) ≡ linked_by l.leads (record_sites l.page l.at (drop l.listed-index l.slots));
}
