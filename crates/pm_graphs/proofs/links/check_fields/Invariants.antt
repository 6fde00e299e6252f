use Rattle.std.proofs.Common.{◌≡◌, ◌+◌, ◌*◌, drop}
use Rattle.pm_image.specs.Graphs.{field_sites}
use Rattle.pm_graphs.specs.Linking.{linked_by}
use Rattle.pm_graphs.proofs.links.check_fields.Given as goal

abbrev pub invariant-loop-field : goal.invariant-loop-field
invariant-loop-field l = record {
  place : l.at ≡ l.start + 12 * l.field-index;
  so_far : linked_by l.leads (field_sites l.page l.start l.fields) ≡ linked_by l.leads (field_sites l.page l.at (drop l.field-index l.fields));
}
