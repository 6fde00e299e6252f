use Rattle.std.proofs.Common.{◌≡◌, ◌-◌, ◌+◌, ◌*◌}
use Rattle.pm_layout.specs.Reading.{fields_at}
use Rattle.pm_types.proofs.Fronts.{with_front}
use Rattle.pm_layout.proofs.reading.fields_at.Given as goal

abbrev pub invariant-loop : goal.invariant-loop
invariant-loop l = record {
  so_far : with_front l.fields.items (fields_at l.bytes (l.count - l.counter) l.place) ≡ fields_at l.bytes l.count l.start;
  inside : l.place + 12 * (l.count - l.counter) ≡ l.start + 12 * l.count;
}
