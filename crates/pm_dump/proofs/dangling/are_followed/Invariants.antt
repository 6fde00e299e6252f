use Rattle.std.proofs.Common.{drop}
use Rattle.pm_dump.specs.Read.{AreAmong}
use Rattle.pm_dump.proofs.dangling.are_followed.Given as goal

abbrev pub invariant-loop-field : goal.invariant-loop-field
invariant-loop-field l = record {
  back : AreAmong l.places (drop l.field-index l.fields) → AreAmong l.places l.fields;
  on : AreAmong l.places l.fields → AreAmong l.places (drop l.field-index l.fields);
}
