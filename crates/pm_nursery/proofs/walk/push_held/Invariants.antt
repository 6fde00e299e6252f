use Rattle.std.proofs.Common.{◌≡◌, ◌++◌, take}
use Rattle.std.specs.List.{flat_map}
use Rattle.pm_model.specs.Copying.{field_id}
use Rattle.pm_nursery.proofs.walk.push_held.Given as goal

abbrev pub invariant-loop-field : goal.invariant-loop-field
invariant-loop-field l = l.pending.items ≡ l.initial.pending.items ++ flat_map field_id (take l.field-index l.fields)
