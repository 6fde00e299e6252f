use Rattle.std.proofs.Common.{◌≡◌, Some}
use Rattle.std.specs.FinMap.{get}
use Rattle.pm_model.specs.Heap.{field_of}
use Rattle.pm_young.proofs.Fields.{holds_field}
use Rattle.pm_young.proofs.alone.load.Goals as goal

pub hold-requires-clause-there : goal.hold-requires-clause-there
hold-requires-clause-there c =
    let one = c.field.ensures in
    let two = c.in-Some-Some.is in
    let three = c.in-Some-Some.field-0-is in
    let field : field_of (get c.args.nursery.now.objects c.in-Some.id) c.args.index ≡ Some (Some c.in-Some-Some.found) = cc (one, two, three) in
    c.sound.ensures.closed c.in-Some.id c.in-Some-Some.found (holds_field (get c.args.nursery.now.objects c.in-Some.id) c.args.index c.in-Some-Some.found field)
