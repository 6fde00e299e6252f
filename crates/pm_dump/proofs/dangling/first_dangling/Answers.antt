use Rattle.std.proofs.Common.{◌∙◌, ◌+◌, ap, arith}
use Rattle.pm_dump.specs.Read.{dump_in}
use Rattle.pm_dump.proofs.Strays.{object_strays, root_strays, none_strays, stray_below, root_below}
use Rattle.pm_dump.proofs.dangling.first_dangling.Goals as goal

pub object_line-requires : goal.object_line-requires
object_line-requires c =
    let parts = c.args.parts.now in
    let lt = stray_below parts.places.items parts.fields.items parts.bytes.items c.in-Some.at c.in-Some.ensures in
    let long = parts.places.ok in
    let small = parts.places.small in
    omega (arith, lt, long.0, long.1, small)

pub root_line-requires-clause-objects : goal.root_line-requires-clause-objects
root_line-requires-clause-objects c =
    let long = c.len.ensures in
    let room = c.args.parts.now.places.ok in
    let small = c.args.parts.now.places.small in
    omega (arith, long, room.1, small)

pub root_line-requires-clause-roots : goal.root_line-requires-clause-roots
root_line-requires-clause-roots c =
    let parts = c.args.parts.now in
    let lt = root_below parts.places.items parts.roots.items c.in-Some-stray_root.at c.in-Some-stray_root.ensures in
    let long = parts.roots.ok in
    let small = parts.roots.small in
    omega (arith, lt, long.0, long.1, small)

pub returns-in-Some : goal.returns-in-Some
returns-in-Some c =
    let parts = c.args.parts.now in
    object_strays parts.places.items parts.fields.items parts.bytes.items (dump_in parts).roots parts.next c.in-Some.at c.object_line.result c.object_line.ensures c.in-Some.ensures

pub returns-in-Some-stray_root : goal.returns-in-Some-stray_root
returns-in-Some-stray_root c =
    let parts = c.args.parts.now in
    root_strays parts.places.items parts.fields.items parts.bytes.items (dump_in parts).roots parts.next c.in-Some-stray_root.at c.root_line.result
    (c.root_line.ensures ∙ ap (λ n. n + 2 + c.in-Some-stray_root.at) (c.len.ensures ∙ parts.places.ok.0)) c.in-None.ensures c.in-Some-stray_root.ensures

pub returns-in-None-stray_root : goal.returns-in-None-stray_root
returns-in-None-stray_root c =
    let parts = c.args.parts.now in
    none_strays parts.places.items parts.fields.items parts.bytes.items (dump_in parts).roots parts.next c.in-None.ensures c.in-None-stray_root.ensures
