use Rattle.std.proofs.Common.{◌≡◌, ◌≤◌, ℕ, List, length, Option, Some, option_map, sym, ap, subst, ◌∙◌, arith}
use Rattle.std.specs.FinMap.{get}
use Rattle.pm_types.specs.declared.limits.TheConstants.{OBJECT_BYTES}
use Rattle.pm_young.proofs.alone.data.Goals as goal

pub returns-clause-short : goal.returns-clause-short
returns-clause-short c =
    let young = c.in-Some-get.young in
    let here : get c.args.nursery.now.objects c.in-Some.id ≡ Some young.now = sym c.in-Some-get.ensures in
    let small = (c.sound.ensures.small c.in-Some.id young.now here).1 in
    let bytes = ap length c.bytes.ensures in
    let many = c.in_ok-bytes.ensures.len in
    let same = ap length c.from_vec.ensures in
    omega (arith, small, bytes, many, same)
