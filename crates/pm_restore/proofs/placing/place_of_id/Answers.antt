use Rattle.std.proofs.Common.{◌+◌, ◌-◌, ◌/◌, arith}
use Rattle.pm_dump.specs.Lent.{object_shown}
use Rattle.pm_restore.proofs.SearchLemmas.{place_within, stands_before, stands_behind}
use Rattle.pm_restore.proofs.placing.place_of_id.Goals as goal

pub halves-init : goal.halves-init
halves-init c =
    let inside = place_within c.args.dump.now.objects c.args.id c.requires.listed in
    let count = c.object_count-high.ensures in
    record { low = omega arith; high = omega (arith, inside, count); within = omega (arith, count) }

pub halves-preserved-then-object-id : goal.halves-preserved-then-object-id
halves-preserved-then-object-id c =
    let is = c.halves.invariant in
    let before = stands_before c.args.dump.now.objects c.args.id (c.halves.low + (c.halves.high - c.halves.low) / 2) (object_shown c.object.result) c.requires.sound.ascend c.requires.listed c.object.ensures c.if-object-id.true in
    record { low = omega (arith, before); high = is.high; within = is.within }

pub halves-preserved : goal.halves-preserved
halves-preserved c =
    let is = c.halves.invariant in
    let within = is.within in
    let more = c.halves-test.true in
    record {
      low = is.low;
      high = stands_behind c.args.dump.now.objects c.args.id (c.halves.low + (c.halves.high - c.halves.low) / 2) (object_shown c.object.result) c.requires.sound.ascend c.requires.listed c.object.ensures c.if-object-id.false;
      within = omega (arith, within, more);
    }
