use Rattle.std.proofs.Common.{◌+◌, arith}
use Rattle.pm_image.proofs.CatalogSizes.{used_more, used_front, entries_more}
use Rattle.pm_image.proofs.catalog_writing.put_entries.Goals as goal

pub put_entry-requires : goal.put_entry-requires
put_entry-requires c =
    let one = used_more c.args.entries.now c.loop-entry.entry-index c.entry-item.result c.loop-entry-test.true c.entry-item.is in
    let front = used_front c.args.entries.now (c.loop-entry.entry-index + 1) in
    omega (arith, c.loop-entry.invariant.so_far.capacity)

pub loop-entry-preserved : goal.loop-entry-preserved
loop-entry-preserved c =
    let one = used_more c.args.entries.now c.loop-entry.entry-index c.entry-item.result c.loop-entry-test.true c.entry-item.is in
    record {
      so_far = entries_more c.args.out.now c.loop-entry.out c.put_entry.new.out c.args.entries.now c.loop-entry.entry-index c.entry-item.result c.loop-entry-test.true c.entry-item.is c.loop-entry.invariant.so_far c.put_entry.ensures.text;
      counted = omega (arith, c.put_entry.ensures.text.len, c.put_entry.ensures.sized, c.loop-entry.invariant.counted);
    }
